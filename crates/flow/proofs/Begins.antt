-- Where the edges from each vertex begin, found by their last ones, since the list ascends.
use Prim.Native.Nat.{ℕ, zero, suc, ◌+◌, ◌-◌, ◌*◌, ◌≤◌, ◌<◌, max}
use mathlib.Core.Path.{◌≡◌, refl, sym, ◌∙◌}
use mathlib.Core.List.{List}
use mathlib.Core.Bool.{true}
use native.Mathlib.Omega.{arith}
use lib.ListN.{length, get_or, set, replicate, length-replicate, length-set}
use lib.Seq.{get_or-set_same, get_or-set_other}
use lib.Dec.{ltb, eqb}
use borrow.Author.Tests.{ltb-true, eqb-true}
use Rattle.model.specs.declared.Problem.{Problem}
use Rattle.model.specs.Numbers.{problem_of}
use Rattle.model.specs.Graph.{edges_of}
use Rattle.model.specs.Operations.{Checked}
use Rattle.model.specs.File.{edge_before}
use Rattle.model.proofs.Cases.{by_bool, by_order, by_same, true_not_false}
use Rattle.model.proofs.Lists.{get_or-replicate_self}
use Rattle.lookup.proofs.Places.{facts, listed_edge, from_at}
use Rattle.flow.specs.Starts.{from, Ends, Begins, Starts}
use Rattle.model.specs.Places as places

not_lower : (a b c d : ℕ) → edge_before a b c d ≡ true → a ≤ c
unfolding edge_before
not_lower a b c d h = by_bool (ltb a c)
    (λ e. omega (arith, ltb-true a c e))
    (λ e. by_bool (eqb a c)
    (λ q. omega (arith, eqb-true a c q))
    (λ q. true_not_false (sym (rw (e, q) at h))))

module _ (l : List ℕ) (ok : Checked l) where
  -- The edges ascend by their starts.
  step_up : (i : ℕ) → i + 1 < length (edges_of (problem_of l)) → from (problem_of l) i ≤ from (problem_of l) (i + 1)
  step_up i here =
      let listed : i + 1 < get_or l places.edge_count 0 = listed_edge l (facts l ok) (i + 1) here in
      omega (
        arith,
        from_at l (facts l ok) i (omega arith),
        from_at l (facts l ok) (i + 1) here,
        not_lower (get_or l (places.from + places.edge_width * i) 0) _ (get_or l (places.from + places.edge_width * (i + 1)) 0) _ ((facts l ok).ascend i listed),
      )

  rising_by : (i k : ℕ) → i + k < length (edges_of (problem_of l)) → from (problem_of l) i ≤ from (problem_of l) (i + k)
  rising_by i zero here = let e : i + zero ≡ i = omega arith in rw e (omega arith)
  rising_by i (suc k) here =
      let e : i + suc k ≡ i + k + 1 = omega arith in
      rw e (omega (arith, rising_by i k (omega arith), step_up (i + k) (omega arith)))

  rising : (i j : ℕ) → i ≤ j → j < length (edges_of (problem_of l)) → from (problem_of l) i ≤ from (problem_of l) j
  rising i j le here = let e : i + (j - i) ≡ j = omega arith in rw e at (rising_by i (j - i) (omega arith))

  -- Edges from u on begin at i: those from the next vertex on begin behind the last edge from u, or at i too.
  pub next_begins : (u i : ℕ) (behind : List ℕ) → Ends (problem_of l) (length (edges_of (problem_of l))) behind → Begins (problem_of l) u i →
      Begins (problem_of l) (u + 1) (max (get_or behind (u + 1) 0) i)
  next_begins u i behind ends begins = record {
    inside = omega (arith, ends.low (u + 1), begins.inside);
    lower = λ j lt. by_order j i
        (λ low. omega (arith, begins.lower j low))
        (λ high.
        let top = get_or behind (u + 1) 0 - 1 in
        let e : get_or behind (u + 1) 0 ≡ top + 1 = omega arith in
        omega (arith, ends.last (u + 1) top e, rising j top (omega arith) (omega (arith, ends.low (u + 1)))));
    rest = λ j le lt. by_order u (from (problem_of l) j)
        (λ up. omega arith)
        (λ down.
        let e : from (problem_of l) j ≡ u = omega (arith, begins.rest j (omega arith) lt) in
        absurd (omega (arith, rw e at (ends.past j lt))));
  }

module _ (p : Problem) where
  pub no_end : Ends p 0 (replicate (places.most_vertices + 1) 0)
  no_end = record {
    long = length-replicate {A = ℕ} (places.most_vertices + 1) 0;
    low = λ x. omega (arith, get_or-replicate_self {A = ℕ} (places.most_vertices + 1) x 0);
    last = λ x k e. absurd (omega (arith, get_or-replicate_self {A = ℕ} (places.most_vertices + 1) x 0));
    past = λ j lt. absurd (omega arith);
  }

  pub one_end : (i u : ℕ) (behind : List ℕ) → u ≡ from p i → u < places.most_vertices → Ends p i behind → Ends p (i + 1) (set behind (u + 1) (i + 1))
  one_end i u behind is_u small ends = record {
    long = length-set behind (u + 1) (i + 1) ∙ ends.long;
    low = λ x. by_same x (u + 1)
        (λ e. rw (e, here) (omega arith))
        (λ ne. rw (there x ne) (omega (arith, ends.low x)));
    last = λ x k q. by_same x (u + 1)
        (λ e.
        let n : k ≡ i = omega (arith, rw (e, here) at q) in
        rw n (omega arith))
        (λ ne. ends.last x k (sym (there x ne) ∙ q));
    past = λ j lt. by_same (from p j + 1) (u + 1)
        (λ e. rw (e, here) (omega arith))
        (λ ne.
        let other : j ≡ i → ⊥ = λ q. ne (rw q (omega arith)) in
        rw (there (from p j + 1) ne) (ends.past j (omega arith)));
  }
    where
      here : get_or (set behind (u + 1) (i + 1)) (u + 1) 0 ≡ i + 1
      here = get_or-set_same behind (u + 1) (i + 1) 0 (omega (arith, ends.long))

      there : (x : ℕ) → (x ≡ u + 1 → ⊥) → get_or (set behind (u + 1) (i + 1)) x 0 ≡ get_or behind x 0
      there x ne = get_or-set_other behind (u + 1) x (i + 1) 0 ne

  -- Where the edges from the vertices up to u begin; behind them the table is as it was.
  pub record Found (behind : List ℕ) (u : ℕ) (begins : List ℕ) : Type 0 where
    pub long : length begins ≡ places.most_vertices + 1
    pub all : (x : ℕ) → x ≤ u → Begins p x (get_or begins x 0)
    pub rest : (x : ℕ) → u < x → get_or begins x 0 ≡ get_or behind x 0

  pub none_found : (behind : List ℕ) → Ends p (length (edges_of p)) behind → Found behind 0 behind
  none_found behind ends = record { long = ends.long; all = λ x le. let e : x ≡ 0 = omega arith in rw (e, nothing) first; rest = λ x lt. refl }
    where
      nothing : get_or behind 0 0 ≡ 0
      nothing = by_same (get_or behind 0 0) 0 (λ e. e) (λ ne.
          let e : get_or behind 0 0 ≡ get_or behind 0 0 - 1 + 1 = omega arith in
          absurd (omega (arith, ends.last 0 (get_or behind 0 0 - 1) e)))

      first : Begins p 0 0
      first = record { inside = omega arith; lower = λ j lt. absurd (omega arith); rest = λ j le lt. omega arith }

  pub all_found : {behind begins : List ℕ} → Found behind p.vertex_count begins → Starts p begins
  all_found f = record { at = f.all }

pub one_found : {l behind begins : List ℕ} {u next : ℕ} → Checked l → Ends (problem_of l) (length (edges_of (problem_of l))) behind → u < places.most_vertices →
    next ≡ max (get_or begins (u + 1) 0) (get_or begins u 0) → Found (problem_of l) behind u begins → Found (problem_of l) behind (u + 1) (set begins (u + 1) next)
one_found {l} {behind} {begins} {u} {next} ok ends small is_next f = record {
  long = length-set begins (u + 1) next ∙ f.long;
  all = λ x le. by_order x (u + 1)
      (λ low. rw (get_or-set_other begins (u + 1) x next 0 (omega arith)) (f.all x (omega arith)))
      (λ high.
      let e : x ≡ u + 1 = omega arith in
      rw (e, get_or-set_same begins (u + 1) next 0 (omega (arith, f.long)), is_next, f.rest (u + 1) (omega arith))
      (next_begins l ok u (get_or begins u 0) behind ends (f.all u (omega arith))));
  rest = λ x lt. get_or-set_other begins (u + 1) x next 0 (omega arith) ∙ f.rest x (omega arith);
}
