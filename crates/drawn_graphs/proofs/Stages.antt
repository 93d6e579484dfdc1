-- The head's and the graphs' checks: what each function returns is what the definition says.
use Prim.Native.Nat.{ℕ, ◌+◌, ◌≤◌, ◌<◌}
use Rattle.std.specs.Prelude.{Err, Ok}
use Rattle.model.specs.Refusals.{Verdict}
use mathlib.Core.Path.{◌≡◌, refl, sym, ap, ◌∙◌}
use mathlib.Core.List.{List}
use mathlib.Core.Bool.{Bool, true, cond, ◌&&◌}
use native.Mathlib.Omega.{arith}
use lib.Dec.{leb}
use borrow.Author.Tests.{lt-leb, le-leb}
use Rattle.std.specs.Ordering.{nat_cmp, is_le}
use Rattle.std.specs.Cmp.{nat_cmp_is}
use Rattle.std.specs.declared.cmp.Ordering.TheVariants.{Less, Equal, Greater}
use Rattle.model.specs.declared.Refusal.{Refusal}
use Rattle.model.specs.declared.Refusal.TheVariants.{OutOfRange}
use Rattle.model.specs.Rows as rows
use Rattle.model.specs.Refusals.{placed_at}
use Rattle.model.specs.Verdicts.{judge_problem}
use Rattle.model.specs.Drawings.{drawn_scratchpad, drawn_functions, graph_of}
use Rattle.model.specs.Inlined.{is_refused, placed_in, in_limits, bad_graph, judge_head, judge_graphs}
use Rattle.model.proofs.Cases.{by_order}
use Rattle.model.proofs.Search.{Searched, miss, hit, exists_hit, exists_none}

-- A test of a range's limit as the model writes it.
is_le-leb : (a b : ℕ) → is_le (nat_cmp a b) ≡ leb a b
is_le-leb a b =
    by_order b a
    (λ h. ap is_le (sym (nat_cmp_is a b Greater h)) ∙ sym (lt-leb a b h))
    (λ h. by_order a b
    (λ k. ap is_le (sym (nat_cmp_is a b Less k)) ∙ sym (le-leb a b h))
    (λ k. ap is_le (sym (nat_cmp_is a b Equal (omega arith))) ∙ sym (le-leb a b h)))

-- The head, where the tests of its two numbers gave these.
pub head_told : (d : List ℕ) {scratchpad functions : Bool} →
    in_limits rows.scratchpad (drawn_scratchpad d) ≡ scratchpad → in_limits rows.function_count (drawn_functions d) ≡ functions →
    cond (scratchpad && functions) (Ok tt) (Err (OutOfRange 0)) ≡ judge_head d
unfolding judge_head
head_told d first second = sym (λ i. cond (first i && second i) (Ok tt) (Err (OutOfRange 0)))

pub limit_told : (most : ℕ) {n m : ℕ} {a b : Bool} → n ≡ m → a ≡ (is_le (nat_cmp 1 n) && is_le (nat_cmp n most)) → a ≡ b → (leb 1 m && leb m most) ≡ b
limit_told most {n} is told e =
    ap (λ (k : ℕ). leb 1 k && leb k most) (sym is) ∙ sym (told ∙ (λ i. is_le-leb 1 n i && is_le-leb n most i)) ∙ e

-- A verdict placed at f.
module _ (f : ℕ) (v w : Verdict) (is : v ≡ w) where
  pub placed_accepted : v ≡ Ok tt → v ≡ placed_in f w
  placed_accepted e = e ∙ ap (placed_in f) (sym e ∙ is)

  pub placed_refused : (r there : Refusal) → v ≡ Err r → there ≡ placed_at r f → Err there ≡ placed_in f w
  placed_refused r there e placed = ap Err placed ∙ ap (placed_in f) (sym e ∙ is)

same_refused : (f : ℕ) (v : Verdict) → is_refused (placed_in f v) ≡ is_refused v
same_refused f (Ok tt) = refl
same_refused f (Err r) = refl

-- The search for the lowest bad graph.
module _ (d : List ℕ) (f : ℕ) (searched : Searched (drawn_functions d) (bad_graph d) f) where
  module _ (below : f < drawn_functions d) (v : Verdict) (is : v ≡ placed_in f (judge_problem (graph_of d f))) where
    told : (w : Verdict) → v ≡ w → bad_graph d f ≡ is_refused w
    told w e = sym (same_refused f (judge_problem (graph_of d f))) ∙ ap is_refused (sym is ∙ e)

    pub graph_good : v ≡ Ok tt → Searched (drawn_functions d) (bad_graph d) (f + 1)
    graph_good e = miss searched below (told (Ok tt) e)

    pub graph_bad : (r : Refusal) → v ≡ Err r → v ≡ judge_graphs d
    unfolding judge_graphs
    graph_bad r e =
        let bad : bad_graph d f ≡ true = told (Err r) e in
        is ∙ (λ i. cond (exists_hit searched below bad i) (placed_in (hit searched below bad i) (judge_problem (graph_of d (hit searched below bad i)))) (Ok tt))

  pub graphs_good : drawn_functions d ≤ f → Ok tt ≡ judge_graphs d
  unfolding judge_graphs
  graphs_good over = rw (← exists_none searched over)
