-- A sweep visits each vertex, and sweeps go on until nothing changes: what holds at each turn, and that they come to an end.
use Prim.Native.Nat.{ℕ, suc, ◌+◌, ◌-◌, ◌*◌, ◌^◌, ◌≤◌, ◌<◌}
use mathlib.Core.Path.{◌≡◌, refl, ap}
use mathlib.Core.List.{List, [], ◌∷◌}
use mathlib.Core.Bool.{Bool, true, false, ◌||◌}
use mathlib.Core.Logic.{inl, ⊎_elim}
use native.Mathlib.Nat.{suc-mul}
use native.Mathlib.Omega.{arith}
use lib.ListN.{length, get_or, replicate, length-replicate, get_or-replicate}
use Rattle.model.specs.declared.Problem.{Problem}
use Rattle.model.specs.Numbers.{problem_of}
use Rattle.model.specs.Operations.{Checked}
use Rattle.model.proofs.Cases.{true_not_false}
use Rattle.lookup.proofs.Places.{facts, few_vertices, from_below, from_small}
use Rattle.bits.specs.Words.{Has, sum, one, Grown, Sound}
use Rattle.bits.proofs.Steps.{unchanged, neither, grown_more}
use Rattle.flow.specs.Rounds.{Flow, Waiting, Flowing, Visited, Settled, Swept, Closed, Underway}
use Rattle.flow.specs.Starts.{Starts, from}
use Rattle.model.specs.Places as places

module _ (l : List ℕ) (F : Flow (problem_of l)) (begins : List ℕ) where
  -- Visits to the vertices below u. Where they changed nothing, none of those waits.
  pub record Sweeping (u : ℕ) (ws₀ : List ℕ) (marks : List Bool) (ws : List ℕ) (changed : Bool) : Type 0 where
    pub so_far : u ≤ (problem_of l).vertex_count
    pub underway : Underway l F begins marks ws
    pub grown : Grown ws₀ ws changed
    pub settled : changed ≡ false → (v : ℕ) → v < u → Waiting marks v → ⊥

  -- Sweeps until nothing changes.
  pub record Closing (ws₀ : List ℕ) (marks : List Bool) (ws : List ℕ) (changed : Bool) : Type 0 where
    pub underway : Underway l F begins marks ws
    pub as_long : length ws ≡ length ws₀
    pub kept : (k b : ℕ) → Has ws₀ k b → Has ws k b
    pub settled : changed ≡ false → Settled F marks

module _ {l : List ℕ} {F : Flow (problem_of l)} {begins : List ℕ} {marks : List Bool} {ws : List ℕ} where
  pub none_visited : Underway l F begins marks ws → Sweeping l F begins 0 ws marks ws false
  none_visited underway = record { so_far = omega arith; underway = underway; grown = unchanged ws; settled = λ _ v lt. absurd (omega arith) }

  further : {marks' : List Bool} {after : List ℕ} → Underway l F begins marks ws → Flowing F marks' after → Underway l F begins marks' after
  further underway flowing = record { checked = underway.checked; starts = underway.starts; flowing = flowing }

  module _ {ws₀ : List ℕ} {marks' : List Bool} {after : List ℕ} {changed gained : Bool} where
    pub one_visit : {u : ℕ} → Sweeping l F begins u ws₀ marks ws changed → u < (problem_of l).vertex_count → Visited F u marks ws marks' after gained →
        Sweeping l F begins (u + 1) ws₀ marks' after (changed || gained)
    one_visit s there t = record {
      so_far = omega arith;
      underway = further s.underway t.flowing;
      grown = grown_more s.grown t.grown;
      settled = λ e v lt m.
          let (a, b) = neither changed gained e in
          let (ne, was) = t.cleared b v m in
          s.settled a v (omega arith) was;
    }

    pub swept_on : Closing l F begins ws₀ marks ws changed → Swept F ws marks' after gained → Closing l F begins ws₀ marks' after gained
    swept_on c s = record {
      underway = further c.underway s.flowing;
      as_long = omega (arith, s.flowing.long, c.underway.flowing.long, c.as_long);
      kept = λ k b h. s.grown.kept k b (c.kept k b h);
      settled = s.settled;
    }

  module _ {ws₀ : List ℕ} {changed : Bool} where
    pub all_visited : {u : ℕ} → Sweeping l F begins u ws₀ marks ws changed → (problem_of l).vertex_count ≤ u → Swept F ws₀ marks ws changed
    all_visited s past = record { flowing = s.underway.flowing; grown = s.grown; settled = λ e v lt. s.settled e v (omega arith) }

    pub at_rest : Closing l F begins ws₀ marks ws changed → changed ≡ false → Closed F ws₀ ws
    at_rest c e = record {
      long = c.as_long;
      kept = c.kept;
      sound = c.underway.flowing.sound;
      passed = λ i lt. ⊎_elim
          (λ m. absurd (c.settled e (from (problem_of l) i) (from_below l (facts l c.underway.checked) i lt) m))
          (λ q. q)
          (c.underway.flowing.due i lt);
    }

-- At first every vertex waits.
pub not_begun : {l : List ℕ} {F : Flow (problem_of l)} {begins : List ℕ} (ws : List ℕ) → Checked l → Starts (problem_of l) begins →
    length ws ≡ F.size → Sound F.Good ws → Closing l F begins ws (replicate places.most_vertices true) ws true
not_begun {l} ws ok starts long sound = record {
  underway = record {
    checked = ok;
    starts = starts;
    flowing = record {
      long = long;
      marks_long = length-replicate {A = Bool} places.most_vertices true;
      each = few_vertices l (facts l ok);
      sound = sound;
      due = λ i lt. inl (get_or-replicate {A = Bool} places.most_vertices (from (problem_of l) i) true false (from_small l (facts l ok) i lt));
    };
  };
  as_long = refl;
  kept = λ k b h. h;
  settled = λ e. true_not_false e;
}

-- The measure: the room that the words have left, and one more while something changes.
abbrev pub room : ℕ → List ℕ → Bool → ℕ
room n ws changed = one changed + (n * 2 ^ 32 - sum ws)

sum_le : (m : ℕ) (ws : List ℕ) → ((i : ℕ) → get_or ws i 0 < m) → sum ws ≤ length ws * m
unfolding sum
sum_le m [] h = omega arith
sum_le m (w ∷ ws) h = omega (arith, h 0, sum_le m ws (λ i. h (suc i)), suc-mul (length ws) m)

pub falls : {p : Problem} {F : Flow p} {ws : List ℕ} {marks : List Bool} {after : List ℕ} {changed gained : Bool} → changed ≡ true →
    Swept F ws marks after gained → ((i : ℕ) → get_or after i 0 < 2 ^ 32) → room F.size after gained < room F.size ws changed
falls {after = after} e s small =
    rw e (omega (arith, sum_le (2 ^ 32) after small, s.grown.raised, ap (λ (k : ℕ). k * 2 ^ 32) s.flowing.long))
