-- Counting an arrival: the counter of a header is its visits in the present stay, and the bounds tell whether a header is beyond its bound.
use Prim.Native.Nat.{ℕ, ◌+◌, ◌-◌, ◌*◌, ◌≤◌, ◌<◌}
use mathlib.Core.Path.{◌≡◌, refl, sym, ap, ◌∙◌}
use mathlib.Core.List.{List, [], ◌∷◌, Memᴰ}
use mathlib.Core.Bool.{Bool, true, false, cond}
use mathlib.Core.Logic.{◌⊎◌, inl, inr}
use native.Mathlib.Omega.{arith}
use lib.ListN.{length, get_or, set, length-set}
use lib.Seq.{get_or-set_same, get_or-set_other}
use lib.Dec.{leb, eqb}
use borrow.Author.Tests.{leb-true, leb-false, lt-leb, eqb-true, eqb-false}
use Rattle.model.specs.declared.Loop.{Loop}
use Rattle.model.specs.Numbers.{problem_of}
use Rattle.model.specs.Graph.{loops_of, holds}
use Rattle.model.specs.Operations.{Checked}
use Rattle.model.specs.Walks.{EdgeOf, visits}
use Rattle.model.specs.Verdicts.{may_follow, past_bound}
use Rattle.model.proofs.Cases.{by_bool}
use Rattle.lookup.proofs.Places.{facts, few_vertices}
use Rattle.greatest.specs.Numbers.{NoHeader}
use Rattle.greatest.proofs.Loops.{holds_from, before_range, behind_range, header?}
use Rattle.greatest.proofs.Stays.{visits_out, visits_head, visits_body}
use Rattle.greatest.proofs.Rules.{Rules, held_head, returns, ascends, stays_in}
use Rattle.greatest.proofs.Graph.{rules}
use Rattle.greatest.proofs.Checked.{checked_graph, checked_ranges}
use Rattle.steps.specs.Steps.{start, latest, goes_back}
use Rattle.walk.specs.Judging.{Bounds, Tally, Counters, Arriving, count_after}
use Rattle.steps.proofs.Edges.{follows_edge, goes_past, stays_within}
use Rattle.model.specs.Places as places
use Rattle.model.specs.Limits as limits

-- A step of 2 goes on from the counter, and a step of 1 starts anew.
count_by : (count step : ℕ) (back : Bool) → step ≡ cond back 2 1 → count * (step - 1) + 1 ≡ cond back count 0 + 1
count_by count step true e = rw e (omega arith)
count_by count step false e = rw e (omega arith)

pub product_small : (counts : List ℕ) (step v : ℕ) → Arriving counts step v → get_or counts v 0 * (step - 1) ≤ limits.most_visits
product_small counts step v arriving =
    let small = arriving.counters.small v arriving.inside in
    by_bool (eqb step 1)
    (λ e. let one : step ≡ 1 = eqb-true step 1 e in rw one (omega arith))
    (λ e. let two : step ≡ 2 = omega (arith, eqb-false step 1 e) in rw two (omega arith))

-- Outside a range there are no visits in its present stay.
outside : (o : Loop) (h : List ℕ) → holds o (latest h) ≡ false → visits o h ≡ 0
unfolding visits
outside o [] e = refl
outside o (u ∷ h) e = visits_out o u h e

module _ (l : List ℕ) (checked : Checked l) where
  laws : Rules (EdgeOf (problem_of l)) (loops_of (problem_of l))
  laws = rules (checked_graph l checked) (checked_ranges l checked)

  -- A step to a header stays in its loop exactly where it goes back.
  back_inside : (o : Loop) → Memᴰ o (loops_of (problem_of l)) → (h : List ℕ) (v : ℕ) → may_follow (problem_of l) h v ≡ true → o.header ≡ v →
      holds o (latest h) ≡ goes_back h v
  back_inside o m [] v may q = behind_range o start (omega (arith, few_vertices l (facts _ checked), (checked_ranges l checked).last o m))
  back_inside o m (u ∷ h) v may q =
      by_bool (leb v u)
      (λ e. returns laws u v o (follows_edge (problem_of l) u v h may) (leb-true v u e) m q ∙ sym e)
      (λ e. before_range o u (omega (arith, leb-false v u e)) ∙ sym e)

  -- A step to a vertex that is no header does not go back.
  plain_forward : (h : List ℕ) (v : ℕ) → may_follow (problem_of l) h v ≡ true → NoHeader (loops_of (problem_of l)) v → goes_back h v ≡ false
  plain_forward [] v may none = refl
  plain_forward (u ∷ h) v may none = lt-leb v u (ascends laws u v (follows_edge (problem_of l) u v h may) none)

  -- A step within a range to a vertex that is not its header comes from within.
  from_inside : (o : Loop) → Memᴰ o (loops_of (problem_of l)) → (h : List ℕ) (v : ℕ) → may_follow (problem_of l) h v ≡ true → (o.header ≡ v → ⊥) →
      holds o v ≡ true → holds o (latest h) ≡ true
  unfolding may_follow
  from_inside o m [] v may other inside = let x = holds_from o v inside in absurd (other (omega (arith, eqb-true v 0 may)))
  from_inside o m (u ∷ h) v may other inside = stays_in laws u v o (follows_edge (problem_of l) u v h may) m other inside

  module _ (h : List ℕ) (v : ℕ) (may : may_follow (problem_of l) h v ≡ true) (counts : List ℕ) (tally : Tally (problem_of l) h counts) (step : ℕ) (step_is : step ≡ cond (goes_back h v) 2 1) where
    abbrev seen : ℕ
    seen = count_after counts step v

    seen_is : seen ≡ cond (goes_back h v) (get_or counts v 0) 0 + 1
    seen_is = count_by (get_or counts v 0) step (goes_back h v) step_is

    at_header : (o : Loop) → Memᴰ o (loops_of (problem_of l)) → o.header ≡ v → visits o (v ∷ h) ≡ seen
    at_header o m q =
        visits_head o v h (held_head laws v o m q) q
        ∙ by_bool (goes_back h v)
        (λ e. rw (seen_is, e) (ap (λ (x : ℕ). x + 1) (sym (tally o m (back_inside o m h v may q ∙ e)) ∙ ap (λ (k : ℕ). get_or counts k 0) q)))
        (λ e. rw (seen_is, e) (ap (λ (x : ℕ). x + 1) (outside o h (back_inside o m h v may q ∙ e))))

    at_plain : NoHeader (loops_of (problem_of l)) v → seen ≡ 1
    at_plain none = seen_is ∙ (rw (plain_forward h v may none))

    module _ (bounds : List ℕ) (are : Bounds (problem_of l) bounds) (inside : v < places.most_vertices) where
      pub past_it : get_or bounds v 0 < seen → past_bound (problem_of l) h v ≡ true
      past_it over = at (header? v (loops_of (problem_of l)))
        where
          at : ((o : Loop) × Memᴰ o (loops_of (problem_of l)) × (o.header ≡ v)) ⊎ NoHeader (loops_of (problem_of l)) v → past_bound (problem_of l) h v ≡ true
          at (inl (o, m, q)) =
              let bound : get_or bounds v 0 ≡ o.bound = ap (λ (k : ℕ). get_or bounds k 0) (sym q) ∙ are.own o m in
              goes_past (problem_of l) h v o m q (omega (arith, at_header o m q))
          at (inr none) = absurd (omega (arith, at_plain none, are.low v inside))

      pub within_it : seen ≤ get_or bounds v 0 → past_bound (problem_of l) h v ≡ false
      within_it fits =
          stays_within (problem_of l) h v
          (λ o m q.
          let bound : get_or bounds v 0 ≡ o.bound = ap (λ (k : ℕ). get_or bounds k 0) (sym q) ∙ are.own o m in
          omega (arith, at_header o m q))

      pub counters_on : Counters counts → seen ≤ get_or bounds v 0 → Counters (set counts v seen)
      counters_on counters fits =
          record {
            long = length-set counts v seen ∙ counters.long;
            small = λ k h'.
                by_bool (eqb k v)
                (λ e. rw (eqb-true k v e, get_or-set_same counts v seen 0 (omega (arith, counters.long))) (omega (arith, are.high v inside)))
                (λ e. rw (get_or-set_other counts v k seen 0 (eqb-false k v e)) (counters.small k h'));
          }

    pub tally_on : length counts ≡ places.most_vertices → v < places.most_vertices → Tally (problem_of l) (v ∷ h) (set counts v seen)
    tally_on long inside o m holding =
        by_bool (eqb o.header v)
        (λ e.
        ap (λ (k : ℕ). get_or (set counts v seen) k 0) (eqb-true o.header v e)
        ∙ get_or-set_same counts v seen 0 (omega arith)
        ∙ sym (at_header o m (eqb-true o.header v e)))
        (λ e.
        get_or-set_other counts v o.header seen 0 (eqb-false o.header v e)
        ∙ tally o m (from_inside o m h v may (eqb-false o.header v e) holding)
        ∙ sym (visits_body o v h holding (eqb-false o.header v e)))
