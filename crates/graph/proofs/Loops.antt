-- The loops to lend, and rule 7 told by what a search among them found.
use Prim.Native.Nat.{ℕ, ◌-◌, ◌≤◌, ◌<◌}
use Rattle.std.specs.Prelude.{Err}
use mathlib.Core.Path.{◌≡◌, refl, ◌∙◌}
use mathlib.Core.List.{List}
use native.Mathlib.Omega.{arith}
use lib.ListN.{length, take}
use borrow.Author.Tests.{lt-ltb, le-ltb}
use Rattle.model.specs.declared.Edge.{Edge}
use Rattle.model.specs.declared.Loop.{Loop}
use Rattle.model.specs.declared.Refusal.TheVariants.{WrongLoop, WrongEdge, NoEdgeBack}
use Rattle.model.specs.Search.{lowest_below}
use Rattle.model.specs.Graph.{edge, loop, bad_range, wrong_edge, no_return, broken, and_then}
use Rattle.model.specs.Numbers.{table, problem_of, loop_at}
use Rattle.facts.specs.Fields.{FieldFacts}
use Rattle.lookup.specs.Lists.{loops_in}
use Rattle.lookup.proofs.Places.{loop_count_lem}
use Rattle.ranges.specs.Ranges.{bad_at}
use Rattle.ranges.specs.Marks.{marks_of}
use Rattle.graph.specs.Loops.{Found, loop_rules}
use Rattle.model.specs.Places as places

-- The first of the array that the numbers say.
pub lent_loops : (l : List ℕ) → FieldFacts l → {all : List Loop} {n : ℕ} → all ≡ table places.most_loops (loop_at l) → n ≡ length (loops_in l) →
    (n ≤ places.most_loops) × (take n all ≡ loops_in l)
unfolding problem_of
lent_loops l ok e is =
    let count = is ∙ loop_count_lem l ok in
    (omega (arith, count, ok.loops), rw (e, count))

pub found_of : {ys ls : List Loop} (n : ℕ) → ys ≡ ls → Found ls n (lowest_below (length ys) (bad_at ys (n - 1))) (marks_of ys (length ys))
found_of n e = rw e (record { lowest = refl; marked = refl })

module _ (es : List Edge) {ls : List Loop} {n bad : ℕ} {marks : List ℕ} (found : Found ls n bad marks) where
  pub found_bad : bad < length ls → Err (WrongLoop bad) ≡ loop_rules n es ls
  unfolding bad_at bad_range
  found_bad h = rw (← found.lowest, lt-ltb bad (length ls) h)

  pub found_none : length ls ≤ bad → and_then (broken (length es) (λ i. wrong_edge ls (edge es i)) WrongEdge)
      (broken (length ls) (λ j. no_return es (loop ls j)) NoEdgeBack) ≡ loop_rules n es ls
  unfolding bad_at bad_range
  found_none h = rw (← found.lowest, le-ltb bad (length ls) h)
