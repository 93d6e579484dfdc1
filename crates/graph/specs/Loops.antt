-- Rules 7 to 9, and what is found of the loops for them.
use Rattle.std.specs.Prelude.{ℕ, ◌-◌, ◌≡◌, List, length}
use Rattle.model.specs.Refusals.{Verdict}
use Rattle.model.specs.declared.Edge.{Edge}
use Rattle.model.specs.declared.Loop.{Loop}
use Rattle.model.specs.declared.Refusal.TheVariants.{WrongLoop, WrongEdge, NoEdgeBack}
use Rattle.model.specs.Search.{lowest_below}
use Rattle.model.specs.Graph.{edge, loop, bad_range, wrong_edge, no_return, broken, and_then}
use Rattle.ranges.specs.Ranges.{bad_at}
use Rattle.ranges.specs.Marks.{marks_of}

-- The lowest bad range among n vertices, or the number of loops, and the marks.
pub record Found (ls : List Loop) (n bad : ℕ) (marks : List ℕ) : Type 0 where
  pub lowest : bad ≡ lowest_below (length ls) (bad_at ls (n - 1))
  pub marked : marks ≡ marks_of ls (length ls)

abbrev pub loop_rules : ℕ → List Edge → List Loop → Verdict
loop_rules n es ls =
    and_then (broken (length ls) (bad_range n ls) WrongLoop)
    (and_then (broken (length es) (λ i. wrong_edge ls (edge es i)) WrongEdge)
    (broken (length ls) (λ j. no_return es (loop ls j)) NoEdgeBack))
