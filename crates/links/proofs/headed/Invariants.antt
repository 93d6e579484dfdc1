-- `headed` goes on to the first loop whose header is the vertex. The loop's invariant: none of the first j is.
use Prim.Native.Nat.{ℕ}
use mathlib.Core.Bool.{Bool}
use mathlib.Core.List.{List}
use lib.Dec.{eqb}
use Rattle.model.specs.Drawings.{drawn_loops, drawn_loop}
use Rattle.model.proofs.Search.{Searched}
use Rattle.links.proofs.headed.Given as goal

abbrev heads : List ℕ → ℕ → ℕ → ℕ → Bool
heads d f v j = eqb (drawn_loop d f j).header v

abbrev pub invariant-loop-j : goal.invariant-loop-j
invariant-loop-j l = Searched (drawn_loops l.d l.f) (heads l.d l.f l.v) l.j
