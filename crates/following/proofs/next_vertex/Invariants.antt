-- `next_vertex` stops at the first edge from u that leads to the number asked for.
use Prim.Native.Nat.{◌-◌}
use lib.ListN.{length}
use Rattle.model.specs.Numbers.{problem_of}
use Rattle.model.specs.Graph.{edges_of}
use Rattle.flow.proofs.Edges.{EdgesFrom}
use Rattle.following.proofs.Seeking.{Seeking}
use Rattle.following.proofs.next_vertex.Given as goal

abbrev pub invariant-loop-u : goal.invariant-loop-u
invariant-loop-u l = (edges : EdgesFrom l.l l.begins l.u) × Seeking edges l.steps l.t l.k l.i

abbrev pub decreases-loop-u : goal.decreases-loop-u
decreases-loop-u l = length (edges_of (problem_of l.l)) - l.i
