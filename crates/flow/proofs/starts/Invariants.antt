-- `starts` goes from each vertex to the next: its edges begin behind the last one from a lower vertex.
use Prim.Native.Nat.{◌≤◌}
use Rattle.model.specs.Numbers.{problem_of}
use Rattle.flow.proofs.Begins.{Found}
use Rattle.model.specs.Places as places
use Rattle.flow.proofs.starts.Given as goal

abbrev pub invariant-loop-u : goal.invariant-loop-u
invariant-loop-u l = record { few : l.u-end ≤ places.most_vertices; found : Found (problem_of l.l) l.initial.begins l.u l.begins }
