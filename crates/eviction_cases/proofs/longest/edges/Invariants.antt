-- `edges` keeps its table's length.
use Rattle.std.proofs.Common.{◌≡◌, length}
use Rattle.eviction_cases.proofs.longest.edges.Given as goal

abbrev pub invariant-loop-u : goal.invariant-loop-u
invariant-loop-u l = length l.edges ≡ 257
