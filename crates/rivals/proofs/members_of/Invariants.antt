-- `members_of` has the functions passed in the words of their regions.
use Rattle.rivals.specs.Rivals.{Members}
use Rattle.rivals.proofs.members_of.Given as goal

abbrev pub invariant-loop-f : goal.invariant-loop-f
invariant-loop-f l = Members l.layout l.f l.members
