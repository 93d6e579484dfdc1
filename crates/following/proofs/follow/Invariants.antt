-- `follow` takes the lowest vertex one nearer until no step is left.
use Prim.Native.Nat.{◌-◌}
use lib.ListN.{length}
use Rattle.following.specs.Following.{Followable}
use Rattle.following.proofs.Following.{Following}
use Rattle.following.proofs.follow.Given as goal

abbrev pub invariant-loop-n : goal.invariant-loop-n
invariant-loop-n l = (ready : Followable l.l l.begins l.f l.g l.steps l.phase (length l.initial.walk)) × Following ready l.initial.walk l.walk l.u l.s (l.far - l.n) l.n
