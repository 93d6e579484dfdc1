-- `write_number` stores the bytes of the number. The invariant: the groups that are left, stored from `pos` on, give what the whole number gives.
use Prim.Native.Nat.{suc, ◌-◌}
use mathlib.Core.Path.{◌≡◌}
use lib.Seq.{sets}
use Rattle.model.specs.Spelling.{number_bytes, groups}
use Rattle.spelling.proofs.write_number.Given as goal

abbrev pub invariant-loop-pos : goal.invariant-loop-pos
invariant-loop-pos l = sets l.buf l.pos (groups (suc (l.last - l.pos)) l.rest) ≡ sets l.initial.buf l.at (number_bytes l.value)
