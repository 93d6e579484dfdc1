-- `write_decimal` stores the digits.
use Rattle.decimals.proofs.Storing.{Storing}
use Rattle.decimals.proofs.write_decimal.Given as goal

abbrev pub invariant-loop-left : goal.invariant-loop-left
invariant-loop-left l = Storing l.initial.buf l.at l.n l.buf l.left l.rest
