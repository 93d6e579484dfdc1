-- `file_length` gives the length that the fields' checks found. In the other case it would go round for ever, and is never met.
use Rattle.checks.proofs.file_length.Given as goal

abbrev pub invariant-loop : goal.invariant-loop
invariant-loop l = ⊥

abbrev pub decreases-loop : goal.decreases-loop
decreases-loop l = 0
