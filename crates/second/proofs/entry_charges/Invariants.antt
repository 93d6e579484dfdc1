-- `second::entry_charges` has the charges of the loops passed.
use Rattle.second.proofs.Entries.{EntriesBelow}
use Rattle.second.proofs.entry_charges.Given as goal

abbrev pub invariant-loop-i : goal.invariant-loop-i
invariant-loop-i l = EntriesBelow l.l l.early l.i l.enter
