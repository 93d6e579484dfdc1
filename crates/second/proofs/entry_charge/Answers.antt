-- `second::entry_charge` gathers the early functions over the range of a loop that is in no other, and adds up their loads.
use native.Mathlib.Omega.{arith}
use Rattle.chains.proofs.Checks.{facts}
use Rattle.second.proofs.Entries.{inner_entry, outer_entry}
use Rattle.second.proofs.entry_charge.Goals as goal

pub returns-then-loops-i-gt0 : goal.returns-then-loops-i-gt0
returns-then-loops-i-gt0 c = inner_entry _ _ _ c.requires.checked_1 c.requires.checked_2 _ c.requires.early_table_2 c.if-loops-i-gt0.true

pub loop_header-header-requires-clause-fact_1 : goal.loop_header-header-requires-clause-fact_1
loop_header-header-requires-clause-fact_1 c = facts c.requires.checked_1

pub loop_last-last-requires-clause-fact_1 : goal.loop_last-last-requires-clause-fact_1
loop_last-last-requires-clause-fact_1 c = facts c.requires.checked_1

pub returns : goal.returns
returns c =
    outer_entry _ _ _ c.requires.checked_1 c.requires.checked_2 _ c.requires.early_table_2 (omega (arith, c.if-loops-i-gt0.false)) c.requires.early_table_1
    (rw (← c.loop_header-header.ensures) (rw (← c.loop_last-last.ensures) c.functions_in.ensures)) c.first_loads.ensures
