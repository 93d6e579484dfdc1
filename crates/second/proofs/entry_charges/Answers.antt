use native.Mathlib.Omega.{arith}
use Rattle.chains.proofs.Checks.{facts}
use Rattle.second.proofs.Entries.{no_entries, one_entry, all_entries}
use Rattle.second.proofs.entry_charges.Goals as goal

pub loop_count-count-requires : goal.loop_count-count-requires
loop_count-count-requires c = facts c.requires.checked_1

pub loop-i-init : goal.loop-i-init
loop-i-init c = no_entries _ c.requires.checked_1

pub loop_header-header-requires-clause-fact_1 : goal.loop_header-header-requires-clause-fact_1
loop_header-header-requires-clause-fact_1 c = facts c.requires.checked_1

pub loop-i-preserved : goal.loop-i-preserved
loop-i-preserved c =
    one_entry _ c.requires.checked_1 (omega (arith, c.loop-i-test.true, c.loop_count-count.ensures)) c.loop_header-header.ensures c.entry_charge-entry.ensures c.loop-i.invariant

pub returns : goal.returns
returns c = all_entries _ c.requires.checked_1 (omega (arith, c.loop-i-test.false, c.loop_count-count.ensures)) c.loop-i.invariant
