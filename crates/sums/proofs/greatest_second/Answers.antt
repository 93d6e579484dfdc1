-- `sums::greatest_second` weighs visits by the second total's flags, and entries by their charges.
use mathlib.Core.Path.{refl}
use Rattle.second.proofs.Flags.{second_low}
use Rattle.sums.proofs.Tables.{charged_capped, entries_capped, second_weight}
use Rattle.sums.proofs.greatest_second.Goals as goal

pub fill_charges-requires : goal.fill_charges-requires
fill_charges-requires c =
    record { checked_1 = c.requires.checked_1; checked_2 = refl; entered_told_1 = c.requires.checked_2; entered_told_2 = second_low c.second_flags-charged.ensures c.requires.checked_3 }

pub entry_charges-enter-requires : goal.entry_charges-enter-requires
entry_charges-enter-requires c = record { checked_1 = c.requires.checked_1; checked_2 = c.requires.chained_1.out; early_table = c.requires.chained_2.table }

pub greatest_weight-requires : goal.greatest_weight-requires
greatest_weight-requires c =
    record { fact_1 = c.requires.chained_1; fact_2 = c.requires.checked_1; fact_3 = charged_capped _ _ _ c.fill_charges.ensures; fact_4 = entries_capped _ _ _ c.entry_charges-enter.ensures }

pub returns : goal.returns
returns c =
    second_weight _ c.requires.checked_1 _ _ _ _ _ _ c.requires.chained_1.out c.requires.chained_2 c.second_flags-charged.ensures c.fill_charges.ensures c.entry_charges-enter.ensures
    c.greatest_weight.ensures
