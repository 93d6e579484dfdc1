-- `sums::greatest_charges` weighs visits by their charges, and entries by a table of zeros.
use Rattle.sums.proofs.Tables.{charged_capped, zeros_capped, plain_weight}
use Rattle.sums.proofs.greatest_charges.Goals as goal

pub greatest_weight-requires : goal.greatest_weight-requires
greatest_weight-requires c =
    record { fact_1 = c.requires.flags_2; fact_2 = c.requires.checked_1; fact_3 = charged_capped _ _ _ c.fill_charges.ensures; fact_4 = zeros_capped }

pub returns : goal.returns
returns c =
    plain_weight _ c.requires.checked_1 _ _ c.fill_charges.ensures c.greatest_weight.ensures
