use mathlib.Core.Path.{sym}
use Rattle.decimals.proofs.Digits.{size_by_power}
use Rattle.decimals.proofs.decimal_size.Goals as goal

pub returns : goal.returns
returns c =
    let e = c.ilog10.ensures in
    sym (size_by_power c.args.n _ (rw c.max.ensures at e.power_le) (rw c.max.ensures at e.next_power_gt))
