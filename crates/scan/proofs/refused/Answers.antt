-- `refused` meets its definition, by why there is no number.
use mathlib.Core.Path.{sym, ap}
use Rattle.model.specs.declared.Misread.{Misread}
use Rattle.scan.specs.Answers.{misread}
use Rattle.scan.proofs.refused.Goals as goal

pub returns-in-Ended : goal.returns-in-Ended
unfolding misread
returns-in-Ended c = ap (λ (why : Misread). misread why c.args.size c.args.at) (sym c.in-Ended.is)

pub returns-in-Misspelt : goal.returns-in-Misspelt
unfolding misread
returns-in-Misspelt c = ap (λ (why : Misread). misread why c.args.size c.args.at) (sym c.in-Misspelt.is)
