-- `bound` says of the whole layout what Bound says of its front.
use Rattle.model.specs.Numbers.{problem_of}
use Rattle.sheet.proofs.Fronts.{bound_front}
use Rattle.sheet.proofs.front.bound.Goals as goal

pub returns : goal.returns
returns c = bound_front (problem_of c.args.numbers.now) _ _ c.requires.fact_2 c.bound_checked.result c.bound_checked.ensures
