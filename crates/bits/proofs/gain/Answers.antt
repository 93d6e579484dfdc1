-- `gain` does a step: either the word has all the members already, or the sum rises.
use Rattle.bits.proofs.Steps.{gain_step}
use Rattle.bits.proofs.gain.Goals as goal

pub returns : goal.returns
returns c = gain_step _ c.args.at c.args.add c.requires
