-- `calls_some` tells a callee from none.
use Rattle.drawings.proofs.Callees.{callee_told}
use Rattle.drawings.proofs.calls_some.Goals as goal

pub returns : goal.returns
returns c = callee_told c.args.callee
