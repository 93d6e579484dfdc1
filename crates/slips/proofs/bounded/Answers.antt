-- `bounded` writes the slip of a refusal or of the four results.
use Rattle.slips.proofs.Parts.{slip_written}
use Rattle.slips.proofs.bounded.Goals as goal

pub returns-in-Err : goal.returns-in-Err
returns-in-Err c = slip_written _ _ c.in-Err.is c.refused.ensures

pub returns-in-Ok : goal.returns-in-Ok
returns-in-Ok c = slip_written _ _ c.in-Ok.is c.results.ensures
