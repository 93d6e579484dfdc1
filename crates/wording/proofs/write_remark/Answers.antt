-- `write_remark` goes by the remark.
use Rattle.wording.proofs.Wording.{remark_written}
use Rattle.wording.proofs.write_remark.Goals as goal

pub returns-in-Refused : goal.returns-in-Refused
returns-in-Refused c = remark_written _ _ c.in-Refused.is c.write_refusal.ensures

pub returns-in-Explained : goal.returns-in-Explained
returns-in-Explained c = remark_written _ _ c.in-Explained.is c.write_reason.ensures
