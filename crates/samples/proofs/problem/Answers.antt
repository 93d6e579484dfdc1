-- `problem` meets its contract: each part is stored where `listed` has it.
use Rattle.samples.proofs.Worked.{assembled}
use Rattle.samples.proofs.problem.Goals as goal

pub returns : goal.returns
returns c =
    assembled _ _ _ _ _ _ _ _ _ _ c.put.ensures c.put-2.ensures c.put-3.ensures c.put-4.ensures
    c.problem_of.ensures
