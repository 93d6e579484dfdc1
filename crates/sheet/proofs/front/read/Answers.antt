-- `read` says of the whole file what Read says of its front.
use Rattle.sheet.proofs.Fronts.{read_front}
use Rattle.sheet.proofs.front.read.Goals as goal

pub returns : goal.returns
returns c =
    let found = c.read_numbers.ensures in
    record { answer = read_front _ _ c.requires.fact_1 _ found.answer; checked = found.checked }
