-- `word_told` tells what Word gave.
use Rattle.outcomes.proofs.Told.{told_with}
use Rattle.examiner.proofs.word_told.Goals as goal

pub returns : goal.returns
returns c =
    let t =
    told_with _ _ _ _ _ c.word.ensures.outcome c.tell_worded.ensures.fact_1 c.tell_worded.ensures.fact_2 c.word.ensures.text_after in
    record { value = t.0; answer_after = t.1.0; text_after = t.1.1 }
