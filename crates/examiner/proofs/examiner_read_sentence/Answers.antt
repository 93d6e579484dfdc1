-- `examiner_read_sentence` tells what Read-sentence gave.
use Rattle.model.specs.Outcomes.{sentence_outcome}
use Rattle.examiner.proofs.examiner_read_sentence.Goals as goal

pub returns : goal.returns
returns c =
    let r = c.read_sentence in
    record {
      outcome = sentence_outcome r.result;
      says = r.ensures.understood;
      status_is = c.tell_sentence.ensures.fact_1;
      answer_is = c.tell_sentence.ensures.fact_2;
    }
