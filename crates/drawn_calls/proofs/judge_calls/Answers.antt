-- `judge_calls` is its definition: what is called, then what is reached, then who reaches itself.
use Rattle.drawn_calls.proofs.InPlace.{calls_judged}
use Rattle.drawn_calls.proofs.judge_calls.Goals as goal

pub returns : goal.returns
returns c =
    calls_judged _ c.function_count-count.ensures c.call_words-words.ensures c.close.ensures c.judge_words.ensures
