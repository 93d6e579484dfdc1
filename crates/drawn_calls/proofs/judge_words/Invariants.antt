-- `judge_words` is its definition. The loop's invariant: the functions passed over do not stand in their own words.
use Rattle.model.proofs.Search.{Searched}
use Rattle.drawn_calls.specs.Words.{told}
use Rattle.drawn_calls.proofs.judge_words.Given as goal

abbrev pub invariant-loop-f : goal.invariant-loop-f
invariant-loop-f l = Searched l.count (λ g. told l.words g g) l.f
