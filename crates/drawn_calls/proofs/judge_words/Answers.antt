use mathlib.Core.Path.{sym}
use Rattle.model.specs.declared.Refusal.TheVariants.{Recursive}
use Rattle.model.proofs.Search.{miss, broken_hit, broken_none}
use Rattle.drawn_calls.proofs.judge_words.Goals as goal

pub returns-then-in_word : goal.returns-then-in_word
returns-then-in_word c = broken_hit c.loop-f.invariant c.loop-f-test.true Recursive (sym c.if-in_word.ensures)

pub loop-f-preserved : goal.loop-f-preserved
loop-f-preserved c = miss c.loop-f.invariant c.loop-f-test.true (sym c.if-in_word.ensures)

pub returns : goal.returns
returns c = broken_none c.loop-f.invariant c.loop-f-test.false Recursive
