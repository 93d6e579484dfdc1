-- `read_refusal` goes past the opening and reads the number.
use Rattle.std.proofs.Common.{rules}
use native.Mathlib.Omega.{arith}
use Rattle.model.specs.Decimals.{text}
use Rattle.model.specs.Refusals.{last_refusal}
use Rattle.grammar.specs.Grammar.{value}
use Rattle.sentences.specs.Remarks.{refusing, after_number}
use Rattle.sentences.proofs.Steps.{stops, passed_within, passes}
use Rattle.sentences.proofs.reading.read_refusal.Goals as goal

pub returns-in_err-end : goal.returns-in_err-end
unfolding text
returns-in_err-end c = stops c.args.text.now 0 refusing _ c.pass_words.ensures (search rules)

pub read_number-requires : goal.read_number-requires
unfolding text
read_number-requires c = passed_within c.args.text.now 0 refusing (value 1 last_refusal after_number) c.pass_words.ensures (omega arith) (search rules)

pub returns : goal.returns
unfolding text
returns c = passes c.args.text.now 0 refusing _ c.pass_words.ensures (omega arith) (search rules) c.read_number.ensures
