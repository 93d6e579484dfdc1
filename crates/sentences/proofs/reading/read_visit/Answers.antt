-- `read_visit` goes past the opening and reads the function.
use Rattle.std.proofs.Common.{rules}
use Prim.Native.Nat.{◌-◌}
use native.Mathlib.Omega.{arith}
use Rattle.model.specs.Decimals.{text}
use Rattle.model.specs.Places.{most_functions}
use Rattle.grammar.specs.Grammar.{value}
use Rattle.sentences.specs.Remarks.{every_visit, after_function}
use Rattle.sentences.proofs.Steps.{stops, passed_within, passes}
use Rattle.sentences.proofs.reading.read_visit.Goals as goal

pub returns-in_err-end : goal.returns-in_err-end
unfolding text
returns-in_err-end c = stops c.args.text.now 0 every_visit _ c.pass_words.ensures (search rules)

pub read_function-requires : goal.read_function-requires
unfolding text
read_function-requires c = passed_within c.args.text.now 0 every_visit (value 0 (most_functions - 1) after_function) c.pass_words.ensures (omega arith) (search rules)

pub returns : goal.returns
unfolding text
returns c = passes c.args.text.now 0 every_visit _ c.pass_words.ensures (omega arith) (search rules) c.read_function.ensures
