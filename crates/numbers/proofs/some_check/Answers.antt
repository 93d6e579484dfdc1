-- `some_check` meets its contract: some number of the range that it tests is a function with a check cost.
use Rattle.std.proofs.Common.{rules, tests, refl, ◌∙◌}
use Rattle.std.proofs.lemmas.Iterator.{YieldsList-from_range}
use Rattle.std.proofs.lemmas.Iterator.Search.{any_from_yields_List}
use Rattle.numbers.proofs.Written.{check_test, some_check_told}
use Rattle.numbers.proofs.some_check.Goals as goal

pub returns : goal.returns
returns c =
    any_from_yields_List (check_test c.args.l.now) _ _ c.any.result c.any.ensures.ran (YieldsList-from_range 0 c.min-taken.result c.min-taken.result refl (search rules)) (λ x b q k. search (rules, tests))
    ∙ some_check_told c.args.l.now c.min-taken.ensures
