-- A problem's checks, as the functions take them.
use Rattle.std.specs.Prelude.{ℕ, List, Result}
use Rattle.model.specs.Refusals.{Verdict}
use Rattle.model.specs.declared.Refusal.{Refusal}
use Rattle.model.specs.Numbers.{problem_of}
use Rattle.model.specs.File.{check_fields}
use Rattle.model.specs.Operations.{after_fields}
use Rattle.model.specs.Verdicts.{as_verdict}

-- A problem's checks, on its numbers.
unfoldable pub check_numbers : List ℕ → Result ℕ Refusal
check_numbers l = after_fields (check_fields l) (problem_of l)

unfoldable pub judge_numbers : List ℕ → Verdict
judge_numbers l = as_verdict (check_numbers l)
