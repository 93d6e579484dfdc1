-- The steps of Inline that go on with numbers.
use Rattle.std.specs.Prelude.{ℕ, ◌≡◌, List, Ok}
use Rattle.model.specs.Refusals.{Verdict}
use Rattle.model.specs.Numbers.{edition_of, numbers_of, problem_of}
use Rattle.model.specs.File.{edition_in}
use Rattle.model.specs.Operations.{Checked}
use Rattle.model.specs.Inlined.{judge_counts, inlined_problem, inline_verdict, inline_drawing}

-- The one problem of a drawing that 19 does not apply to, as its numbers.
pub record Built (d l : List ℕ) (v : Verdict) : Type 0 where
  pub counts : v ≡ judge_counts d
  pub numbers : v ≡ Ok tt → l ≡ numbers_of (inlined_problem d)

-- Numbers built of the drawing d: with the verdict they are Inline's answer, and where it accepts they pass a problem's own checks, in the edition that is
-- written of it.
pub record NumbersInlined (d l : List ℕ) (v : Verdict) : Type 0 where
  pub answer : inline_verdict v (problem_of l) ≡ inline_drawing d
  pub checked : v ≡ Ok tt → Checked l
  pub edition : v ≡ Ok tt → edition_in l ≡ edition_of (problem_of l)
