-- `one_of_two` meets its contract: its numbers are those of `oneOfTwo`, by computing both.
use mathlib.Core.Path.{refl, ◌∙◌}
use mathlib.Core.List.{zip_with, flat_map}
use Rattle.model.specs.Numbers.{numbers_in, Sized}
use Rattle.examples.specs.Problems.{padded, problem, one_of_two}
use Rattle.samples.specs.Listed.{listed}
use Rattle.samples.proofs.Worked.{is_problem}
use Rattle.samples.proofs.one_of_two.Goals as goal

sized : Sized one_of_two
unfolding padded problem zip_with
sized = record { functions = refl; vertices = refl; edges = refl; loops = refl }

pub returns : goal.returns
unfolding listed numbers_in padded problem zip_with flat_map
returns c = c.problem.ensures ∙ is_problem one_of_two sized _ refl
