-- `met_twice` meets its contract: its numbers are those of `metTwice`, by computing both.
use mathlib.Core.Path.{refl, ◌∙◌}
use mathlib.Core.List.{zip_with, flat_map}
use Rattle.model.specs.Numbers.{numbers_in, Sized}
use Rattle.examples.specs.Problems.{padded, problem, met_twice}
use Rattle.samples.specs.Listed.{listed}
use Rattle.samples.proofs.Worked.{is_problem}
use Rattle.samples.proofs.met_twice.Goals as goal

sized : Sized met_twice
unfolding padded problem zip_with
sized = record { functions = refl; vertices = refl; edges = refl; loops = refl }

pub returns : goal.returns
unfolding listed numbers_in padded problem zip_with flat_map
returns c = c.problem.ensures ∙ is_problem met_twice sized _ refl
