-- `first_reach` starts with every function at vertex 0 and closes the table: the members are those that walks show.
use mathlib.Core.Path.{refl}
use native.Mathlib.Omega.{arith}
use Rattle.model.specs.Numbers.{problem_of}
use Rattle.lookup.proofs.Places.{facts, some_function, few_functions}
use Rattle.reach.proofs.Fresh.{fresh_begun, fresh_table}
use Rattle.reach.proofs.first_reach.Goals as goal

pub below-requires : goal.below-requires
below-requires c =
    let ok = facts _ c.requires.fact_1 in
    omega (arith, c.function_count.ensures, some_function _ ok, few_functions _ ok)

pub close-requires : goal.close-requires
close-requires c =
    record { checked = c.requires.fact_1; starts = c.requires.fact_2; long = refl; sound = fresh_begun (problem_of c.args.l.now) _ }

pub returns : goal.returns
returns c =
    fresh_table (problem_of c.args.l.now) _ _
    (λ f lt. c.below.ensures f (omega (arith, c.function_count.ensures)))
    c.close.ensures
