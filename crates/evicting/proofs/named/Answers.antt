-- `named` goes by whether a way leads on from the vertex, by its function and by that function's region.
use Prim.Native.Nat.{◌+◌, ◌*◌, ◌<◌}
use mathlib.Core.Path.{refl, sym, ◌∙◌}
use mathlib.Core.Logic.{inr}
use native.Mathlib.Omega.{arith}
use Rattle.ways.specs.Ways.{most_states}
use Rattle.lookup.proofs.Places.{facts, vertex_small, function_below}
use Rattle.evicting.proofs.Naming.{one_named, none_named}
use Rattle.evicting.proofs.named.Goals as goal

pub overflow_mul-u : goal.overflow_mul-u
overflow_mul-u c = (let place_small : 2 * c.args.u + 1 < most_states = omega (arith, vertex_small _ (facts _ c.requires.fact_1.checked) _ c.requires.fact_2) in omega (arith, place_small))

pub overflow_add-u : goal.overflow_add-u
overflow_add-u c = (let place_small : 2 * c.args.u + 1 < most_states = omega (arith, vertex_small _ (facts _ c.requires.fact_1.checked) _ c.requires.fact_2) in omega (arith, place_small))

pub offset_bounds-steps-u : goal.offset_bounds-steps-u
offset_bounds-steps-u c = (let place_small : 2 * c.args.u + 1 < most_states = omega (arith, vertex_small _ (facts _ c.requires.fact_1.checked) _ c.requires.fact_2) in omega (arith, place_small))

pub bounds-steps-u : goal.bounds-steps-u
bounds-steps-u c = (let place_small : 2 * c.args.u + 1 < most_states = omega (arith, vertex_small _ (facts _ c.requires.fact_1.checked) _ c.requires.fact_2) in place_small)

pub returns-then-steps-u-ge-NO_WAY : goal.returns-then-steps-u-ge-NO_WAY
returns-then-steps-u-ge-NO_WAY c = inr (refl, λ comes. omega (arith, comes.way, c.if-steps-u-ge-NO_WAY.true))

pub function_of-g-requires : goal.function_of-g-requires
function_of-g-requires c = record { fact_1 = facts _ c.requires.fact_1.checked; fact_2 = c.requires.fact_2 }

pub returns-then-g-f : goal.returns-then-g-f
returns-then-g-f c = inr (refl, λ comes. comes.other (sym c.function_of-g.ensures ∙ c.if-g-f.true))

pub region_of-requires : goal.region_of-requires
region_of-requires c =
    omega (arith, c.function_of-g.ensures, function_below _ (facts _ c.requires.fact_1.checked) _ c.requires.fact_2, c.requires.fact_1.listed)

pub region_of-requires-2 : goal.region_of-requires-2
region_of-requires-2 c = omega (arith, c.requires.fact_1.known, c.requires.fact_1.listed)

pub returns-then-region_of : goal.returns-then-region_of
returns-then-region_of c =
    one_named _ _ _ _ _ _ _ _ c.function_of-g.ensures c.region_of.ensures c.region_of-2.ensures c.if-steps-u-ge-NO_WAY.false
    c.if-g-f.false c.if-region_of.true

pub returns : goal.returns
returns c =
    none_named _ _ _ _ _ _ _ _ c.function_of-g.ensures c.region_of.ensures c.region_of-2.ensures c.if-region_of.false
