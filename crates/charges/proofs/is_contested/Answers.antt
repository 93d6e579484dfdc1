-- `charges::is_contested` answers whether the words of the vertex and of its function have a member in common.
use mathlib.Core.Path.{refl}
use Rattle.lookup.proofs.Places.{facts, vertex_small, function_small}
use Rattle.charges.proofs.Answers.{contested_told}
use native.Mathlib.Omega.{arith}
use Rattle.charges.proofs.is_contested.Goals as goal

pub function_of-f-requires : goal.function_of-f-requires
function_of-f-requires c = record { fact_1 = facts _ c.requires.fact_1; fact_2 = c.requires.fact_2 }

pub offset_bounds-held-v : goal.offset_bounds-held-v
offset_bounds-held-v c = (let ok = facts _ c.requires.fact_1 in let below = c.requires.fact_2 in omega (arith, vertex_small _ ok _ below, function_small _ ok _ below _ c.function_of-f.ensures))

pub bounds-held-v : goal.bounds-held-v
bounds-held-v c = (let ok = facts _ c.requires.fact_1 in let below = c.requires.fact_2 in omega (arith, vertex_small _ ok _ below, function_small _ ok _ below _ c.function_of-f.ensures))

pub offset_bounds-rivals-f : goal.offset_bounds-rivals-f
offset_bounds-rivals-f c = (let ok = facts _ c.requires.fact_1 in let below = c.requires.fact_2 in omega (arith, vertex_small _ ok _ below, function_small _ ok _ below _ c.function_of-f.ensures))

pub bounds-rivals-f : goal.bounds-rivals-f
bounds-rivals-f c = (let ok = facts _ c.requires.fact_1 in let below = c.requires.fact_2 in omega (arith, vertex_small _ ok _ below, function_small _ ok _ below _ c.function_of-f.ensures))

pub returns : goal.returns
returns c = contested_told _ _ _ _ c.requires.fact_2 c.function_of-f.ensures refl
