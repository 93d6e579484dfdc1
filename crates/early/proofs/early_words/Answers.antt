use Prim.Native.Nat.{◌≤◌}
use mathlib.Core.Path.{refl}
use native.Mathlib.Omega.{arith}
use Rattle.model.specs.Places as places
use Rattle.lookup.proofs.Places.{facts, few_vertices}
use Rattle.charges.proofs.Filling.{fill_start, fill_more}
use Rattle.early.proofs.early_words.Goals as goal

pub loop-v-init : goal.loop-v-init
loop-v-init c = fill_start refl

pub loop-v-preserved : goal.loop-v-preserved
loop-v-preserved c =
    fill_more c.loop-v.invariant ((let few : c.vertex_count-count.result ≤ places.most_vertices = omega (arith, c.vertex_count-count.ensures, few_vertices _ (facts _ c.requires)) in omega (arith, few))) c.early_at.ensures
