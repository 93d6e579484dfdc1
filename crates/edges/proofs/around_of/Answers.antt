use Rattle.edges.proofs.Words.{held_none, held_more}
use native.Mathlib.Omega.{arith}
use Rattle.model.proofs.Filling.{filled_none, filled_more}
use Rattle.edges.specs.Words.{around_at}
use Rattle.model.specs.Places as places
use Rattle.edges.proofs.around_of.Goals as goal

pub loop-v-init : goal.loop-v-init
loop-v-init c = (filled_none (around_at c.args.marks.now) places.most_vertices 0, held_none c.args.marks.now)

pub loop-v-preserved : goal.loop-v-preserved
loop-v-preserved c =
    let marks = c.args.marks.now in
    let at = c.loop-v.v in
    let (filled, is) = c.loop-v.invariant in
    (rw is (filled_more (around_at marks) places.most_vertices at 0 _ (omega arith) filled), rw is (held_more marks at))

pub returns : goal.returns
returns c = record { word = λ v h. c.loop-v.invariant.0.first v (omega arith) }
