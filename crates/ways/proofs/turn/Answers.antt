-- `turn` goes by the function of the vertex.
use Rattle.ways.proofs.Turns.{at_f, at_g, elsewhere}
use Rattle.ways.proofs.turn.Goals as goal

pub returns-then-k-f : goal.returns-then-k-f
returns-then-k-f c = at_f _ _ _ _ c.if-k-f.true

pub returns-then-k-g : goal.returns-then-k-g
returns-then-k-g c = at_g _ _ _ _ c.if-k-f.false c.if-k-g.true

pub returns : goal.returns
returns c = elsewhere _ _ _ _ c.if-k-f.false c.if-k-g.false
