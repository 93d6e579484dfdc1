-- `iterations::greatest_weight` fills the tables for all vertices and reads the number of the last.
use Rattle.iterations.proofs.Parts.{all_vertices}
use Rattle.iterations.proofs.Whole.{nothing_filled, greatest_at_last}
use Rattle.iterations.proofs.greatest_weight.Goals as goal

pub range-requires : goal.range-requires
range-requires c =
    (c.requires.fact_1, (all_vertices c.requires.fact_2 c.vertex_count-vertices.ensures, nothing_filled c.requires.fact_2 c.requires.fact_3 c.requires.fact_4))

pub returns : goal.returns
returns c = greatest_at_last c.vertex_count-vertices.ensures c.range.ensures
