-- `read_item` reads an edge, or else a vertex.
use Rattle.pair_runs.proofs.Pairs.{no_edge}
use Rattle.pair_runs.proofs.read_item.Goals as goal

pub read_pair-requires : goal.read_pair-requires
read_pair-requires c =
    record { table_value = c.requires.table_value; at_pair = record { item = c.requires.at_item.0; pair = no_edge c.requires.at_item.1 c.if-field-eq-FROM.false } }
