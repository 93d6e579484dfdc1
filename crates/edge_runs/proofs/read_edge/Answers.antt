-- `read_edge` reads both numbers of an edge that are sure to pass, or nothing.
use mathlib.Core.Path.{refl, sym, ◌∙◌}
use Rattle.edge_runs.proofs.EdgesRead.{edge_taken}
use Rattle.edge_runs.proofs.read_edge.Goals as goal

pub returns : goal.returns
returns c =
    edge_taken c.requires (c.if-not-opens.ensures refl) refl _ _ _ _ (sym c.read_number-first.ensures ∙ c.in-Ok.is) (sym c.read_number-second.ensures ∙ c.in-Ok-second.is) (c.if-not-follows.ensures refl)
