-- `put_edge` stores an item's two numbers where there is room.
use Rattle.model.specs.Places as places
use Rattle.model.specs.Numbers.{edge_numbers}
use Rattle.links.proofs.Adding.{adds_edge, adds_over}
use borrow.Author.Rules.{rules}
use Rattle.links.proofs.put_edge.Goals as goal

pub returns-then-k-lt-MOST_EDGES : goal.returns-then-k-lt-MOST_EDGES
returns-then-k-lt-MOST_EDGES c = adds_edge _ _ _ _ (search rules)

pub returns-else-k-lt-MOST_EDGES : goal.returns-else-k-lt-MOST_EDGES
returns-else-k-lt-MOST_EDGES c = adds_over places.most_edges places.from edge_numbers _ _ _ (search rules)
