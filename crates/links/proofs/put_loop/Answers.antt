-- `put_loop` stores an item's three numbers where there is room.
use Rattle.model.specs.Places as places
use Rattle.model.specs.Numbers.{loop_numbers}
use Rattle.links.proofs.Adding.{adds_loop, adds_over}
use borrow.Author.Rules.{rules}
use Rattle.links.proofs.put_loop.Goals as goal

pub returns-then-k-lt-MOST_LOOPS : goal.returns-then-k-lt-MOST_LOOPS
returns-then-k-lt-MOST_LOOPS c = adds_loop _ _ _ _ _ (search rules)

pub returns-else-k-lt-MOST_LOOPS : goal.returns-else-k-lt-MOST_LOOPS
returns-else-k-lt-MOST_LOOPS c = adds_over places.most_loops places.header loop_numbers _ _ _ (search rules)
