-- `put_items` meets its contract. The loop's invariant: the numbers of the first i items are stored.
use Rattle.numbers.proofs.Places.{Storing}
use Rattle.numbers.proofs.put_items.Given as goal

abbrev pub invariant-loop-i : goal.invariant-loop-i
invariant-loop-i g l = Storing g.I.Item.numbers g.row.N l.first l.items l.initial.l l.i l.l
