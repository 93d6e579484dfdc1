-- `put_items` meets its contract. The loop's invariant: the numbers of the first i items are stored.
use Rattle.std.specs.Prelude.{min}
use Rattle.model.specs.Numbers.{table}
use Rattle.numbers.proofs.Places.{Storing}
use Rattle.drawn_graphs.proofs.put_items.Given as goal

abbrev pub invariant-loop-i : goal.invariant-loop-i
invariant-loop-i g l =
    let used = min l.count g.I.Drawn.MOST in
    Storing g.I.Item.numbers used l.first (table used (g.I.Drawn.of_graph l.d l.f)) l.initial.l l.i l.l
