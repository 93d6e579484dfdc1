-- `items_of` meets its contract: the call at i gives the item whose numbers stand at place i.
use Rattle.std.proofs.Common.{rules}
use Rattle.records.proofs.Calls.{table_of_calls}
use Rattle.records.proofs.items_of.Goals as goal

pub returns : goal.returns
returns g c = table_of_calls _ _ _ (λ i y q call. search rules) _ g.row.N (g.I.Item.read c.args.l.now 0) c.from_fn.ensures.items
