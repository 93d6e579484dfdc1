-- `numbers_of` meets its contract: the pieces are stored in file order over zeros, each list as `put_items` ensures.
use Rattle.numbers.proofs.Assembled.{numbered}
use Rattle.numbers.proofs.numbers_of.Goals as goal

pub returns : goal.returns
returns c =
    numbered _ _ _ _ _ _ c.put_items.ensures c.put_items-2.ensures c.put_items-3.ensures c.put_items-4.ensures c.put_edition.ensures
