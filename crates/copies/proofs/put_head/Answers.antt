-- `put_head` meets its contract: the numbers are stored one behind the other.
use Rattle.copies.proofs.Head.{head_stored}
use Rattle.copies.proofs.put_head.Goals as goal

pub returns : goal.returns
returns c =
    head_stored c.args.d.now c.args.numbers.now _ _ _ c.scratchpad.ensures c.function_count-count.ensures c.put_functions.ensures
