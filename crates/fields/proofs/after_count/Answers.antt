-- `after_count` meets its definition, for an empty list and for one with items.
use Rattle.fields.proofs.Laws.{jump_fits, empty_list, open_list}
use borrow.Author.Rules.{rules}
use Rattle.fields.proofs.after_count.Goals as goal

pub look_up-requires : goal.look_up-requires
look_up-requires c = let h = jump_fits _ _ c.requires.placed.row c.look_up-row.ensures in search rules

pub returns-then-v-eq0 : goal.returns-then-v-eq0
returns-then-v-eq0 c = empty_list _ _ _ _ c.look_up-row.ensures c.look_up.ensures c.if-v-eq0.true

pub returns : goal.returns
returns c = open_list _ _ c.if-v-eq0.false
