-- `read_pair` reads both numbers of an item that are sure to pass, or nothing.
use mathlib.Core.Path.{sym, ◌∙◌}
use native.Mathlib.Omega.{arith}
use Rattle.pair_runs.proofs.Pairs.{pair_fits, here_placed, behind_placed, pair_taken}
use Rattle.pair_runs.proofs.read_pair.Goals as goal

pub in_range-requires-clause-placed : goal.in_range-requires-clause-placed
in_range-requires-clause-placed c = here_placed c.requires.at_pair

pub overflow_add-behind-2 : goal.overflow_add-behind-2
overflow_add-behind-2 c = omega (arith, pair_fits c.requires.at_pair)

pub in_range-requires-2-clause-placed : goal.in_range-requires-2-clause-placed
in_range-requires-2-clause-placed c = behind_placed c.requires.at_pair _ (sym c.if-not-in_range.ensures)

pub offset_bounds-numbers-place : goal.offset_bounds-numbers-place
offset_bounds-numbers-place c = omega (arith, pair_fits c.requires.at_pair)

pub bounds-numbers-place : goal.bounds-numbers-place
bounds-numbers-place c = omega (arith, pair_fits c.requires.at_pair)

pub overflow_add-numbers : goal.overflow_add-numbers
overflow_add-numbers c = omega (arith, pair_fits c.requires.at_pair)

pub offset_bounds-numbers-place-2 : goal.offset_bounds-numbers-place-2
offset_bounds-numbers-place-2 c = omega (arith, pair_fits c.requires.at_pair)

pub bounds-numbers-place-2 : goal.bounds-numbers-place-2
bounds-numbers-place-2 c = omega (arith, pair_fits c.requires.at_pair)

pub returns : goal.returns
returns c =
    pair_taken c.requires.at_pair (record {
      a = c.in-Ok.a;
      middle = c.in-Ok.middle;
      first_read = sym c.read_number-first.ensures ∙ c.in-Ok.is;
      first_good = sym c.if-not-in_range.ensures;
      b = c.in-Ok-second.b;
      next = c.in-Ok-second.next;
      second_read = sym c.read_number-second.ensures ∙ c.in-Ok-second.is;
      second_good = sym c.if-not-in_range-2.ensures;
    })
