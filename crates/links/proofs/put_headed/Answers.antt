-- `put_headed` puts the one loop whose header is the row's vertex, where there is one.
use Prim.Native.Nat.{ℕ, ◌<◌}
use mathlib.Core.Path.{◌≡◌}
use mathlib.Core.List.{List}
use native.Mathlib.Omega.{arith}
use Rattle.model.specs.declared.Loop.{Loop}
use Rattle.model.specs.Places as places
use Rattle.model.specs.Numbers.{loop_numbers}
use Rattle.model.specs.Drawings.{drawn_loops}
use Rattle.links.specs.Put.{AddsLoops}
use Rattle.links.proofs.Adding.{adds_none, adds_same}
use Rattle.links.proofs.Drawn.{row_drawn, row_first}
use Rattle.links.proofs.Headers.{headed_read, none_headed}
use Rattle.links.proofs.put_headed.Goals as goal
use Rattle.links.proofs.put_headed.Goals.{Then-j-loop_count}

below : (c : Then-j-loop_count) → c.headed-j.result < drawn_loops c.args.d.now c.args.here.function
below c = omega (arith, c.if-j-loop_count.true, c.loop_count.ensures)

-- What is put is what the row has.
abbrev put : (l : List ℕ) (k : ℕ) (xs ys : List Loop) (l' : List ℕ) (k' : ℕ) → ys ≡ xs → AddsLoops l k xs l' k' → AddsLoops l k ys l' k'
put = adds_same places.most_loops places.header loop_numbers

pub last_in-last-requires : goal.last_in-last-requires
last_in-last-requires c =
    record { fact_1 = row_first _ c.requires.fact_1 _ _ c.requires.fact_2 c.requires.fact_3; fact_2 = omega (arith, c.loop_last.ensures, (row_drawn _ c.requires.fact_1 _ _ c.requires.fact_2).last c.headed-j.result (below (goal.at.last_in-last-requires c).Then-j-loop_count), (row_drawn _ c.requires.fact_1 _ _ c.requires.fact_2).vertices) }

pub returns-then-j-loop_count : goal.returns-then-j-loop_count
returns-then-j-loop_count c rows placed =
    put _ _ _ _ _ _
    (headed_read _ rows _ _ (row_drawn _ c.requires.fact_1 _ _ c.requires.fact_2) _ c.headed-j.ensures c.args.table.now placed (below (goal.at.returns-then-j-loop_count c).Then-j-loop_count) (row_first _ c.requires.fact_1 _ _ c.requires.fact_2 c.requires.fact_3)
    _ _ _ c.loop_last.ensures c.last_in-last.ensures c.loop_bound.ensures)
    c.put_loop.ensures

pub returns : goal.returns
returns c rows placed =
    put _ _ _ _ _ _ (none_headed _ rows _ _ (row_drawn _ c.requires.fact_1 _ _ c.requires.fact_2) _ c.headed-j.ensures (omega (arith, c.if-j-loop_count.false, c.loop_count.ensures)))
    (adds_none places.most_loops places.header loop_numbers _ _)
