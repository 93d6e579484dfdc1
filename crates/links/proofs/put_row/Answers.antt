-- `put_row` puts what the row has: one edge to its copy, the edges of its vertex, none, or the edges of its call vertex.
use Prim.Native.Nat.{ℕ}
use mathlib.Core.Path.{◌≡◌, sym, ◌∙◌}
use mathlib.Core.List.{List}
use native.Mathlib.Omega.{arith}
use Rattle.model.specs.declared.Edge.{Edge}
use Rattle.model.specs.Places as places
use Rattle.model.specs.Numbers.{edge_numbers}
use Rattle.links.specs.Put.{AddsEdges}
use Rattle.links.proofs.Adding.{adds_none, adds_same}
use Rattle.links.proofs.Rows.{calls, inside, ends, goes_on}
use Rattle.links.proofs.put_row.Goals as goal

-- What is put is what the row has.
abbrev put : (l : List ℕ) (k : ℕ) (xs ys : List Edge) (l' : List ℕ) (k' : ℕ) → ys ≡ xs → AddsEdges l k xs l' k' → AddsEdges l k ys l' k'
put = adds_same places.most_edges places.from edge_numbers

pub returns-then-callee_at-ne-NONE : goal.returns-then-callee_at-ne-NONE
returns-then-callee_at-ne-NONE c rows placed is =
    put _ _ _ _ _ _ (calls _ _ _ _ (λ none. c.if-callee_at-ne-NONE.true (c.callee_at.ensures ∙ none)))
    c.put_edge.ensures

pub returns-then-v-vertex_count : goal.returns-then-v-vertex_count
returns-then-v-vertex_count c rows placed is =
    put _ _ _ _ _ _ (inside _ _ _ _ (sym c.callee_at.ensures ∙ c.if-callee_at-ne-NONE.false) (omega (arith, c.if-v-vertex_count.true, c.vertex_count.ensures)))
    (c.put_leaving.ensures rows placed)

pub returns-then-here-eq0 : goal.returns-then-here-eq0
returns-then-here-eq0 c rows placed is =
    put _ _ _ _ _ _ (ends _ _ _ _ (sym c.callee_at.ensures ∙ c.if-callee_at-ne-NONE.false) (omega (arith, c.if-v-vertex_count.false, c.vertex_count.ensures)) c.if-here-eq0.true)
    (adds_none places.most_edges places.from edge_numbers _ _)

pub returns : goal.returns
returns c rows placed is =
    put _ _ _ _ _ _ (goes_on _ _ _ _ (sym c.callee_at.ensures ∙ c.if-callee_at-ne-NONE.false) (omega (arith, c.if-v-vertex_count.false, c.vertex_count.ensures)) c.if-here-eq0.false _ is)
    (c.put_leaving-2.ensures rows placed)
