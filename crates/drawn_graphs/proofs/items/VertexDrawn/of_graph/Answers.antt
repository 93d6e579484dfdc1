-- A vertex calls what stands for its callee, or function 0.
use Prim.Native.Nat.{ℕ}
use mathlib.Core.Path.{ap, ◌∙◌}
use Rattle.model.specs.Drawings.{callee_of, or_first, called_by}
use Rattle.drawn_graphs.proofs.items.VertexDrawn.of_graph.Goals as goal

pub returns : goal.returns
unfolding called_by
returns c =
    let callee = c.or_first.ensures ∙ ap (λ (n : ℕ). or_first (callee_of n)) c.callee_at.ensures in
    λ i. record { function = callee i; cost = record { 0 = c.drawn_at-cost.ensures i } }
