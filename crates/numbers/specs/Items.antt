-- The items whose numbers stand from a place on.
use Rattle.std.specs.Prelude.{ℕ, ◌+◌, get_or, List}
use Rattle.model.specs.declared.Function.{Function}
use Rattle.model.specs.declared.Vertex.{Vertex}
use Rattle.model.specs.declared.Edge.{Edge}
use Rattle.model.specs.declared.Loop.{Loop}
use Rattle.model.specs.Zero.{bytes, cycles}

module _ (l : List ℕ) (at : ℕ) where
  abbrev pub function_from : Function
  function_from = record { size = bytes (get_or l at 0); load = cycles (get_or l (at + 1) 0); check = cycles (get_or l (at + 2) 0) }

  abbrev pub vertex_from : Vertex
  vertex_from = record { function = get_or l at 0; cost = cycles (get_or l (at + 1) 0) }

  abbrev pub edge_from : Edge
  edge_from = record { from = get_or l at 0; to = get_or l (at + 1) 0 }

  abbrev pub loop_from : Loop
  loop_from = record { header = get_or l at 0; last = get_or l (at + 1) 0; bound = get_or l (at + 2) 0 }
