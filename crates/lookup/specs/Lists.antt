-- The graph that stands among a problem's numbers.
use Rattle.std.specs.Prelude.{ℕ, List}
use Rattle.model.specs.declared.Edge.{Edge}
use Rattle.model.specs.declared.Loop.{Loop}
use Rattle.model.specs.Numbers.{problem_of}
use Rattle.model.specs.Graph.{edges_of, loops_of}

abbrev pub vertices_in : List ℕ → ℕ
vertices_in l = (problem_of l).vertex_count

abbrev pub edges_in : List ℕ → List Edge
edges_in l = edges_of (problem_of l)

abbrev pub loops_in : List ℕ → List Loop
loops_in l = loops_of (problem_of l)
