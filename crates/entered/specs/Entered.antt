-- Entered vertices, told by flags and edge by edge.
use Rattle.std.specs.Prelude.{ℕ, List, Bool, not, eqb}
use Rattle.model.specs.declared.Problem.{Problem}
use Rattle.model.specs.Graph.{edge, edges_of}
use Rattle.model.specs.Costs.{function_of}
use Rattle.model.specs.Charges.{entered}
use Rattle.entered.specs.Flags.{FlagsTell}

-- The flags tell which vertices are entered.
abbrev pub EnteredTold : Problem → List ℕ → Type 0
EnteredTold p flags = FlagsTell p.vertex_count (entered p) flags

-- Edge i leads from one function to another.
abbrev pub crosses : Problem → ℕ → Bool
crosses p i = not (eqb (function_of p (edge (edges_of p) i).from) (function_of p (edge (edges_of p) i).to))
