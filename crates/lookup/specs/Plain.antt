-- Edges and ranges as plain numbers, for the contracts of tests that take these.
use Rattle.std.specs.Prelude.{ℕ}
use Rattle.model.specs.declared.Edge.{Edge}
use Rattle.model.specs.declared.Loop.{Loop}

abbrev pub edge_of : ℕ → ℕ → Edge
edge_of from to = record { from = from; to = to }

-- No test of a range looks at the bound.
abbrev pub range_of : ℕ → ℕ → Loop
range_of header last = record { header = header; last = last; bound = 0 }
