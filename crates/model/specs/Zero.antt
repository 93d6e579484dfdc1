-- Records with every place zero.
use Rattle.std.specs.Prelude.{ℕ}
use Rattle.model.specs.declared.Bytes.{Bytes}
use Rattle.model.specs.declared.Cycles.{Cycles}
use Rattle.model.specs.declared.Function.{Function}
use Rattle.model.specs.declared.Vertex.{Vertex}
use Rattle.model.specs.declared.Edge.{Edge}
use Rattle.model.specs.declared.Loop.{Loop}

abbrev pub bytes : ℕ → Bytes
bytes n = record { 0 = n }

abbrev pub cycles : ℕ → Cycles
cycles n = record { 0 = n }

abbrev pub zero_function : Function
zero_function = record { size = bytes 0; load = cycles 0; check = cycles 0 }

abbrev pub zero_vertex : Vertex
zero_vertex = record { function = 0; cost = cycles 0 }

abbrev pub zero_edge : Edge
zero_edge = record { from = 0; to = 0 }

abbrev pub zero_loop : Loop
zero_loop = record { header = 0; last = 0; bound = 0 }
