-- The problem file: the rows of the field table, in file order, and the end of the file behind them.
use Rattle.std.specs.Prelude.{ℕ, ◌+◌}

-- The edition and the scratchpad size.
abbrev pub edition : ℕ
edition = 0

abbrev pub scratchpad : ℕ
scratchpad = edition + 1

-- The number of functions, a function's size, its load cost and its check cost.
abbrev pub function_count : ℕ
function_count = scratchpad + 1

abbrev pub size : ℕ
size = function_count + 1

abbrev pub load : ℕ
load = size + 1

abbrev pub check : ℕ
check = load + 1

-- The number of vertices, a vertex's function and its own cost.
abbrev pub vertex_count : ℕ
vertex_count = check + 1

abbrev pub function : ℕ
function = vertex_count + 1

abbrev pub cost : ℕ
cost = function + 1

-- The number of edges, where an edge comes from and where it goes to.
abbrev pub edge_count : ℕ
edge_count = cost + 1

abbrev pub from : ℕ
from = edge_count + 1

abbrev pub to : ℕ
to = from + 1

-- The number of loops, a loop's header, its last vertex and its bound.
abbrev pub loop_count : ℕ
loop_count = to + 1

abbrev pub header : ℕ
header = loop_count + 1

abbrev pub last : ℕ
last = header + 1

abbrev pub bound : ℕ
bound = last + 1

abbrev pub end : ℕ
end = bound + 1
