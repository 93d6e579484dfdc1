-- The problem file: where a problem's numbers stand, every spare place among them. A list stands behind its count, and what follows it behind its last item.
use Rattle.std.specs.Prelude.{ℕ, ◌+◌, ◌-◌, ◌*◌}

-- How many items each list has room for.
abbrev pub most_functions : ℕ
most_functions = 32

abbrev pub most_vertices : ℕ
most_vertices = 128

abbrev pub most_edges : ℕ
most_edges = 512

abbrev pub most_loops : ℕ
most_loops = 32

-- How many numbers an item has.
abbrev pub function_width : ℕ
function_width = 3

abbrev pub vertex_width : ℕ
vertex_width = 2

abbrev pub edge_width : ℕ
edge_width = 2

abbrev pub loop_width : ℕ
loop_width = 3

-- The place of each count, and of each of the first item's numbers. The edition and the scratchpad size stand first.
abbrev pub edition : ℕ
edition = 0

abbrev pub scratchpad : ℕ
scratchpad = edition + 1

-- The number of functions, a function's size, its load cost and its check cost.
abbrev pub function_count : ℕ
function_count = scratchpad + 1

abbrev pub size : ℕ
size = function_count + 1

abbrev pub load : ℕ
load = size + 1

abbrev pub check : ℕ
check = load + 1

-- The number of vertices, a vertex's function and its own cost.
abbrev pub vertex_count : ℕ
vertex_count = size + function_width * most_functions

abbrev pub function : ℕ
function = vertex_count + 1

abbrev pub cost : ℕ
cost = function + 1

-- The number of edges, where an edge comes from and where it goes to.
abbrev pub edge_count : ℕ
edge_count = function + vertex_width * most_vertices

abbrev pub from : ℕ
from = edge_count + 1

abbrev pub to : ℕ
to = from + 1

-- The number of loops, a loop's header, its last vertex and its bound.
abbrev pub loop_count : ℕ
loop_count = from + edge_width * most_edges

abbrev pub header : ℕ
header = loop_count + 1

abbrev pub last : ℕ
last = header + 1

abbrev pub bound : ℕ
bound = last + 1

-- How many there are, and how many without the edition.
abbrev pub end : ℕ
end = header + loop_width * most_loops

abbrev pub field_count : ℕ
field_count = end - 1
