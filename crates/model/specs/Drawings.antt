-- Drawings (2/14): one graph per function, where a vertex may call another function, as 44,226 numbers at fixed places: 0 scratchpad size, 1 number of
-- functions, and each function's numbers behind those of the function before. What stands past a count is spare.
use Rattle.std.specs.Prelude.{ℕ, ◌+◌, ◌-◌, ◌*◌, List, cond, get_or, eqb, Option, Some, None}
use Rattle.model.specs.declared.Function.{Function}
use Rattle.model.specs.declared.Vertex.{Vertex}
use Rattle.model.specs.declared.Edge.{Edge}
use Rattle.model.specs.declared.Loop.{Loop}
use Rattle.model.specs.declared.Problem.{Problem}
use Rattle.model.specs.Zero.{bytes, cycles}
use Rattle.model.specs.Places as places
use Rattle.model.specs.Numbers.{table}

-- Where the functions' numbers begin.
abbrev pub functions_place : ℕ
functions_place = 2

-- Among a function's numbers stand its size, its load cost and its check cost, and then its graph, as a problem's numbers stand from the number of vertices on.
abbrev pub size_place : ℕ
size_place = 0

abbrev pub load_place : ℕ
load_place = size_place + 1

abbrev pub check_place : ℕ
check_place = load_place + 1

abbrev pub graph_place : ℕ
graph_place = check_place + 1

-- Where the number at a place of a problem stands among a function's.
abbrev pub drawn_place : ℕ → ℕ
drawn_place place = graph_place + place - places.vertex_count

-- How many numbers a function has.
abbrev pub drawn_width : ℕ
drawn_width = graph_place + places.end - places.vertex_count

-- What stands for a callee: its number, or 255 for none.
abbrev pub no_callee : ℕ
no_callee = 255

abbrev pub callee_of : ℕ → Option ℕ
callee_of n = cond (eqb n no_callee) None (Some n)

-- The callee, or function 0 where there is none.
abbrev pub or_first : Option ℕ → ℕ
or_first None = 0
or_first (Some g) = g

module _ (d : List ℕ) where
  abbrev pub drawn_scratchpad : ℕ
  drawn_scratchpad = get_or d 0 0

  abbrev pub drawn_functions : ℕ
  drawn_functions = get_or d 1 0

  -- Number k of function f.
  abbrev pub drawn_at : ℕ → ℕ → ℕ
  drawn_at f k = get_or d (functions_place + drawn_width * f + k) 0

  -- Number k of item i in a list of function f, whose items have so many numbers.
  abbrev pub drawn_item : ℕ → ℕ → ℕ → ℕ → ℕ
  drawn_item f k width i = drawn_at f (drawn_place k + width * i)

  -- The numbers of vertices, edges and loops.
  abbrev pub drawn_count : ℕ → ℕ
  drawn_count f = drawn_at f (drawn_place places.vertex_count)

  abbrev pub drawn_edges : ℕ → ℕ
  drawn_edges f = drawn_at f (drawn_place places.edge_count)

  abbrev pub drawn_loops : ℕ → ℕ
  drawn_loops f = drawn_at f (drawn_place places.loop_count)

  -- The function that vertex v of f calls, if any.
  unfoldable pub called_by : ℕ → ℕ → Option ℕ
  called_by f v = callee_of (drawn_item f places.function places.vertex_width v)

  -- The graph drawn for f, as a problem of document 01: every function has f's size, load cost and check cost, and the function of a vertex is the one that it
  -- calls, 0 where it calls none.
  abbrev pub drawn_function : ℕ → Function
  drawn_function f = record { size = bytes (drawn_at f size_place); load = cycles (drawn_at f load_place); check = cycles (drawn_at f check_place) }

  abbrev pub drawn_vertex : ℕ → ℕ → Vertex
  drawn_vertex f v = record { function = or_first (called_by f v); cost = cycles (drawn_item f places.cost places.vertex_width v) }

  abbrev pub drawn_edge : ℕ → ℕ → Edge
  drawn_edge f i = record { from = drawn_item f places.from places.edge_width i; to = drawn_item f places.to places.edge_width i }

  abbrev pub drawn_loop : ℕ → ℕ → Loop
  drawn_loop f i =
      record {
        header = drawn_item f places.header places.loop_width i;
        last = drawn_item f places.last places.loop_width i;
        bound = drawn_item f places.bound places.loop_width i;
      }

  unfoldable pub graph_of : ℕ → Problem
  graph_of f =
      record {
        scratchpad = bytes drawn_scratchpad;
        function_count = drawn_functions;
        functions = table places.most_functions (λ i. drawn_function f);
        vertex_count = drawn_count f;
        vertices = table places.most_vertices (drawn_vertex f);
        edge_count = drawn_edges f;
        edges = table places.most_edges (drawn_edge f);
        loop_count = drawn_loops f;
        loops = table places.most_loops (drawn_loop f);
      }
