-- **Inline** (2/14): which refusal applies first, or the one problem.
use Rattle.std.specs.Prelude.{ℕ, zero, suc, ◌-◌, List, Bool, true, false, cond, ◌&&◌, ◌||◌, length, eqb, leb, Err, Ok, Result, Option, Some, None}
use Rattle.model.specs.Refusals.{Verdict}
use Rattle.model.specs.declared.Refusal.{Refusal}
use Rattle.model.specs.declared.Refusal.TheVariants.{OutOfRange, Recursive, CountPassed, LastCalls}
use Rattle.model.specs.declared.Vertex.{Vertex}
use Rattle.model.specs.declared.Problem.{Problem}
use Rattle.model.specs.declared.Row.{Row}
use Rattle.model.specs.Refusals.{placed_at}
use Rattle.model.specs.Zero.{bytes, cycles, zero_function, zero_vertex, zero_edge, zero_loop}
use Rattle.model.specs.Places as places
use Rattle.model.specs.Rows as rows
use Rattle.model.specs.Numbers.{table, in_places}
use Rattle.model.specs.Table.{least, greatest}
use Rattle.model.specs.Search.{lowest_below, exists_below}
use Rattle.model.specs.Graph.{broken, and_then}
use Rattle.model.specs.Costs.{own_cost}
use Rattle.model.specs.Verdicts.{judge_problem}
use Rattle.model.specs.Drawings.{drawn_scratchpad, drawn_functions, drawn_count, called_by, drawn_function, graph_of}
use Rattle.model.specs.Inlining.{row_at, rows_up_to, inlined_edges, inlined_loops}

abbrev pub is_refused : Verdict → Bool
is_refused (Ok _) = false
is_refused (Err f) = true

abbrev pub calls_some : Option ℕ → Bool
calls_some None = false
calls_some (Some g) = true

abbrev pub calls_the : Option ℕ → ℕ → Bool
calls_the None g = false
calls_the (Some h) g = eqb h g

-- With these calls f can reach g, with no function between but those below k.
unfoldable pub via : (ℕ → ℕ → Bool) → ℕ → ℕ → ℕ → Bool
via calls zero f g = calls f g
via calls (suc k) f g = via calls k f g || (via calls k f k && via calls k k g)

-- A number within the limits of its row of the field table.
abbrev pub in_limits : ℕ → ℕ → Bool
in_limits row v = leb (least row) v && leb v (greatest row)

-- A verdict with f as place.
abbrev pub placed_in : ℕ → Verdict → Verdict
placed_in f (Ok _) = Ok tt
placed_in f (Err r) = Err (placed_at r f)

-- Inline's answer, where this is the verdict on the drawing and the problem is built of it.
abbrev pub inline_verdict : Verdict → Problem → Result Problem Refusal
inline_verdict (Ok _) p = Ok p
inline_verdict (Err f) p = Err f

module _ (d : List ℕ) where
  -- 3 at 0: a bad scratchpad size or function count.
  unfoldable pub judge_head : Verdict
  judge_head =
      cond (in_limits rows.scratchpad (drawn_scratchpad d) && in_limits rows.function_count (drawn_functions d)) (Ok tt)
      (Err (OutOfRange 0))

  -- Then the lowest function that breaks 3, 4 or 6 to 9, in Write's order, with itself as place.
  abbrev pub bad_graph : ℕ → Bool
  bad_graph f = is_refused (judge_problem (graph_of d f))

  abbrev pub first_bad : ℕ
  first_bad = lowest_below (drawn_functions d) bad_graph

  unfoldable pub judge_graphs : Verdict
  judge_graphs = cond (exists_below (drawn_functions d) bad_graph) (placed_in first_bad (judge_problem (graph_of d first_bad))) (Ok tt)

  -- Then 20, a graph's last vertex calls.
  abbrev pub last_calls : ℕ → Bool
  last_calls f = calls_some (called_by d f (drawn_count d f - 1))

  unfoldable pub judge_last : Verdict
  judge_last = broken (drawn_functions d) last_calls LastCalls

  -- f has a vertex that calls g.
  unfoldable pub calls : ℕ → ℕ → Bool
  calls f g = exists_below (drawn_count d f) (λ v. calls_the (called_by d f v) g)

  -- Then 18, a function can reach itself by calls.
  abbrev pub reaches_itself : ℕ → Bool
  reaches_itself f = via calls (drawn_functions d) f f

  unfoldable pub judge_calls : Verdict
  judge_calls = broken (drawn_functions d) reaches_itself Recursive

  -- Then 19, the result would pass a count of document 01's table. One row more than it may have tells.
  abbrev pub inlined_rows : List Row
  inlined_rows = rows_up_to d places.most_vertices

  unfoldable pub judge_counts : Verdict
  judge_counts =
      cond (leb (length inlined_rows) places.most_vertices
      && (leb (length (inlined_edges d inlined_rows)) places.most_edges && leb (length (inlined_loops d inlined_rows)) places.most_loops))
      (Ok tt) (Err (CountPassed 0))

  unfoldable pub judge_drawing : Verdict
  judge_drawing = and_then judge_head (and_then judge_graphs (and_then judge_last (and_then judge_calls judge_counts)))

  -- A vertex of the result has its function and its own cost.
  abbrev pub copied : Row → Vertex
  copied r = record { function = r.function; cost = cycles (own_cost (graph_of d r.function) r.vertex) }

  unfoldable pub inlined_problem : Problem
  inlined_problem =
      record {
        scratchpad = bytes (drawn_scratchpad d);
        function_count = drawn_functions d;
        functions = in_places places.most_functions zero_function (table (drawn_functions d) (drawn_function d));
        vertex_count = length inlined_rows;
        vertices = in_places places.most_vertices zero_vertex (table (length inlined_rows) (λ i. copied (row_at inlined_rows i)));
        edge_count = length (inlined_edges d inlined_rows);
        edges = in_places places.most_edges zero_edge (inlined_edges d inlined_rows);
        loop_count = length (inlined_loops d inlined_rows);
        loops = in_places places.most_loops zero_loop (inlined_loops d inlined_rows);
      }

  -- **Inline.**
  unfoldable pub inline_drawing : Result Problem Refusal
  inline_drawing = inline_verdict judge_drawing inlined_problem
