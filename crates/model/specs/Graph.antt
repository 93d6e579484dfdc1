-- The graph: vertices 0 to n - 1, edges and loops as lists, and the rules 6 to 9, a whole rule at a time.
use Rattle.std.specs.Prelude.{ℕ, ◌-◌, List, Bool, cond, not, ◌&&◌, ◌||◌, length, get_or, take, eqb, ltb, leb, Err, Ok}
use Rattle.model.specs.Refusals.{Verdict}
use Rattle.model.specs.declared.Refusal.{Refusal}
use Rattle.model.specs.declared.Refusal.TheVariants.{MissingEdge, WrongLoop, WrongEdge, NoEdgeBack}
use Rattle.model.specs.declared.Function.{Function}
use Rattle.model.specs.declared.Vertex.{Vertex}
use Rattle.model.specs.declared.Edge.{Edge}
use Rattle.model.specs.declared.Loop.{Loop}
use Rattle.model.specs.declared.Problem.{Problem}
use Rattle.model.specs.Zero.{zero_edge, zero_loop}
use Rattle.model.specs.Search.{lowest_below, exists_below}

-- A problem's lists, without the spare places.
abbrev pub functions_of : Problem → List Function
functions_of p = take p.function_count p.functions

abbrev pub vertices_of : Problem → List Vertex
vertices_of p = take p.vertex_count p.vertices

abbrev pub edges_of : Problem → List Edge
edges_of p = take p.edge_count p.edges

abbrev pub loops_of : Problem → List Loop
loops_of p = take p.loop_count p.loops

-- A loop's range is header to last vertex, both counted.
abbrev pub holds : Loop → ℕ → Bool
holds l v = leb l.header v && leb v l.last

abbrev pub edge : List Edge → ℕ → Edge
edge es i = get_or es i zero_edge

abbrev pub loop : List Loop → ℕ → Loop
loop ls i = get_or ls i zero_loop

-- 6: a vertex lacks an edge that it must have. Every vertex but 0 has an edge from a lower vertex; every vertex but the last has an edge out.
abbrev pub enters_from_below : ℕ → Edge → Bool
enters_from_below v e = ltb e.from v && eqb e.to v

abbrev pub entered : List Edge → ℕ → Bool
entered es v = exists_below (length es) (λ i. enters_from_below v (edge es i))

abbrev pub exited : List Edge → ℕ → Bool
exited es v = exists_below (length es) (λ i. eqb (edge es i).from v)

unfoldable pub lacks : ℕ → List Edge → ℕ → Bool
lacks n es v = (ltb 0 v && not (entered es v)) || (ltb v (n - 1) && not (exited es v))

-- 7: a loop crosses an earlier one or holds the last vertex. Two ranges are nested or disjoint: the later one, whose header is higher, must not
-- start within the earlier one and end behind it.
abbrev pub crosses : Loop → Loop → Bool
crosses earlier later = leb later.header earlier.last && ltb earlier.last later.last

unfoldable pub bad_range : ℕ → List Loop → ℕ → Bool
bad_range n ls j = holds (loop ls j) (n - 1) || exists_below j (λ i. crosses (loop ls i) (loop ls j))

-- 8: a wrong edge. An edge into a range from outside goes to its header. An edge whose end is not above its start goes to the header of a loop
-- that holds its start.
abbrev pub enters_past_header : Edge → Loop → Bool
enters_past_header e l = holds l e.to && (not (holds l e.from) && not (eqb l.header e.to))

abbrev pub returns_to : Edge → Loop → Bool
returns_to e l = holds l e.from && eqb l.header e.to

unfoldable pub wrong_edge : List Loop → Edge → Bool
wrong_edge ls e =
    exists_below (length ls) (λ i. enters_past_header e (loop ls i))
    || (leb e.to e.from && not (exists_below (length ls) (λ i. returns_to e (loop ls i))))

-- 9: no edge back, from inside a loop's range to its header.
unfoldable pub no_return : List Edge → Loop → Bool
no_return es l = not (exists_below (length es) (λ i. returns_to (edge es i) l))

-- A rule is broken at the lowest number below n that fails it.
abbrev pub broken : ℕ → (ℕ → Bool) → (ℕ → Refusal) → Verdict
broken n test refusal = cond (exists_below n test) (Err (refusal (lowest_below n test))) (Ok tt)

-- The next check, on the good case of the one before.
abbrev pub and_then : Verdict → Verdict → Verdict
and_then (Ok _) next = next
and_then (Err f) next = Err f

-- The graph, a whole rule at a time.
module _ (n : ℕ) (es : List Edge) (ls : List Loop) where
  unfoldable pub graph_rules : Verdict
  graph_rules =
      and_then (broken n (lacks n es) MissingEdge)
      (and_then (broken (length ls) (bad_range n ls) WrongLoop)
      (and_then (broken (length es) (λ i. wrong_edge ls (edge es i)) WrongEdge)
      (broken (length ls) (λ i. no_return es (loop ls i)) NoEdgeBack)))

abbrev pub judge_graph : Problem → Verdict
judge_graph p = graph_rules p.vertex_count (edges_of p) (loops_of p)
