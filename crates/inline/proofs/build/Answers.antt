-- `build` stops at a count that passes its limit, and else stores the one problem's parts one after another.
use Rattle.copies.proofs.Vertices.{may_copy}
use Rattle.links.proofs.Made.{made_inside, made_few, made_table, made_rowed}
use Rattle.inline.proofs.Built.{rows_passed, edges_passed, loops_passed, built}
use Rattle.inline.proofs.build.Goals as goal

pub returns-then-count-gt-MOST_VERTICES : goal.returns-then-count-gt-MOST_VERTICES
returns-then-count-gt-MOST_VERTICES c = rows_passed _ c.requires.fact_1 _ _ c.rows_of-made.ensures _ c.if-count-gt-MOST_VERTICES.true

pub fill_places-requires : goal.fill_places-requires
fill_places-requires c =
    record {
      fact_1 = made_inside _ _ _ c.requires.fact_1 c.rows_of-made.ensures c.if-count-gt-MOST_VERTICES.false;
      fact_2 = made_few _ _ _ c.requires.fact_1 c.rows_of-made.ensures c.if-count-gt-MOST_VERTICES.false;
      fact_3 = made_table _ _ _ c.requires.fact_1 c.rows_of-made.ensures c.if-count-gt-MOST_VERTICES.false;
    }

pub put_vertices-requires : goal.put_vertices-requires
put_vertices-requires c =
    may_copy _ _ _ c.requires.fact_1 c.rows_of-made.ensures c.if-count-gt-MOST_VERTICES.false

pub put_edges-edges-requires : goal.put_edges-edges-requires
put_edges-edges-requires c =
    made_rowed _ _ _ c.requires.fact_1 c.rows_of-made.ensures c.if-count-gt-MOST_VERTICES.false _ c.fill_places.ensures

pub returns-then-edges-gt-MOST_EDGES : goal.returns-then-edges-gt-MOST_EDGES
returns-then-edges-gt-MOST_EDGES c =
    edges_passed _ c.requires.fact_1 _ _ c.rows_of-made.ensures c.if-count-gt-MOST_VERTICES.false _ _ _ c.put_edges-edges.ensures _ c.if-edges-gt-MOST_EDGES.true

pub put_loops-loops-requires : goal.put_loops-loops-requires
put_loops-loops-requires c =
    let few = c.if-count-gt-MOST_VERTICES.false in made_rowed _ _ _ c.requires.fact_1 c.rows_of-made.ensures few _ c.fill_places.ensures

pub returns-then-loops-gt-MOST_LOOPS : goal.returns-then-loops-gt-MOST_LOOPS
returns-then-loops-gt-MOST_LOOPS c =
    loops_passed _ c.requires.fact_1 _ _ c.rows_of-made.ensures c.if-count-gt-MOST_VERTICES.false _ _ _ c.put_edges-edges.ensures c.if-edges-gt-MOST_EDGES.false
    _ _ c.put_loops-loops.ensures _ c.if-loops-gt-MOST_LOOPS.true

pub returns : goal.returns
returns c =
    built _ c.requires.fact_1 _ _ c.rows_of-made.ensures c.if-count-gt-MOST_VERTICES.false _ _ _ c.put_edges-edges.ensures c.if-edges-gt-MOST_EDGES.false
    _ _ c.put_loops-loops.ensures c.if-loops-gt-MOST_LOOPS.false _ _ c.requires.fact_2 c.put_head.ensures c.put_vertices.ensures
    _ c.put_edition.ensures
