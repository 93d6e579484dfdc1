-- `fill_graph` meets its contract: the pieces are in file order over zeros, each list as its function ensures.
use Rattle.drawn_graphs.proofs.Graphs.{graph_filled}
use Rattle.drawn_graphs.proofs.fill_graph.Goals as goal

pub returns : goal.returns
returns c =
    graph_filled _ _
    c.requires.fact_2
    c.scratchpad.ensures
    c.function_count-functions.ensures
    c.vertex_count-vertices.ensures
    c.edge_count-edges.ensures
    c.loop_count-loops.ensures
    c.put_items.ensures
    c.put_items-2.ensures
    c.put_items-3.ensures
    c.put_items-4.ensures
    c.put_edition.ensures
