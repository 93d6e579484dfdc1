use Prim.Native.Nat.{ℕ, ◌<◌}
use mathlib.Core.Path.{◌≡◌}
use mathlib.Core.List.{List}
use native.Mathlib.Omega.{arith}
use lib.ListN.{length}
use Rattle.model.specs.Numbers.{problem_of}
use Rattle.model.specs.Graph.{edges_of}
use Rattle.model.specs.Operations.{Checked}
use Rattle.lookup.proofs.Places.{facts, from_small}
use Rattle.flow.specs.Starts.{from}
use Rattle.flow.proofs.Begins.{no_end, one_end}
use Rattle.model.proofs.Cases.{all_done}
use Rattle.model.specs.Places as places
use Rattle.flow.proofs.ends.Goals as goal

small : {l : List ℕ} {i count u : ℕ} → Checked l → i < count → count ≡ length (edges_of (problem_of l)) → u ≡ from (problem_of l) i → u < places.most_vertices
small {l} {i} ok lt counted is_u = omega (arith, is_u, from_small l (facts l ok) i (omega (arith, counted)))

pub edge_count-i-end-requires : goal.edge_count-i-end-requires
edge_count-i-end-requires c = facts _ c.requires

pub loop-i-init : goal.loop-i-init
loop-i-init c = no_end _

pub edge_from-requires : goal.edge_from-requires
edge_from-requires c = record { fact_1 = facts _ c.requires; fact_2 = omega (arith, c.edge_count-i-end.ensures) }

pub overflow_add-behind-in-loop-i : goal.overflow_add-behind-in-loop-i
overflow_add-behind-in-loop-i c = omega (arith, small c.requires c.loop-i-test.true c.edge_count-i-end.ensures c.edge_from.ensures)

pub offset_bounds-behind-edge_from : goal.offset_bounds-behind-edge_from
offset_bounds-behind-edge_from c = omega (arith, small c.requires c.loop-i-test.true c.edge_count-i-end.ensures c.edge_from.ensures)

pub bounds-behind-edge_from : goal.bounds-behind-edge_from
bounds-behind-edge_from c = omega (arith, small c.requires c.loop-i-test.true c.edge_count-i-end.ensures c.edge_from.ensures)

pub loop-i-preserved : goal.loop-i-preserved
loop-i-preserved c =
    one_end _ _ _ _ c.edge_from.ensures (small c.requires c.loop-i-test.true c.edge_count-i-end.ensures c.edge_from.ensures) c.loop-i.invariant

pub returns : goal.returns
returns c = rw (all_done _ _ _ c.loop-i.auto.i-end c.loop-i-test.false c.edge_count-i-end.ensures) at c.loop-i.invariant
