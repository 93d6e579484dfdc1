use native.Mathlib.Omega.{arith}
use Rattle.lookup.proofs.Places.{facts, few_vertices}
use Rattle.flow.proofs.Begins.{none_found, one_found, all_found}
use Rattle.model.proofs.Cases.{all_done}
use Rattle.flow.proofs.starts.Goals as goal

pub loop-u-init : goal.loop-u-init
loop-u-init c = record {
  few = omega (arith, c.vertex_count-u-end.ensures, few_vertices _ (facts _ c.requires));
  found = none_found _ _ c.ends-begins.ensures;
}

pub loop-u-preserved : goal.loop-u-preserved
loop-u-preserved c = record {
  few = c.loop-u.invariant.few;
  found = one_found c.requires c.ends-begins.ensures (omega arith) c.max.ensures c.loop-u.invariant.found;
}

pub returns : goal.returns
returns c = all_found _ (rw (all_done _ _ _ c.loop-u.auto.u-end c.loop-u-test.false c.vertex_count-u-end.ensures) at c.loop-u.invariant.found)
