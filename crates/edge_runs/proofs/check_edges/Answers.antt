-- `check_edges` judges a run of edges.
use mathlib.Core.Path.{refl}
use Rattle.edge_runs.proofs.EdgesChecked.{none_checked, started, turn, ended, all_checked}
use Rattle.edge_runs.proofs.check_edges.Goals as goal

pub returns-then-not-opens : goal.returns-then-not-opens
returns-then-not-opens c = none_checked _ c.requires

pub loop-run-init : goal.loop-run-init
loop-run-init c = started c.requires (c.if-not-opens.ensures refl) refl

pub returns-then-not-follows : goal.returns-then-not-follows
returns-then-not-follows c = ended c.loop-run.invariant

pub loop-run-preserved : goal.loop-run-preserved
loop-run-preserved c = turn c.loop-run.invariant c.loop-run-test.true (c.if-not-follows.ensures refl)

pub returns : goal.returns
returns c = all_checked c.loop-run.invariant c.loop-run-test.false
