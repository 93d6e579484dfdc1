-- `read_edges` reads a run of edges.
use mathlib.Core.Path.{refl}
use native.Mathlib.Omega.{arith}
use Rattle.edge_runs.proofs.EdgesRead.{no_edge_read, started, turn, ended, all_read}
use Rattle.edge_runs.proofs.read_edges.Goals as goal

pub returns-then-not-opens : goal.returns-then-not-opens
returns-then-not-opens c = no_edge_read c.requires

pub loop-run-init : goal.loop-run-init
loop-run-init c = started c.requires (c.if-not-opens.ensures refl) refl

pub returns-then-bytes-pos : goal.returns-then-bytes-pos
returns-then-bytes-pos c = ended c.loop-run.invariant

pub returns-then-not-follows : goal.returns-then-not-follows
returns-then-not-follows c = ended c.loop-run.invariant

pub loop-run-preserved : goal.loop-run-preserved
loop-run-preserved c =
    turn c.loop-run.invariant (omega (arith, c.if-bytes-pos.false)) c.loop-run-test.true (c.if-not-follows.ensures refl)

pub returns : goal.returns
returns c = all_read c.loop-run.invariant c.loop-run-test.false
