use Prim.Native.Nat.{◌<◌}
use mathlib.Core.Path.{sym, ◌∙◌}
use native.Mathlib.Omega.{arith}
use borrow.Author.Tests.{eq-eqb, ne_eqb}
use Rattle.model.specs.Drawings.{drawn_loops}
use Rattle.model.proofs.Search.{miss, hit, none}
use Rattle.links.proofs.headed.Goals as goal

pub loop_header-requires : goal.loop_header-requires
loop_header-requires c =
    let below : c.loop-j.j < drawn_loops c.args.d.now c.args.f = omega (arith, c.loop-j-test.true, c.loop_count-n.ensures) in
    (c.requires.fact_1, omega (arith, below, c.requires.fact_2))

pub returns-then-loop_header-v : goal.returns-then-loop_header-v
returns-then-loop_header-v c =
    let below : c.loop-j.j < drawn_loops c.args.d.now c.args.f = omega (arith, c.loop-j-test.true, c.loop_count-n.ensures) in
    hit c.loop-j.invariant below (eq-eqb _ _ (sym c.loop_header.ensures ∙ c.if-loop_header-v.true))

pub loop-j-preserved : goal.loop-j-preserved
loop-j-preserved c =
    let below : c.loop-j.j < drawn_loops c.args.d.now c.args.f = omega (arith, c.loop-j-test.true, c.loop_count-n.ensures) in
    miss c.loop-j.invariant below (ne_eqb _ _ (λ same. c.if-loop_header-v.false (c.loop_header.ensures ∙ same)))

pub returns : goal.returns
returns c = c.loop_count-n.ensures ∙ none c.loop-j.invariant (omega (arith, c.loop-j-test.false, c.loop_count-n.ensures))
