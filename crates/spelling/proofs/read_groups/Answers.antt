use mathlib.Core.Path.{sym, ◌∙◌}
use native.Mathlib.Omega.{arith}
use Rattle.spelling.proofs.Reading.{Reading}
use Rattle.spelling.proofs.Laws.{answers, goes_on, runs_out}
use Rattle.spelling.proofs.read_groups.Goals as goal

pub returns-then-bytes-pos : goal.returns-then-bytes-pos
returns-then-bytes-pos c = answers c.loop-left.invariant c.loop-left-test.true (Reading.ended c.if-bytes-pos.true)

pub returns-then-high_fifth : goal.returns-then-high_fifth
returns-then-high_fifth c =
    answers c.loop-left.invariant c.loop-left-test.true (Reading.fifth c.if-bytes-pos.false (sym c.high_fifth.ensures ∙ c.if-high_fifth.true))

pub returns-then-b-lt128 : goal.returns-then-b-lt128
returns-then-b-lt128 c =
    answers c.loop-left.invariant c.loop-left-test.true
    (Reading.last c.if-bytes-pos.false (sym c.high_fifth.ensures ∙ c.if-high_fifth.false) c.if-b-lt128.true)

pub loop-left-preserved : goal.loop-left-preserved
loop-left-preserved c =
    goes_on c.loop-left.invariant c.loop-left-test.true c.if-bytes-pos.false (sym c.high_fifth.ensures ∙ c.if-high_fifth.false) c.if-b-lt128.false
    (omega (arith, c.type_inv.bytes c.loop-left.pos))

pub returns : goal.returns
returns c = runs_out c.loop-left.invariant c.loop-left-test.false
