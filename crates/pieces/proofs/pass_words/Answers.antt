use Rattle.pieces.proofs.Reading.{passing_start, stop_short, stop_differs, passing_next, passed_all}
use borrow.Author.Rules.{rules}
use Rattle.pieces.proofs.pass_words.Goals as goal
use Rattle.pieces.proofs.pass_words.Goals.{then-text-pos-via-then-text-pos, then-text-pos-via-else-text-pos+then-text-pos-2}

pub loop-i-init : goal.loop-i-init
loop-i-init c = passing_start _ _ _ c.requires

pub returns-then-text-pos : goal.returns-then-text-pos
returns-then-text-pos c =
    elim c.then-text-pos.branch [
      | then-text-pos-via-then-text-pos w ↦ stop_short _ _ _ _ c.loop-i.invariant c.loop-i-test.true w.if-text-pos.true
      | then-text-pos-via-else-text-pos+then-text-pos-2 w ↦ stop_differs _ _ _ _ c.loop-i.invariant c.loop-i-test.true w.if-text-pos.false w.if-text-pos-2.true
    ]

pub loop-i-preserved : goal.loop-i-preserved
loop-i-preserved c = passing_next _ _ _ _ (search rules) (search rules) (search rules) (search rules)

pub returns : goal.returns
returns c = passed_all _ _ _ _ c.loop-i.invariant c.loop-i-test.false
