use Rattle.ranges.proofs.Turns.{marks_none, marks_more}
use Rattle.ranges.proofs.marks_of.Goals as goal

pub loop-i-init : goal.loop-i-init
loop-i-init c = marks_none _

pub loop-i-preserved : goal.loop-i-preserved
loop-i-preserved c = let e = marks_more c.args.loops.now c.loop-i.i in cc
