-- `graph::judge_found` is its definition: rule 7 by the lowest bad range, and the others on its good case.
use mathlib.Core.Path.{◌∙◌}
use native.Mathlib.Omega.{arith}
use Rattle.lookup.specs.Lists.{edges_in}
use Rattle.graph.proofs.Loops.{found_bad, found_none}
use Rattle.graph.proofs.judge_found.Goals as goal

pub returns-then-bad-loop_count : goal.returns-then-bad-loop_count
returns-then-bad-loop_count c = found_bad (edges_in c.args.l.now) c.requires.1 (omega arith)

pub returns : goal.returns
returns c = c.judge_words.ensures ∙ found_none (edges_in c.args.l.now) c.requires.1 (omega arith)
