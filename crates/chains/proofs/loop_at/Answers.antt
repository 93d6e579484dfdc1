-- `chains::loop_at` looks whether the last loop that holds v begins there.
use mathlib.Core.Path.{sym, ◌∙◌}
use native.Mathlib.Omega.{arith}
use Rattle.chains.proofs.Checks.{facts}
use Rattle.chains.proofs.Headers.{last_listed, begins_here, begins_none, begins_before}
use Rattle.chains.proofs.loop_at.Goals as goal

pub loop_count-requires : goal.loop_count-requires
loop_count-requires c = facts c.requires.fact_1

pub returns-then-next-eq0 : goal.returns-then-next-eq0
returns-then-next-eq0 c = begins_none _ _ _ c.requires.fact_2 c.requires.fact_3 c.requires.fact_1 c.loop_count.ensures c.if-next-eq0.true

pub loop_header-requires : goal.loop_header-requires
loop_header-requires c = record { fact_1 = facts c.requires.fact_1; fact_2 = last_listed _ _ _ c.requires.fact_2 c.requires.fact_3 _ (omega arith) }

pub returns-then-loop_header-v : goal.returns-then-loop_header-v
returns-then-loop_header-v c =
    begins_here _ _ _ c.requires.fact_2 c.requires.fact_3 _ (omega arith) (sym c.loop_header.ensures ∙ c.if-loop_header-v.true)

pub loop_count-requires-2 : goal.loop_count-requires-2
loop_count-requires-2 c = facts c.requires.fact_1

pub returns : goal.returns
returns c =
    begins_before _ _ _ c.requires.fact_2 c.requires.fact_3 _ (omega arith) c.requires.fact_1 c.loop_count-2.ensures
    (λ e. c.if-loop_header-v.false (c.loop_header.ensures ∙ e))
