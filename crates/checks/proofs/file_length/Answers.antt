use mathlib.Core.Path.{sym, ◌∙◌}
use Rattle.model.proofs.Answers.{refused_not_done}
use Rattle.checks.proofs.file_length.Goals as goal

pub loop-init : goal.loop-init
loop-init c =
    refused_not_done (sym c.in_default.is ∙ c.check_fields.ensures ∙ c.requires.fields)

pub loop-smaller : goal.loop-smaller
loop-smaller c = absurd c.loop.invariant

pub loop-preserved : goal.loop-preserved
loop-preserved c = c.loop.invariant

pub returns : goal.returns
returns c = sym c.check_fields.ensures ∙ c.in-Ok.is
