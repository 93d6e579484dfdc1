-- `examiner_write_fields` meets its contract: Write's answer on the problem that the fields say is told.
use lib.ListN.{length}
use mathlib.Core.Path.{ap, ◌∙◌}
use Rattle.model.specs.declared.Problem.{Problem}
use Rattle.model.specs.Numbers.{problem_of}
use Rattle.model.specs.Operations.{written_buffer}
use Rattle.model.specs.Outcomes.{write_says}
use Rattle.outcomes.proofs.Told.{told_with}
use Rattle.examiner.proofs.examiner_write_fields.Goals as goal

pub returns : goal.returns
returns c =
    let out = c.args.out.now in
    let problem = c.problem_of-problem.ensures ∙ ap problem_of c.with_edition-numbers.ensures in
    let t =
    told_with _ _ _ _ _
    (c.write.ensures.result_value ∙ ap (λ (p : Problem). write_says p (length out)) problem)
    c.tell_written.ensures.fact_1
    c.tell_written.ensures.fact_2
    (c.write.ensures.value_2 ∙ ap (λ (p : Problem). written_buffer p out) problem) in
    record { value = t.0; answer_after = t.1.0; out_after = t.1.1 }
