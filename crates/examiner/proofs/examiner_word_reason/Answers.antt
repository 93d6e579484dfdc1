-- `examiner_word_reason` goes by the reason's number.
use Rattle.examiner.specs.Exports.{on_reason}
use Rattle.examiner.proofs.Worded.{visit_said, first_said, never_said, no_reason, said_told, unsaid_told}
use Rattle.examiner.proofs.examiner_word_reason.Goals as goal

pub returns-in-1 : goal.returns-in-1
returns-in-1 c =
    let a = c.args in
    let t =
    said_told (λ A. on_reason a.reason a.function) a.text.now a.answer.now _ (λ A said unknown. visit_said a.reason a.function said unknown c.in-1.is) (c.word_told.ensures.value, (c.word_told.ensures.answer_after, c.word_told.ensures.text_after)) in
    record { value = t.0; answer_after = t.1.0; text_after = t.1.1 }

pub returns-in-2 : goal.returns-in-2
returns-in-2 c =
    let a = c.args in
    let t =
    said_told (λ A. on_reason a.reason a.function) a.text.now a.answer.now _ (λ A said unknown. first_said a.reason a.function said unknown c.in-2.is) (c.word_told-in-2.ensures.value, (c.word_told-in-2.ensures.answer_after, c.word_told-in-2.ensures.text_after)) in
    record { value = t.0; answer_after = t.1.0; text_after = t.1.1 }

pub returns-in-3 : goal.returns-in-3
returns-in-3 c =
    let a = c.args in
    let t =
    said_told (λ A. on_reason a.reason a.function) a.text.now a.answer.now _ (λ A said unknown. never_said a.reason a.function said unknown c.in-3.is) (c.word_told-in-3.ensures.value, (c.word_told-in-3.ensures.answer_after, c.word_told-in-3.ensures.text_after)) in
    record { value = t.0; answer_after = t.1.0; text_after = t.1.1 }

pub returns-in_default : goal.returns-in_default
returns-in_default c =
    let a = c.args in
    let t =
    unsaid_told (λ A. on_reason a.reason a.function) a.text.now a.answer.now
    (λ A said unknown. no_reason a.reason a.function said unknown c.in_default.in_default-own.rest.0.0.1 c.in_default.in_default-own.rest.0.1 c.in_default.in_default-own.rest.1) (c.refuse.ensures.fact_1, c.refuse.ensures.fact_2) in
    record { value = t.0; answer_after = t.1.0; text_after = t.1.1 }
