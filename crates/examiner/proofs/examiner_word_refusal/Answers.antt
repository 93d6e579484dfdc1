-- `examiner_word_refusal` refuses a number that is no refusal's, or words the refusal.
use Rattle.examiner.specs.Exports.{on_refusal}
use Rattle.examiner.proofs.Worded.{below_refusals, past_refusals, refusal_said, said_told, unsaid_told}
use Rattle.examiner.proofs.examiner_word_refusal.Goals as goal

pub returns-then-number-lt1 : goal.returns-then-number-lt1
returns-then-number-lt1 c =
    let a = c.args in
    let t =
    unsaid_told (λ A. on_refusal a.number a.place) a.text.now a.answer.now (λ A said unknown. below_refusals a.number a.place said unknown c.if-number-lt1.true) (c.refuse.ensures.fact_1, c.refuse.ensures.fact_2) in
    record { value = t.0; answer_after = t.1.0; text_after = t.1.1 }

pub returns-then-number-gt-LAST_REFUSAL : goal.returns-then-number-gt-LAST_REFUSAL
returns-then-number-gt-LAST_REFUSAL c =
    let a = c.args in
    let t =
    unsaid_told (λ A. on_refusal a.number a.place) a.text.now a.answer.now
    (λ A said unknown. past_refusals a.number a.place said unknown c.if-number-lt1.false c.if-number-gt-LAST_REFUSAL.true) (c.refuse-then-number-gt-LAST_REFUSAL.ensures.fact_1, c.refuse-then-number-gt-LAST_REFUSAL.ensures.fact_2) in
    record { value = t.0; answer_after = t.1.0; text_after = t.1.1 }

pub returns : goal.returns
returns c =
    let a = c.args in
    let t =
    said_told (λ A. on_refusal a.number a.place) a.text.now a.answer.now _
    (λ A said unknown. refusal_said a.number a.place said unknown _ c.if-number-lt1.false c.if-number-gt-LAST_REFUSAL.false c.numbered-refusal.ensures) (c.word_told.ensures.value, (c.word_told.ensures.answer_after, c.word_told.ensures.text_after)) in
    record { value = t.0; answer_after = t.1.0; text_after = t.1.1 }
