-- What each export gives back, and what `out` holds afterwards.
use Rattle.std.specs.Prelude.{ℕ, ◌≡◌, cond, ◌&&◌, List, ◌∷◌, leb, eqb}
use Rattle.model.specs.declared.Refusal.TheVariants.{OutOfRange}
use Rattle.model.specs.declared.Problem.{Problem}
use Rattle.model.specs.declared.Reason.TheVariants.{EveryVisit, FirstLoad, Never}
use Rattle.model.specs.declared.Remark.{Remark}
use Rattle.model.specs.declared.Remark.TheVariants as remark
use Rattle.model.specs.Refusals.{last_refusal, refusal_of}
use Rattle.model.specs.Numbers.{problem_of}
use Rattle.model.specs.Operations.{read_file, written_buffer}
use Rattle.model.specs.Results.{run_regions}
use Rattle.model.specs.Inlined.{inline_drawing}
use Rattle.model.specs.Sentences.{worded_buffer}
use Rattle.model.specs.Outcomes.{Outcome, Results, refusal_outcome, write_says, run_says, FillsWords, IsBounded, Evicted, word_says}
use Rattle.outcomes.specs.Outcomes.{counts, on_read, ByRead, on_inline}

-- **examiner_read**
abbrev pub read_told : List ℕ → Outcome
read_told file = on_read (read_file file) (λ p. Results (counts p)) refusal_outcome

-- **examiner_write**, where `out` has room for that many bytes
abbrev pub write_told : List ℕ → ℕ → Outcome
write_told file room = on_read (read_file file) (λ p. write_says p room) refusal_outcome

abbrev pub write_out : List ℕ → List ℕ → List ℕ
write_out file out = on_read (read_file file) (λ p. written_buffer p out) (λ f. out)

-- **examiner_write_fields**: the fields are a problem's numbers after the edition, which is no part of the problem and stands as 1.
abbrev pub fields_problem : List ℕ → Problem
fields_problem fields = problem_of (1 ∷ fields)

abbrev pub fields_told : List ℕ → ℕ → Outcome
fields_told fields room = write_says (fields_problem fields) room

-- **examiner_interference**, where `words` hold `after` at the end: what Interference says of the problem; on Read's refusal the words are as they were.
abbrev pub InterferenceTold : List ℕ → List ℕ → List ℕ → Outcome → Type 0
InterferenceTold file words after o = ByRead (read_file file) (λ p. FillsWords p words after o) (λ f. (o ≡ refusal_outcome f) × (after ≡ words))

-- **examiner_bound**: what Bound says of the problem and the layout.
abbrev pub BoundTold : List ℕ → List ℕ → Outcome → Type 0
BoundTold file layout o = ByRead (read_file file) (λ p. IsBounded p layout o) (λ f. o ≡ refusal_outcome f)

-- **examiner_run**
abbrev pub run_told : List ℕ → List ℕ → List ℕ → Outcome
run_told file layout walk = on_read (read_file file) (λ p. run_says p layout walk) refusal_outcome

abbrev pub run_held : List ℕ → List ℕ → List ℕ → List ℕ → List ℕ
run_held file layout walk held = on_read (read_file file) (λ p. run_regions p layout walk held) (λ f. held)

-- **examiner_inline**: the one problem's file, where `out` has room for that many bytes.
abbrev pub inline_told : List ℕ → ℕ → Outcome
inline_told drawing room = on_inline (inline_drawing drawing) (λ p. write_says p room) refusal_outcome

abbrev pub inline_out : List ℕ → List ℕ → List ℕ
inline_out drawing out = on_inline (inline_drawing drawing) (λ p. written_buffer p out) (λ f. out)

-- **examiner_eviction**, where `walk` holds `after` at the end: what Eviction says of the problem; on Read's refusal the walk is as it was.
abbrev pub EvictionTold : List ℕ → List ℕ → ℕ → List ℕ → List ℕ → Outcome → Type 0
EvictionTold file layout v walk after o = ByRead (read_file file) (λ p. Evicted p layout v walk after o) (λ f. (o ≡ refusal_outcome f) × (after ≡ walk))

-- What is said of the refusal with a number and a place, and of the reason with a number, which names a function if it is 1; or of a number that is none's.
abbrev pub on_refusal : {A : Type 0} → ℕ → ℕ → (Remark → A) → A → A
on_refusal n at said unknown = cond (leb 1 n && leb n last_refusal) (said (remark.Refused (refusal_of n at))) unknown

abbrev pub on_reason : {A : Type 0} → ℕ → ℕ → (Remark → A) → A → A
on_reason n g said unknown =
    cond (eqb n 1) (said (remark.Explained (EveryVisit g)))
    (cond (eqb n 2) (said (remark.Explained FirstLoad)) (cond (eqb n 3) (said (remark.Explained Never)) unknown))

-- **examiner_word_refusal** and **examiner_word_reason**, where `text` has room for that many bytes: a number that is none's is 3 at 0.
abbrev pub refusal_told : ℕ → ℕ → ℕ → Outcome
refusal_told n at room = on_refusal n at (λ r. word_says r room) (refusal_outcome (OutOfRange 0))

abbrev pub refusal_text : ℕ → ℕ → List ℕ → List ℕ
refusal_text n at text = on_refusal n at (λ r. worded_buffer r text) text

abbrev pub reason_told : ℕ → ℕ → ℕ → Outcome
reason_told n g room = on_reason n g (λ r. word_says r room) (refusal_outcome (OutOfRange 0))

abbrev pub reason_text : ℕ → ℕ → List ℕ → List ℕ
reason_text n g text = on_reason n g (λ r. worded_buffer r text) text
