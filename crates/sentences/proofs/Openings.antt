-- A text's first byte tells which sentence it may be.
use Prim.Native.Nat.{ℕ, ◌-◌, ◌<◌}
use Rattle.std.specs.Prelude.{Result}
use Rattle.model.specs.declared.Refusal.{Refusal}
use Rattle.model.specs.declared.Remark.{Remark}
use native.Mathlib.Omega.{arith}
use mathlib.Core.Path.{◌≡◌, sym, subst}
use mathlib.Core.List.{List, [], ◌∷◌}
use lib.ListN.{length, get_or}
use Rattle.model.specs.declared.Reason.TheVariants.{FirstLoad, Never}
use Rattle.model.specs.declared.Remark.TheVariants.{Explained}
use Rattle.model.specs.Refusals.{last_refusal}
use Rattle.model.specs.Places.{most_functions}
use Rattle.model.specs.Decimals.{text}
use Rattle.model.specs.Sentences.{ReadsAs}
use Rattle.model.specs.Outcomes.{sentence_outcome, Understood}
use Rattle.model.proofs.Answers.{said_outcome}
use Rattle.grammar.specs.Grammar.{dead, done, value, texts, Stuck, read_by}
use Rattle.sentences.specs.Remarks.{refusing, every_visit, first_load, never, after_number, after_function, last, fixed, reasons, remarks, answer_of}
use Rattle.sentences.proofs.Claims.{reads_as_lem}
use Rattle.sentences.proofs.Steps.{Answers, opens_so, opens_otherwise}

-- What is read by the grammar is right, and so is its outcome.
abbrev pub Answered : List ℕ → Result Remark Refusal → Type 0
Answered s answer = ReadsAs s answer × Understood s (sentence_outcome answer)

right : (s : List ℕ) {answer : Result Remark Refusal} → Answers s 0 remarks answer → Answered s answer
right s {answer} e = said_outcome sentence_outcome (ReadsAs s) answer (subst (ReadsAs s) (sym e) (reads_as_lem s))

pub empty_right : (s : List ℕ) {answer : Result Remark Refusal} → length s ≡ 0 → answer ≡ answer_of (Stuck 0) → Answered s answer
unfolding remarks text read_by
empty_right [] none a = right [] a
empty_right (c ∷ s) none a = absurd (omega arith)

module _ (s : List ℕ) (some : 0 < length s) {answer : Result Remark Refusal} where
  -- The bytes of R, E, O and N.
  pub refusal_right : get_or s 0 0 ≡ 82 → Answers s 0 (texts refusing (value 1 last_refusal after_number)) answer → Answered s answer
  unfolding remarks text
  refusal_right e a = right s (opens_so refusing (value 1 last_refusal after_number) reasons s (omega arith) some e a)

  reason_right : (get_or s 0 0 ≡ 82 → ⊥) → Answers s 0 reasons answer → Answered s answer
  unfolding remarks text
  reason_right n a = right s (opens_otherwise refusing (value 1 last_refusal after_number) reasons s (omega arith) some n a)

  pub visit_right : get_or s 0 0 ≡ 69 → Answers s 0 (texts every_visit (value 0 (most_functions - 1) after_function)) answer → Answered s answer
  unfolding text
  visit_right e a =
      reason_right (λ q. let z = q in omega arith) (opens_so every_visit (value 0 (most_functions - 1) after_function) fixed s (omega arith) some e a)

  fixed_right : (get_or s 0 0 ≡ 82 → ⊥) → (get_or s 0 0 ≡ 69 → ⊥) → Answers s 0 fixed answer → Answered s answer
  unfolding text
  fixed_right n m a = reason_right n (opens_otherwise every_visit (value 0 (most_functions - 1) after_function) fixed s (omega arith) some m a)

  pub first_right : get_or s 0 0 ≡ 79 → Answers s 0 (texts first_load (done (Explained FirstLoad))) answer → Answered s answer
  unfolding text
  first_right e a =
      fixed_right (λ q. let z = q in omega arith) (λ q. let z = q in omega arith)
      (opens_so first_load (done (Explained FirstLoad)) last s (omega arith) some e a)

  last_right : (get_or s 0 0 ≡ 82 → ⊥) → (get_or s 0 0 ≡ 69 → ⊥) → (get_or s 0 0 ≡ 79 → ⊥) → Answers s 0 last answer → Answered s answer
  unfolding text
  last_right n m k a = fixed_right n m (opens_otherwise first_load (done (Explained FirstLoad)) last s (omega arith) some k a)

  pub never_right : get_or s 0 0 ≡ 78 → Answers s 0 (texts never (done (Explained Never))) answer → Answered s answer
  unfolding text
  never_right e a =
      last_right (λ q. let z = q in omega arith) (λ q. let z = q in omega arith) (λ q. let z = q in omega arith)
      (opens_so never (done (Explained Never)) dead s (omega arith) some e a)

  pub none_right : (get_or s 0 0 ≡ 82 → ⊥) → (get_or s 0 0 ≡ 69 → ⊥) → (get_or s 0 0 ≡ 79 → ⊥) → (get_or s 0 0 ≡ 78 → ⊥) → answer ≡ answer_of (Stuck 0) → Answered s answer
  unfolding text read_by
  none_right n m k l a = last_right n m k (opens_otherwise never (done (Explained Never)) dead s (omega arith) some l a)

-- `read_sentence` goes by these.
pub ruleset openings = (empty_right, refusal_right, visit_right, first_right, never_right, none_right)
