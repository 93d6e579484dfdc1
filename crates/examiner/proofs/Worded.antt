-- What is said of a remark by its number.
use Prim.Native.Nat.{ℕ, ◌≤◌, ◌<◌}
use mathlib.Core.Path.{◌≡◌, ap, ◌∙◌}
use mathlib.Core.List.{List}
use lib.ListN.{length}
use borrow.Author.Tests.{le-leb, lt-leb, ne_eqb}
use Rattle.model.specs.declared.Refusal.{Refusal}
use Rattle.model.specs.declared.Refusal.TheVariants.{OutOfRange}
use Rattle.model.specs.declared.Reason.TheVariants.{EveryVisit, FirstLoad, Never}
use Rattle.model.specs.declared.Remark.{Remark}
use Rattle.model.specs.declared.Remark.TheVariants as remark
use Rattle.model.specs.Refusals.{last_refusal, refusal_of}
use Rattle.model.specs.Sentences.{worded_buffer}
use Rattle.model.specs.Outcomes.{Outcome, refusal_outcome, word_says}
use Rattle.outcomes.specs.Outcomes.{status, answer_after}
use Rattle.outcomes.proofs.Told.{told_with}
use Rattle.examiner.specs.Exports.{on_refusal, on_reason}

module _ {A : Type 0} (n at : ℕ) (said : Remark → A) (unknown : A) where
  pub below_refusals : n < 1 → unknown ≡ on_refusal n at said unknown
  below_refusals h = rw (lt-leb 1 n h)

  pub past_refusals : 1 ≤ n → last_refusal < n → unknown ≡ on_refusal n at said unknown
  past_refusals low h = rw (le-leb 1 n low, lt-leb n last_refusal h)

  pub refusal_said : (f : Refusal) → 1 ≤ n → n ≤ last_refusal → f ≡ refusal_of n at → said (remark.Refused f) ≡ on_refusal n at said unknown
  refusal_said f low high is = rw (le-leb 1 n low, le-leb n last_refusal high) (ap (λ (f : Refusal). said (remark.Refused f)) is)

  pub visit_said : n ≡ 1 → said (remark.Explained (EveryVisit at)) ≡ on_reason n at said unknown
  visit_said e = rw e

  pub first_said : n ≡ 2 → said (remark.Explained FirstLoad) ≡ on_reason n at said unknown
  first_said e = rw e

  pub never_said : n ≡ 3 → said (remark.Explained Never) ≡ on_reason n at said unknown
  never_said e = rw e

  pub no_reason : (n ≡ 1 → ⊥) → (n ≡ 2 → ⊥) → (n ≡ 3 → ⊥) → unknown ≡ on_reason n at said unknown
  no_reason a b c = rw (ne_eqb n 1 a, ne_eqb n 2 b, ne_eqb n 3 c)

-- What is chosen by a number, where a remark is said or none is, is told and held so.
module _ (choose : (A : Type 0) → (Remark → A) → A → A) (text before : List ℕ) where
  abbrev chosen : Outcome
  chosen = choose Outcome (λ q. word_says q (length text)) (refusal_outcome (OutOfRange 0))

  pub said_told : {r : ℕ} {after end : List ℕ} (q : Remark) → ((A : Type 0) (said : Remark → A) (unknown : A) → said q ≡ choose A said unknown) →
      (r ≡ status (word_says q (length text))) × ((after ≡ answer_after (word_says q (length text)) before) × (end ≡ worded_buffer q text)) →
      (r ≡ status chosen) × ((after ≡ answer_after chosen before) × (end ≡ choose (List ℕ) (λ q. worded_buffer q text) text))
  said_told q is t = told_with _ _ _ _ _ (is Outcome _ _) t.0 t.1.0 (t.1.1 ∙ is (List ℕ) (λ q. worded_buffer q text) text)

  pub unsaid_told : {r : ℕ} {after : List ℕ} → ((A : Type 0) (said : Remark → A) (unknown : A) → unknown ≡ choose A said unknown) →
      (r ≡ status (refusal_outcome (OutOfRange 0))) × (after ≡ answer_after (refusal_outcome (OutOfRange 0)) before) →
      (r ≡ status chosen) × ((after ≡ answer_after chosen before) × (text ≡ choose (List ℕ) (λ q. worded_buffer q text) text))
  unsaid_told is t = told_with _ _ _ _ _ (is Outcome (λ q. word_says q (length text)) _) t.0 t.1 (is (List ℕ) (λ q. worded_buffer q text) text)
