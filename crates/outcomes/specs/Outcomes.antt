-- How an export's caller is told an outcome.
use Rattle.std.specs.Prelude.{ℕ, ◌≡◌, List, [], ◌∷◌, Err, Ok, Result}
use Rattle.std.proofs.lemmas.List.Edits.{sets}
use Rattle.model.specs.declared.Refusal.{Refusal}
use Rattle.model.specs.declared.Problem.{Problem}
use Rattle.model.specs.Outcomes.{Outcome, Results, Refusing, refusal_outcome}

-- The number returned: 0, or the refusal's number.
abbrev pub status : Outcome → ℕ
status (Results ns) = 0
status (Refusing n at) = n

-- What `answer` holds afterwards: the result's numbers, or the refusal's place, at the front; the other places keep their values.
abbrev pub answer_after : Outcome → List ℕ → List ℕ
answer_after (Results ns) answer = sets answer 0 ns
answer_after (Refusing n at) answer = sets answer 0 (at ∷ [])

-- An operation on a file goes on with the problem that Read gives; otherwise Read's refusal stands.
abbrev pub on_read : {A : Type 0} → Result Problem Refusal → (Problem → A) → (Refusal → A) → A
on_read (Ok p) good refused = good p
on_read (Err f) good refused = refused f

-- An operation on a drawing goes on with its one problem; otherwise Inline's refusal stands.
abbrev pub on_inline : {A : Type 0} → Result Problem Refusal → (Problem → A) → (Refusal → A) → A
on_inline (Ok p) good refused = good p
on_inline (Err f) good refused = refused f

-- What is told of a problem that was read: its counts.
abbrev pub counts : Problem → List ℕ
counts p = p.function_count ∷ p.vertex_count ∷ p.edge_count ∷ p.loop_count ∷ []

-- An answer of one number.
abbrev pub number_outcome : Result ℕ Refusal → Outcome
number_outcome (Ok n) = Results (n ∷ [])
number_outcome (Err f) = refusal_outcome f

-- Where the definitions say which outcomes are right, and not by an equation: an outcome that is right, told to the caller.
pub record Right (Says : Outcome → Type 0) (before after : List ℕ) (returned : ℕ) : Type 0 where
  pub outcome : Outcome
  pub says : Says outcome
  pub status_is : returned ≡ status outcome
  pub answer_is : after ≡ answer_after outcome before

-- What is right goes by Read's answer too.
abbrev pub ByRead : Result Problem Refusal → (Problem → Type 0) → (Refusal → Type 0) → Type 0
ByRead (Ok p) Good Refused = Good p
ByRead (Err f) Good Refused = Refused f
