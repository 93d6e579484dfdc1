-- A refusal is no good answer: what says that it is one proves anything. And what is said of an answer is said of its outcome.
use Prim.Native.Nat.{ℕ}
use Rattle.std.specs.Prelude.{Result, Ok, Err, Option, Some}
use Rattle.model.specs.declared.Misread.{Misread}
use Rattle.model.specs.Refusals.{Verdict}
use mathlib.Core.Path.{◌≡◌, refl, ap}
use native.Mathlib.Omega.{arith}
use Rattle.model.specs.declared.Refusal.{Refusal}
use Rattle.model.specs.Graph.{and_then}
use Rattle.model.specs.Outcomes.{Outcome}

module _ {P : Type 0} {f : Refusal} where
  pub refused_not_accepted : ◌≡◌ {A = Verdict} (Err f) (Ok tt) → P
  refused_not_accepted e = let q : ◌≡◌ {A = ℕ} 0 1 = cc in absurd (omega arith)

  pub refused_not_done : {n : ℕ} → Err f ≡ Ok n → P
  refused_not_done e = let q : ◌≡◌ {A = ℕ} 0 1 = cc in absurd (omega arith)

-- What was read, with the position after it.
module _ {a b v at : ℕ} where
  same_pair : ◌≡◌ {A = ℕ × ℕ} (a, b) (v, at) → (a ≡ v) × (b ≡ at)
  same_pair e = (ap (λ (p : ℕ × ℕ). p.0) e, ap (λ (p : ℕ × ℕ). p.1) e)

  pub some_pair : ◌≡◌ {A = Option (ℕ × ℕ)} (Some (a, b)) (Some (v, at)) → (a ≡ v) × (b ≡ at)
  some_pair e = same_pair (cc)

  pub ok_pair : ◌≡◌ {A = Result (ℕ × ℕ) Misread} (Ok (a, b)) (Ok (v, at)) → (a ≡ v) × (b ≡ at)
  ok_pair e = same_pair (cc)

-- Checks that end well ended well each.
pub accepted_both : (v w : Verdict) → and_then v w ≡ Ok tt → (v ≡ Ok tt) × (w ≡ Ok tt)
accepted_both (Ok tt) w e = (refl, e)
accepted_both (Err f) w e = refused_not_accepted e

-- What is said of an answer, with its outcome: by an equation, and by a relation.
pub equal_outcome : {A P : Type 0} (outcome : A → Outcome) {a b : A} → (a ≡ b) × P → (a ≡ b) × (P × (outcome a ≡ outcome b))
equal_outcome outcome says = (says.0, (says.1, ap outcome says.0))

pub said_outcome : {A : Type 0} (outcome : A → Outcome) (Says : A → Type 0) (a : A) → Says a → Says a × ((r : A) × Says r × (outcome a ≡ outcome r))
said_outcome outcome Says a says = (says, (a, says, refl))
