-- What is told of equal outcomes is the same, and so is what is told of equal reasons and remarks.
use Prim.Native.Nat.{ℕ}
use mathlib.Core.Path.{◌≡◌, sym, ap, ap₂, ◌∙◌}
use mathlib.Core.List.{List, ◌∷◌}
use lib.ListN.{set}
use lib.Seq.{sets}
use Rattle.model.specs.declared.Refusal.{Refusal}
use Rattle.model.specs.declared.Reason.{Reason}
use Rattle.model.specs.declared.Remark.{Remark}
use Rattle.model.specs.declared.Remark.TheVariants.{Refused}
use Rattle.model.specs.Refusals.{number, place}
use Rattle.model.specs.Evictions.{reason_number, reason_values}
use Rattle.model.specs.Outcomes.{Outcome, remark_values}
use Rattle.outcomes.specs.Outcomes.{status, answer_after}

pub told : (o p : Outcome) (n : ℕ) (before after : List ℕ) → o ≡ p → n ≡ status o → after ≡ answer_after o before →
    (n ≡ status p) × (after ≡ answer_after p before)
told o p n before after same e q = (e ∙ ap status same, q ∙ ap (λ (x : Outcome). answer_after x before) same)

-- The same beside what is said of another lent buffer.
pub told_with : {P : Type 0} (o p : Outcome) (n : ℕ) (before after : List ℕ) → o ≡ p → n ≡ status o → after ≡ answer_after o before → P →
    (n ≡ status p) × ((after ≡ answer_after p before) × P)
told_with o p n before after same e q also = let t = told o p n before after same e q in (t.0, (t.1, also))

-- Wherever a reason is told.
pub reason_told_lem : (before : List ℕ) (at : ℕ) (a b : Reason) → b ≡ a → sets before at (reason_number a ∷ reason_values a) ≡ sets before at (reason_number b ∷ reason_values b)
reason_told_lem before at a b same = ap (λ (r : Reason). sets before at (reason_number r ∷ reason_values r)) (sym same)

-- A remark that is known, and a refusal by its number and its place.
pub remark_told : (before : List ℕ) (a b : Remark) → b ≡ a → sets before 0 (remark_values a) ≡ sets before 0 (remark_values b)
remark_told before a b same = ap (λ (r : Remark). sets before 0 (remark_values r)) (sym same)

pub refusal_told_lem : (before : List ℕ) (f : Refusal) (n at : ℕ) (b : Remark) → b ≡ Refused f → n ≡ number f → at ≡ place f →
    set (set (set before 0 0) 1 n) 2 at ≡ sets before 0 (remark_values b)
refusal_told_lem before f n at b same e q =
    ap₂ (λ (x y : ℕ). set (set (set before 0 0) 1 x) 2 y) e q ∙ remark_told before (Refused f) b same
