-- Tests as equations: a test that cannot pass fails, and two that pass do so together.
use mathlib.Core.Path.{◌≡◌, refl, sym, ◌∙◌}
use mathlib.Core.Bool.{Bool, true, false, ◌&&◌}
use Rattle.model.proofs.Cases.{true_not_false}

pub not_passed : (b : Bool) → (b ≡ true → ⊥) → b ≡ false
not_passed true f = absurd (f refl)
not_passed false f = refl

pub not_both : {b : Bool} → b ≡ false → b ≡ true → ⊥
not_both f t = true_not_false (sym t ∙ f)

pub and_both : (a b : Bool) → a ≡ true → b ≡ true → (a && b) ≡ true
and_both a b x y = rw (x, y)
