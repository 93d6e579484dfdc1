-- Laws of ranges and headers: what a range holds, and that a loop is known by its header where headers ascend.
use Prim.Native.Nat.{ℕ, ◌≤◌, ◌<◌}
use mathlib.Core.Path.{◌≡◌, refl, sym, ap, ◌∙◌}
use mathlib.Core.List.Memᴰ
use mathlib.Core.List.{List, [], ◌∷◌, Memᴰ}
use mathlib.Core.Bool.{true, false, true≢false, and-eq-true_iff}
use mathlib.Core.Logic.{◌⊎◌, inl, inr}
use native.Mathlib.Omega.{arith}
use lib.Dec.{leb, eqb}
use borrow.Author.Tests.{leb-true, eqb-true, eqb-false, le-leb}
use Rattle.model.specs.declared.Loop.{Loop}
use Rattle.model.specs.Graph.{holds}
use Rattle.model.proofs.Cases.{by_bool, by_order}
use Rattle.greatest.specs.Numbers.{NoHeader}

module _ (l : Loop) (v : ℕ) where
  pub holds_from : holds l v ≡ true → (l.header ≤ v) × (v ≤ l.last)
  holds_from e = let p = (and-eq-true_iff (leb l.header v) _).0 e in (leb-true _ _ p.0, leb-true _ _ p.1)

  pub holds_to : l.header ≤ v → v ≤ l.last → holds l v ≡ true
  holds_to p q = rw (le-leb l.header v p, le-leb v l.last q)

  pub holds_not : {P : Type 0} → holds l v ≡ true → holds l v ≡ false → P
  holds_not p q = absurd (true≢false (sym p ∙ q))

  -- Outside a range is before its header or behind its last vertex.
  pub before_range : v < l.header → holds l v ≡ false
  before_range p = by_bool (holds l v) (λ e. let x = holds_from e in absurd (omega arith)) (λ e. e)

  pub behind_range : l.last < v → holds l v ≡ false
  behind_range p = by_bool (holds l v) (λ e. let x = holds_from e in absurd (omega arith)) (λ e. e)

  pub past_range : holds l v ≡ false → l.header ≤ v → l.last < v
  past_range e p = by_order l.last v (λ q. q) (λ q. holds_not (holds_to p q) e)

-- Headers ascend.
abbrev pub Ascend : List Loop → Type 0
Ascend [] = Unit {0}
Ascend (l ∷ ls) = ((m : Loop) → Memᴰ m ls → l.header < m.header) × Ascend ls

pub same_header : {a b : Loop} → a ≡ b → a.header ≡ b.header
same_header e = ap (λ (l : Loop). l.header) e

-- Two loops with one header are one.
pub unique : {a b : Loop} {ls : List Loop} → Ascend ls → Memᴰ a ls → Memᴰ b ls → a.header ≡ b.header → a ≡ b
unique s (Memᴰ.head p) (Memᴰ.head q) e = p ∙ sym q
unique {b = b} s (Memᴰ.head p) (Memᴰ.tail j) e = absurd (omega (arith, s.0 b j, same_header p))
unique {a = a} s (Memᴰ.tail i) (Memᴰ.head q) e = absurd (omega (arith, s.0 a i, same_header q))
unique s (Memᴰ.tail i) (Memᴰ.tail j) e = unique s.1 i j e

-- A vertex is a header, or not.
pub header? : (v : ℕ) (ls : List Loop) → ((l : Loop) × Memᴰ l ls × (l.header ≡ v)) ⊎ NoHeader ls v
header? v [] = inr (λ l i e. Memᴰ.not-nil i)
header? v (a ∷ ls) = by_bool (eqb a.header v) (λ e. inl (a, Memᴰ.head refl, eqb-true _ _ e)) (λ e. go (eqb-false _ _ e) (header? v ls))
  where
    none : (a.header ≡ v → ⊥) → NoHeader ls v → NoHeader (a ∷ ls) v
    none f g l (Memᴰ.head p) q = f (sym (same_header p) ∙ q)
    none f g l (Memᴰ.tail i) q = g l i q

    go : (a.header ≡ v → ⊥) → ((l : Loop) × Memᴰ l ls × (l.header ≡ v)) ⊎ NoHeader ls v
        → ((l : Loop) × Memᴰ l (a ∷ ls) × (l.header ≡ v)) ⊎ NoHeader (a ∷ ls) v
    go f (inl (l, i, q)) = inl (l, Memᴰ.tail i, q)
    go f (inr g) = inr (none f g)
