-- A vertex is contested where some walk arrives with another function held in its function's region, and which functions may be held is a data flow:
-- over an edge from u, u's function becomes held, and those of other regions stay so.
use Prim.Native.Nat.{ℕ}
use mathlib.Core.Path.{◌≡◌, refl, sym, ap, ◌∙◌, subst}
use mathlib.Core.Bool.{Bool, true, false, cond}
use mathlib.Core.List.Memᴰ
use mathlib.Core.List.{List, [], ◌∷◌, Memᴰ}
use Rattle.std.specs.Prelude.{Some, None}
use mathlib.Core.Logic.{◌⊎◌, inl, inr, ◌↔◌}
use native.Mathlib.Omega.{arith}
use lib.Dec.{eqb}
use borrow.Author.Tests.{eqb-true, eqb-false, eq-eqb, ne_eqb}
use Rattle.model.specs.Walks.{Walk, start, step}
use Rattle.model.specs.Interference.{since, occurs, Contested}
use Rattle.model.specs.Runs.{held, is_held}
use Rattle.sound.specs.Held.{Holds}
use Rattle.sound.proofs.Flow.{since_cases, occurs_cases}

same_held : {f g : ℕ} → Some f ≡ Some g → f ≡ g
same_held e = cc

never_held : {g : ℕ} → None ≡ Some g → ⊥
never_held {g} e = let z : ◌≡◌ {A = ℕ} 0 1 = cc in omega arith

module _ (fn region : ℕ → ℕ) where
  -- What a region holds is the latest of its functions: after a visit to u it is u's function, or what was held before.
  held_cases :
      (r g u : ℕ) (h : List ℕ) → held fn region r (u ∷ h) ≡ Some g →
      ((region (fn u) ≡ r) × (fn u ≡ g)) ⊎ ((region (fn u) ≡ r → ⊥) × (held fn region r h ≡ Some g))
  unfolding held
  held_cases r g u h e = at (eqb (region (fn u)) r) refl e
    where
      at : (b : Bool) → eqb (region (fn u)) r ≡ b → cond b (Some (fn u)) (held fn region r h) ≡ Some g →
          ((region (fn u) ≡ r) × (fn u ≡ g)) ⊎ ((region (fn u) ≡ r → ⊥) × (held fn region r h ≡ Some g))
      at true q x = inl (eqb-true (region (fn u)) r q, same_held x)
      at false q x = inr (eqb-false (region (fn u)) r q, x)

  -- Another function that is held in the region of f was visited since f.
  held_since :
      (f g : ℕ) (h : List ℕ) → (g ≡ f → ⊥) → held fn region (region f) h ≡ Some g →
      Memᴰ g (since fn f h) × (region g ≡ region f)
  unfolding since held
  held_since f g [] ne e = absurd (never_held e)
  held_since f g (u ∷ h) ne e = at (held_cases (region f) g u h e) (λ x. held_since f g h ne x)
    where
      at :
          ((region (fn u) ≡ region f) × (fn u ≡ g)) ⊎ ((region (fn u) ≡ region f → ⊥) × (held fn region (region f) h ≡ Some g)) →
          (held fn region (region f) h ≡ Some g → Memᴰ g (since fn f h) × (region g ≡ region f)) →
          Memᴰ g (since fn f (u ∷ h)) × (region g ≡ region f)
      at (inl (same, is)) ih = (rw (ne_eqb (fn u) f (λ q. ne (sym is ∙ q))) (Memᴰ.head (sym is)), ap region (sym is) ∙ same)
      at (inr (other, x)) ih = let (m, same) = ih x in (rw (ne_eqb (fn u) f (λ q. other (ap region q))) (Memᴰ.tail m), same)

  -- Where a function of the region was visited since f, another one than f is held.
  pub since_held :
      (f g : ℕ) (h : List ℕ) → region g ≡ region f → Memᴰ g (since fn f h) →
      (x : ℕ) × (x ≡ f → ⊥) × (held fn region (region f) h ≡ Some x)
  unfolding since held
  since_held f g [] same m = absurd (Memᴰ.not-nil m)
  since_held f g (u ∷ h) same m = let (ne, i) = since_cases fn f g u h m in at (eqb (region (fn u)) (region f)) refl ne i (λ j. since_held f g h same j)
    where
      at :
          (b : Bool) → eqb (region (fn u)) (region f) ≡ b → (fn u ≡ f → ⊥) → (g ≡ fn u) ⊎ Memᴰ g (since fn f h) →
          (Memᴰ g (since fn f h) → (x : ℕ) × (x ≡ f → ⊥) × (held fn region (region f) h ≡ Some x)) →
          (x : ℕ) × (x ≡ f → ⊥) × (cond b (Some (fn u)) (held fn region (region f) h) ≡ Some x)
      at true q ne i ih = (fn u, ne, refl)
      at false q ne (inl e) ih = absurd (eqb-false (region (fn u)) (region f) q (ap region (sym e) ∙ same))
      at false q ne (inr j) ih = ih j

  -- A function that was not visited is held nowhere.
  pub unvisited_unheld : (f r : ℕ) (h : List ℕ) → occurs fn f h ≡ false → is_held fn region (held fn region r h) f ≡ false
  unfolding held
  unvisited_unheld f r [] o = refl
  unvisited_unheld f r (u ∷ h) o = let (ne, before) = occurs_cases fn f u h o in at (eqb (region (fn u)) r) ne (unvisited_unheld f r h before)
    where
      at :
          (b : Bool) → (fn u ≡ f → ⊥) → is_held fn region (held fn region r h) f ≡ false →
          is_held fn region (cond b (Some (fn u)) (held fn region r h)) f ≡ false
      at true ne ih = ne_eqb (fn u) f ne
      at false ne ih = ih

  module _ (Edge : ℕ → ℕ → Type 0) where
    -- v is contested exactly if some walk arrives with another function held in the region of v's function.
    pub contested_held : (v : ℕ) → Contested fn Edge region v ↔ ((g : ℕ) × (g ≡ fn v → ⊥) × (region g ≡ region (fn v)) × Holds fn region Edge v g)
    contested_held v = (
      λ (g, (ne, (h, t, m)), same).
          let (x, other, e) = since_held (fn v) g h same m in
          let alike = (held_since (fn v) x h other e).1 in
          (x, other, alike, (h, t, subst (λ (r : ℕ). held fn region r h ≡ Some x) (sym alike) e)),
      λ (g, ne, alike, (h, t, e)).
          let (m, same) = held_since (fn v) g h ne (subst (λ (r : ℕ). held fn region r h ≡ Some g) alike e) in
          (g, (ne, (h, t, m)), same),
    )

    -- What a step adds has a walk: the start's own function, and what was held in another region.
    pub held_first : (u v : ℕ) (h : List ℕ) → Walk Edge u h → Edge u v → Holds fn region Edge v (fn u)
    unfolding held
    held_first u v h t e = (u ∷ h, step t e, rw (eq-eqb (region (fn u)) (region (fn u)) refl))

    pub held_further : (u v g : ℕ) → Holds fn region Edge u g → Edge u v → (region (fn u) ≡ region g → ⊥) → Holds fn region Edge v g
    unfolding held
    held_further u v g (h, t, x) e ne = (u ∷ h, step t e, rw (ne_eqb (region (fn u)) (region g) ne) x)

    -- M v g says that g may be held as v is reached. If over each edge from u it gains u's function, and what u has of other regions, then it has all
    -- that walks show.
    pub held_complete :
        (M : ℕ → ℕ → Type 0) →
        ((u v : ℕ) → Edge u v → M v (fn u) × ((g : ℕ) → (region (fn u) ≡ region g → ⊥) → M u g → M v g)) →
        {v : ℕ} {h : List ℕ} (g : ℕ) → Walk Edge v h → held fn region (region g) h ≡ Some g → M v g
    unfolding held
    held_complete M closed g start e = absurd (never_held e)
    held_complete M closed g (step {u} {v} {h} t d) e = at (held_cases (region g) g u h e) (closed u v d) (λ x. held_complete M closed g t x)
      where
        at :
            ((region (fn u) ≡ region g) × (fn u ≡ g)) ⊎ ((region (fn u) ≡ region g → ⊥) × (held fn region (region g) h ≡ Some g)) →
            M v (fn u) × ((g : ℕ) → (region (fn u) ≡ region g → ⊥) → M u g → M v g) →
            (held fn region (region g) h ≡ Some g → M u g) → M v g
        at (inl (same, is)) gain ih = subst (M v) is gain.0
        at (inr (other, x)) gain ih = gain.1 g other (ih x)
