-- Interference sets and first reach by data flow: what is closed under every edge holds all that walks show, and each entry that a step adds has a
-- walk.
use Prim.Native.Nat.{ℕ}
use mathlib.Core.Path.{◌≡◌, refl, sym, ◌∙◌, subst}
use mathlib.Core.Bool.{Bool, true, false, cond}
use mathlib.Core.List.Memᴰ
use mathlib.Core.List.{List, [], ◌∷◌, Memᴰ}
use mathlib.Core.Logic.{◌⊎◌, inl, inr}
use lib.Dec.{eqb}
use borrow.Author.Tests.{eqb-false, ne_eqb}
use Rattle.model.specs.Walks.{Walk, start, step}
use Rattle.model.specs.Interference.{since, occurs, Interferes, Fresh}
use Rattle.model.proofs.Cases.{true_not_false}

module _ (fn : ℕ → ℕ) where
  -- A member of `since f (u ∷ h)`: u is not of f, and the member is u's function or one of `since f h`.
  pub since_cases : (f g u : ℕ) (h : List ℕ) → Memᴰ g (since fn f (u ∷ h)) → (fn u ≡ f → ⊥) × ((g ≡ fn u) ⊎ Memᴰ g (since fn f h))
  unfolding since
  since_cases f g u h m = at (eqb (fn u) f) refl m
    where
      at : (b : Bool) → eqb (fn u) f ≡ b → Memᴰ g (cond b [] (fn u ∷ since fn f h)) → (fn u ≡ f → ⊥) × ((g ≡ fn u) ⊎ Memᴰ g (since fn f h))
      at true q i = absurd (Memᴰ.not-nil i)
      at false q i = (eqb-false (fn u) f q, Memᴰ.cases_cons i)

  -- f was not visited in `u ∷ h`: u is not of f, and f was not visited in h.
  pub occurs_cases : (f u : ℕ) (h : List ℕ) → occurs fn f (u ∷ h) ≡ false → (fn u ≡ f → ⊥) × (occurs fn f h ≡ false)
  unfolding occurs
  occurs_cases f u h o = at (eqb (fn u) f) refl o
    where
      at : (b : Bool) → eqb (fn u) f ≡ b → cond b true (occurs fn f h) ≡ false → (fn u ≡ f → ⊥) × (occurs fn f h ≡ false)
      at true q x = true_not_false x
      at false q x = (eqb-false (fn u) f q, x)

  -- f itself is not among the functions visited since f.
  pub since_ne : (f g : ℕ) (h : List ℕ) → Memᴰ g (since fn f h) → g ≡ f → ⊥
  unfolding since
  since_ne f g [] m e = Memᴰ.not-nil m
  since_ne f g (v ∷ h) m e = let (ne, i) = since_cases f g v h m in at ne i (λ j. since_ne f g h j e)
    where
      at : (fn v ≡ f → ⊥) → (g ≡ fn v) ⊎ Memᴰ g (since fn f h) → (Memᴰ g (since fn f h) → ⊥) → ⊥
      at ne (inl d) ih = ne (sym d ∙ e)
      at ne (inr i) ih = ih i

  module _ (Edge : ℕ → ℕ → Type 0) where
    -- M v g says that g is in the set of v and f. If over each edge from u, unless u is of f, the set gains u's function and all that the set of u has,
    -- then it holds every function that a walk shows.
    pub complete :
        (M : ℕ → ℕ → Type 0) (f : ℕ) →
        ((u v : ℕ) → Edge u v → (fn u ≡ f → ⊥) → M v (fn u) × ((g : ℕ) → M u g → M v g)) →
        {v : ℕ} {h : List ℕ} (g : ℕ) → Walk Edge v h → Memᴰ g (since fn f h) → M v g
    unfolding since
    complete M f closed g start i = absurd (Memᴰ.not-nil i)
    complete M f closed g (step {u} {v} {h} t d) i = let (ne, j) = since_cases f g u h i in at (closed u v d ne) j (λ k. complete M f closed g t k)
      where
        at : M v (fn u) × ((x : ℕ) → M u x → M v x) → (g ≡ fn u) ⊎ Memᴰ g (since fn f h) → (Memᴰ g (since fn f h) → M u g) → M v g
        at gain (inl e) ih = subst (M v) (sym e) gain.0
        at gain (inr k) ih = gain.1 g (ih k)

    -- What a step adds has a walk: the start's own function, and what the start's set has.
    pub first : (u v f : ℕ) (h : List ℕ) → Walk Edge u h → Edge u v → (fn u ≡ f → ⊥) → Interferes fn Edge v f (fn u)
    unfolding since
    first u v f h t e ne = (ne, (u ∷ h, step t e, rw (ne_eqb (fn u) f ne) (Memᴰ.head refl)))

    pub further : (u v f g : ℕ) → Interferes fn Edge u f g → Edge u v → (fn u ≡ f → ⊥) → Interferes fn Edge v f g
    unfolding since
    further u v f g (d, (h, t, i)) e ne = (d, (u ∷ h, step t e, rw (ne_eqb (fn u) f ne) (Memᴰ.tail i)))

    -- M v says that v can be reached with no earlier vertex of f. It holds at 0 and goes on over every edge from a vertex that is not of f: it holds
    -- wherever a walk shows it.
    pub fresh_complete :
        (M : ℕ → Type 0) (f : ℕ) → M 0 →
        ((u v : ℕ) → Edge u v → (fn u ≡ f → ⊥) → M u → M v) →
        {v : ℕ} {h : List ℕ} → Walk Edge v h → occurs fn f h ≡ false → M v
    fresh_complete M f first_vertex closed start o = first_vertex
    fresh_complete M f first_vertex closed (step {u} {v} {h} t d) o =
        let (ne, x) = occurs_cases f u h o in closed u v d ne (fresh_complete M f first_vertex closed t x)

    pub fresh_start : (f : ℕ) → Fresh fn Edge f 0
    unfolding occurs
    fresh_start f = ([], start, refl)

    pub fresh_further : (u v f : ℕ) → Fresh fn Edge f u → Edge u v → (fn u ≡ f → ⊥) → Fresh fn Edge f v
    unfolding occurs
    fresh_further u v f (h, t, o) e ne = (u ∷ h, step t e, rw (ne_eqb (fn u) f ne) o)
