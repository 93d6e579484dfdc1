-- The function that a vertex names, and the lowest so far, vertex by vertex.
use Prim.Native.Nat.{ℕ, ◌+◌, ◌≤◌, ◌<◌, min}
use mathlib.Core.Path.{◌≡◌, refl, sym, ap, subst, ◌∙◌}
use mathlib.Core.List.{List}
use mathlib.Core.Logic.{◌⊎◌, inl, inr}
use native.Mathlib.Omega.{arith}
use Rattle.model.specs.declared.Problem.{Problem}
use Rattle.model.specs.Costs.{function_of}
use Rattle.model.specs.Layouts.{region_of}
use Rattle.model.specs.Places.{most_functions}
use Rattle.model.proofs.Cases.{by_order, by_same}
use Rattle.ways.specs.Ways.{no_way, steps}
use Rattle.evicting.specs.Evicting.{Comes, Named, Lowest}

-- g is the function of u, and a and b are the regions of g and of f.
module _ (p : Problem) (regions : List ℕ) (f : ℕ) (d : List ℕ) (u g a b : ℕ) (is_g : g ≡ function_of p u) (is_a : a ≡ region_of regions g)
    (is_b : b ≡ region_of regions f) where
  pub one_named : steps d u 1 < no_way → (g ≡ f → ⊥) → a ≡ b → Named p regions f d u g
  one_named way other same =
      inl (is_g, record { way = way; other = λ e. other (is_g ∙ e); shares = ap (region_of regions) (sym is_g) ∙ sym is_a ∙ same ∙ is_b })

  pub none_named : (a ≡ b → ⊥) → Named p regions f d u most_functions
  none_named apart = inr (refl, λ comes. apart (is_a ∙ ap (region_of regions) is_g ∙ comes.shares ∙ sym is_b))

module _ (p : Problem) (regions : List ℕ) (f : ℕ) (d : List ℕ) where
  pub lowest_none : Lowest p regions f d 0 most_functions
  lowest_none = record { one = inl refl; least = λ u below comes. absurd (omega arith) }

  module _ (n a b : ℕ) (lowest : Lowest p regions f d n a) (named : Named p regions f d n b) where
    abbrev One : ℕ → ℕ → Type 0
    One m r = (r ≡ most_functions) ⊎ ((u : ℕ) × (u < m) × (r ≡ function_of p u) × Comes p regions f d u)

    earlier : One n a → One (n + 1) a
    earlier (inl none) = inl none
    earlier (inr (u, below, is, comes)) = inr (u, omega arith, is, comes)

    latest : Named p regions f d n b → One (n + 1) b
    latest (inl (is, comes)) = inr (n, omega arith, is, comes)
    latest (inr (none, not)) = inl none

    named_most : Named p regions f d n b → Comes p regions f d n → b ≤ function_of p n
    named_most (inl (is, comes)) also = omega arith
    named_most (inr (none, not)) also = absurd (not also)

    pub lowest_more : (r : ℕ) → r ≡ min a b → Lowest p regions f d (n + 1) r
    lowest_more r is = record {
      one =
          by_order b a
          (λ low. let e : b ≡ r = omega arith in subst (One (n + 1)) e (latest named))
          (λ high. let e : a ≡ r = omega arith in subst (One (n + 1)) e (earlier lowest.one));
      least = λ u below comes.
          by_same u n
          (λ e. let here : b ≤ function_of p u = rw e (named_most named (subst (Comes p regions f d) e comes)) in omega arith)
          (λ ne. omega (arith, lowest.least u (omega arith) comes));
    }

  pub lowest_all : {n m r : ℕ} → n ≡ m → Lowest p regions f d n r → Lowest p regions f d m r
  lowest_all {n} {m} {r} same = subst (λ (k : ℕ). Lowest p regions f d k r) same
