-- Records that are the same but for spare places have the same walks, judged alike, and the same lawful walks, so the same greatest sums over these.
use Prim.Native.Nat.{ℕ, ◌+◌, ◌≤◌}
use mathlib.Core.Path.{◌≡◌, refl, ◌∙◌}
use mathlib.Core.List.{List, [], ◌∷◌}
use mathlib.Core.Logic.{◌⊎◌, inl, inr}
use native.Mathlib.Omega.{arith}
use Rattle.model.specs.declared.Problem.{Problem}
use Rattle.model.specs.Walks.{Walk, last_vertex, Within, Lawful, Greatest, Smaller}
use Rattle.model.specs.Operations.{SameProblem}
use Rattle.model.specs.Verdicts.{may_follow, past_bound, at_last, judge_walk}
use Rattle.spare.proofs.Views.{same_sym, same_edge, same_last}

module _ {p q : Problem} (same : SameProblem p q) where
  same_follow : (h : List ℕ) (v : ℕ) → may_follow p h v ≡ may_follow q h v
  unfolding may_follow
  same_follow [] v = refl
  same_follow (u ∷ h) v = rw same.edges

  same_past : (h : List ℕ) (v : ℕ) → past_bound p h v ≡ past_bound q h v
  unfolding past_bound
  same_past h v = rw same.loops

  same_end : (h : List ℕ) → at_last p h ≡ at_last q h
  unfolding at_last
  same_end [] = refl
  same_end (v ∷ h) = rw (same_last same)

  pub same_walk : (h : List ℕ) (k : ℕ) (walk : List ℕ) → judge_walk p h k walk ≡ judge_walk q h k walk
  unfolding judge_walk
  same_walk h k [] = rw (same_end h)
  same_walk h k (v ∷ rest) = rw (same_follow h v, same_past h v, same_walk (v ∷ h) (k + 1) rest, same.vertex_count)

  lawful_too : {h : List ℕ} → Lawful p h → Lawful q h
  lawful_too {h} lawful =
      record {
        walk = coe 0 1 (i. Walk (same_edge same i) (same_last same i) h) lawful.walk;
        within = coe 0 1 (i. Within (same.loops i) (same_last same i ∷ h)) lawful.within;
      }

-- What holds of some lawful walk of p, or of every one, holds of those of q.
module _ {p q : Problem} (same : SameProblem p q) {P Q : List ℕ → Type 0} (e : P ≡ Q) where
  pub some_too : ((h : List ℕ) × Lawful p h × P (last_vertex p ∷ h)) → (h : List ℕ) × Lawful q h × Q (last_vertex q ∷ h)
  some_too (h, lawful, is) = (h, lawful_too same lawful, coe 0 1 (i. e i (same_last same i ∷ h)) is)

  pub all_too : ((h : List ℕ) → Lawful p h → P (last_vertex p ∷ h)) → (h : List ℕ) → Lawful q h → Q (last_vertex q ∷ h)
  all_too are h lawful = coe 0 1 (i. e i (same_last same i ∷ h)) (are h (lawful_too (same_sym same) lawful))

module _ {p q : Problem} (same : SameProblem p q) {f g : List ℕ → ℕ} (e : f ≡ g) where
  pub greatest_too : {m : ℕ} → Greatest p f m → Greatest q g m
  greatest_too {m} most =
      record {
        above = all_too same (λ i h. e i h ≤ m) most.above;
        reached = some_too same (λ i h. e i h ≡ m) most.reached;
      }

  pub smaller_too : {x y b : ℕ} → x ≡ y → Smaller p x f b → Smaller q y g b
  smaller_too {x} {y} {b} other least =
      record {
        most = omega (arith, least.most);
        reached = some_too same (λ i h. b ≤ e i h) least.reached;
        one = one least.one;
      }
    where
      one : ((b ≡ x) ⊎ ((h : List ℕ) → Lawful p h → f (last_vertex p ∷ h) ≤ b)) → (b ≡ y) ⊎ ((h : List ℕ) → Lawful q h → g (last_vertex q ∷ h) ≤ b)
      one (inl is) = inl (is ∙ other)
      one (inr above) = inr (all_too same (λ i h. e i h ≤ b) above)
