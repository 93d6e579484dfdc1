-- Words of early vertices: what members they have, which vertices they tell, and how they are gathered.
use Rattle.model.specs.Operations.{Checked}
use Rattle.model.specs.Numbers.{problem_of}
use Rattle.model.specs.Places as places
use Rattle.lookup.proofs.Places.{facts, vertex_small, function_small}
use Prim.Native.Nat.{ℕ, ◌+◌, ◌^◌, ◌≤◌, ◌<◌}
use mathlib.Core.Path.{◌≡◌, refl, sym, subst, ◌∙◌}
use mathlib.Core.List.{List}
use mathlib.Core.Bool.{Bool, true, false, cond, not}
use mathlib.Core.Logic.{⊎_elim, ◌↔◌}
use native.Mathlib.Omega.{arith}
use lib.ListN.{get_or}
use lib.Dec.{eqb, ltb}
use lib.Bits.{bit_or}
use lib.Pow.{pow_pos}
use borrow.Author.Tests.{eqb-true, eqb-false, eq-eqb, ne_eqb, lt-ltb, not-true}
use Rattle.model.specs.declared.Problem.{Problem}
use Rattle.model.specs.Costs.{function_of}
use Rattle.model.specs.Results.{Member}
use Rattle.model.proofs.Cases.{by_bool, and_left, true_not_false}
use Rattle.bits.specs.Tests.{has}
use Rattle.bits.proofs.Bits.{none_in_zero, or_left, or_right, or_only, pow_member, pow_only}
use Rattle.charges.specs.Tests.{flagged}
use Rattle.early.specs.Early.{fresh_test, early_by, early_word, EarlyTable, early_in, EarlyApart, Gathered}

-- A vertex and its function have their places in the tables.
pub in_tables : (l : List ℕ) → Checked l → (v : ℕ) → v < (problem_of l).vertex_count → (f : ℕ) → f ≡ function_of (problem_of l) v →
    (v < places.most_vertices) × (f < places.most_functions)
in_tables l checked v below f is = let ok = facts _ checked in (vertex_small _ ok _ below, function_small _ ok _ below _ is)

-- The word of a vertex by its flag and by what its word of first reach has.
module _ (p : Problem) (flags fresh : List ℕ) (v : ℕ) where
  pub flagged_word : get_or flags v 0 ≡ 1 → 0 ≡ early_word p (early_by p flags fresh) v
  unfolding early_word early_by flagged
  flagged_word set = rw (eq-eqb (get_or flags v 0) 1 set)

  pub fresh_word : {f : ℕ} {t : Bool} → (get_or flags v 0 ≡ 1 → ⊥) → f ≡ function_of p v → has (get_or fresh v 0) f ≡ t → cond t (2 ^ f) 0 ≡ early_word p (early_by p flags fresh) v
  unfolding early_word early_by flagged
  fresh_word free of_v is = rw (ne_eqb (get_or flags v 0) 1 free, ← of_v, is)

own_members : (t : Bool) (g f : ℕ) → Member (cond t (2 ^ g) 0) f ↔ ((g ≡ f) × (t ≡ true))
own_members true g f = (λ m. (sym (pow_only g f m), refl), λ (e, _). rw e (pow_member f))
own_members false g f = (λ m. absurd (none_in_zero f m), λ (_, e). true_not_false (sym e))

own_told : (t : Bool) (g : ℕ) → ltb 0 (cond t (2 ^ g) 0) ≡ t
own_told true g = lt-ltb 0 (2 ^ g) (pow_pos g)
own_told false g = refl

module _ {p : Problem} {early : ℕ → Bool} {words : List ℕ} (table : EarlyTable p early words) (v : ℕ) (below : v < p.vertex_count) where
  pub word_members : (f : ℕ) → Member (get_or words v 0) f ↔ ((function_of p v ≡ f) × (early v ≡ true))
  unfolding early_word
  word_members f = rw (table.word v below) (own_members (early v) (function_of p v) f)

  pub word_told : early_in words v ≡ early v
  unfolding early_in early_word
  word_told = rw (table.word v below) (own_told (early v) (function_of p v))

-- A table by flags tells the same by its own words, and has no vertex that is flagged.
pub early_apart : {p : Problem} {flags : List ℕ} (fresh : List ℕ) {words : List ℕ} → EarlyTable p (early_by p flags fresh) words → EarlyApart p flags words
unfolding early_word early_by
early_apart {p} {flags} fresh table =
    record {
      table = record { word = λ v below. rw (word_told table v below) (table.word v below) };
      apart = λ v below e. not-true (flagged flags v) (and_left (not (flagged flags v)) (fresh_test fresh p v) (sym (word_told table v below) ∙ e));
    }

-- A pass over the words.
module _ (words : List ℕ) (first : ℕ) where
  pub none_gathered : Gathered words first first 0
  none_gathered = record { member = λ f. (λ m. absurd (none_in_zero f m), λ (v, low, high, m). absurd (omega arith)) }

  pub one_gathered : {end word : ℕ} → Gathered words first end word → first ≤ end → Gathered words first (end + 1) (bit_or word (get_or words end 0))
  one_gathered {end} {word} so_far order = record {
    member = λ f. (
      λ m.
          ⊎_elim
          (λ old. let (v, low, high, x) = (so_far.member f).0 old in (v, low, omega arith, x))
          (λ new. (end, order, omega arith, new))
          (or_only word (get_or words end 0) f m),
      λ (v, low, high, m).
          by_bool (eqb v end)
          (λ t. or_right word (get_or words end 0) f (subst (λ (u : ℕ). Member (get_or words u 0) f) (eqb-true v end t) m))
          (λ n. or_left word (get_or words end 0) f ((so_far.member f).1 (v, low, omega (arith, eqb-false v end n), m))),
    );
  }

  pub gathered_to : {end to word : ℕ} → end ≡ to → Gathered words first end word → Gathered words first to word
  gathered_to {word = word} same = subst (λ (n : ℕ). Gathered words first n word) same
