-- Lawful walks, searched one by one: what each of them passes, what one of them passes, and with these the greatest value over them all.
use Prim.Native.Nat.{ℕ, ◌≤◌}
use mathlib.Core.Path.{◌≡◌, refl}
use mathlib.Core.List.{List, [], ◌∷◌}
use mathlib.Core.Logic.{inl, inr}
use mathlib.Core.Bool.{Bool, true, not}
use lib.Dec.{eqb, leb}
use borrow.Author.Tests.{eqb-true, eq-eqb, leb-true, not-true}
use Rattle.model.specs.declared.Problem.{Problem}
use Rattle.model.specs.Graph.{loops_of}
use Rattle.model.specs.Walks.{start, Within, last_vertex, Lawful, Greatest, Smaller}
use Rattle.model.specs.Verdicts.{past_bound}
use Rattle.model.proofs.Cases.{by_bool, and_left, and_right}
use Rattle.steps.proofs.Edges.{stays_within, within_stays}
use Rattle.examples.specs.Tests.{steps, if_last, every_lawful, last_and, some_lawful, greatest_is, smaller_is}
use Rattle.examples.proofs.Passed.{each}
use Rattle.examples.proofs.Search.{Free, found, every}

module _ (p : Problem) where
  free_within : (h : List ℕ) → Free (past_bound p) h → Within (loops_of p) h
  unfolding Within
  free_within [] free = tt
  free_within (v ∷ h) free = (within_stays p h v free.0, free_within h free.1)

  within_free : (h : List ℕ) → Within (loops_of p) h → Free (past_bound p) h
  unfolding Within
  within_free [] within = tt
  within_free (v ∷ h) within = (stays_within p h v within.0, within_free h within.1)

  module _ (test : List ℕ → Bool) where
    every_lawful_lem : every_lawful p test ≡ true → (h : List ℕ) → Lawful p h → test (last_vertex p ∷ h) ≡ true
    unfolding every_lawful
    every_lawful_lem ok h lawful =
        let e = every p (past_bound p) (if_last p test) steps ok lawful.walk (within_free (last_vertex p ∷ h) lawful.within) in
        rw (eq-eqb (last_vertex p) (last_vertex p) refl) at e

    some_lawful_lem : some_lawful p test ≡ true → (h : List ℕ) × Lawful p h × (test (last_vertex p ∷ h) ≡ true)
    unfolding some_lawful
    some_lawful_lem ok =
        let begin = not-true (past_bound p [] 0) (and_left (not (past_bound p [] 0)) _ ok) in
        let r = found p (past_bound p) (last_and p test) steps 0 [] (and_right (not (past_bound p [] 0)) _ ok) start (begin, tt) in
        let is : r.at ≡ last_vertex p = eqb-true r.at (last_vertex p) (and_left (eqb r.at (last_vertex p)) _ r.passes) in (
          r.before,
          record { walk = rw is at r.walk; within = rw is at (free_within (r.at ∷ r.before) r.free) },
          rw is at (and_right (eqb r.at (last_vertex p)) _ r.passes),
        )

  pub at_most : (f : List ℕ → ℕ) (m : ℕ) → every_lawful p (λ h. leb (f h) m) ≡ true → (h : List ℕ) → Lawful p h → f (last_vertex p ∷ h) ≤ m
  at_most f m ok h lawful = leb-true (f (last_vertex p ∷ h)) m (every_lawful_lem (λ h. leb (f h) m) ok h lawful)

  pub greatest_is_lem : (f : List ℕ → ℕ) (m : ℕ) → greatest_is p f m ≡ true → Greatest p f m
  unfolding greatest_is
  greatest_is_lem f m ok =
      let (every, (some, _)) = each _ ok in
      let (h, lawful, e) = some_lawful_lem (λ h. eqb (f h) m) some in
      record { above = at_most f m every; reached = (h, lawful, eqb-true (f (last_vertex p ∷ h)) m e) }

  pub smaller_is_lem : (x : ℕ) (f : List ℕ → ℕ) (b : ℕ) → smaller_is p x f b ≡ true → Smaller p x f b
  unfolding smaller_is
  smaller_is_lem x f b ok =
      let (low, (some, (one, _))) = each _ ok in
      let (h, lawful, e) = some_lawful_lem (λ h. leb b (f h)) some in
      record {
        most = leb-true b x low;
        reached = (h, lawful, leb-true b (f (last_vertex p ∷ h)) e);
        one = by_bool (eqb b x) (λ q. inl (eqb-true b x q)) (λ q. inr (at_most f b (rw q at one)));
      }
