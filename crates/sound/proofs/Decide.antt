-- The tests on tables tell which vertices are contested or early and which functions are cold, if the tables tell what regions may hold and first reach.
use Prim.Native.Nat.{ℕ, ◌<◌}
use mathlib.Core.Path.{◌≡◌}
use mathlib.Core.List.{List}
use mathlib.Core.Bool.{Bool, true, false, not}
use mathlib.Core.Logic.{◌↔◌}
use lib.Dec.{ltb}
use borrow.Author.Tests.{ltb-true, lt-ltb, not-true}
use Rattle.model.specs.declared.Problem.{Problem}
use Rattle.model.specs.Costs.{function_of}
use Rattle.model.specs.Walks.{EdgeOf, Walk}
use Rattle.model.specs.Layouts.{region_of}
use Rattle.model.specs.Interference.{Fresh, Contested, Early}
use Rattle.model.specs.Charges.{Told}
use Rattle.model.proofs.Cases.{and_left, and_right}
use Rattle.sound.specs.Decide.{contested_test, early_test}
use Rattle.sound.proofs.Tests.{not_passed, not_both, and_both}

-- What walks visit is in range, and the tables say what walks show.
pub record Tables (p : Problem) (layout : List ℕ) (shared fresh cold : ℕ → Bool) : Type 0 where
  pub vertex : (v : ℕ) (h : List ℕ) → Walk (EdgeOf p) v h → v < p.vertex_count
  pub contested : (v : ℕ) → v < p.vertex_count → (shared v ≡ true) ↔ Contested (function_of p) (EdgeOf p) (region_of layout) v
  pub reached : (v : ℕ) → v < p.vertex_count → (fresh v ≡ true) ↔ Fresh (function_of p) (EdgeOf p) (function_of p v) v
  pub coldest : (f : ℕ) → (cold f ≡ true) ↔ ((v : ℕ) × (function_of p v ≡ f) × (early_test p shared fresh v ≡ true))

module _ (p : Problem) (layout : List ℕ) (shared fresh cold : ℕ → Bool) (tables : Tables p layout shared fresh cold) where
  contested_is : (v : ℕ) → contested_test p shared v ≡ true → Contested (function_of p) (EdgeOf p) (region_of layout) v
  unfolding contested_test
  contested_is v e =
      let known = ltb v p.vertex_count in
      (tables.contested v (ltb-true v p.vertex_count (and_left known (shared v) e))).0 (and_right known (shared v) e)

  contested_all : (v : ℕ) → Contested (function_of p) (EdgeOf p) (region_of layout) v → contested_test p shared v ≡ true
  unfolding contested_test
  contested_all v (g, (ne, (h, t, i)), e) =
      let below = tables.vertex v h t in
      and_both (ltb v p.vertex_count) (shared v) (lt-ltb v p.vertex_count below) ((tables.contested v below).1 (g, (ne, (h, t, i)), e))

  early_is : (v : ℕ) → early_test p shared fresh v ≡ true → Early (function_of p) (EdgeOf p) (region_of layout) v
  unfolding early_test
  early_is v e =
      let known = ltb v p.vertex_count in
      let free = not (contested_test p shared v) in
      let rest = and_right known _ e in
      let below = ltb-true v p.vertex_count (and_left known _ e) in (
        (λ c. not_both (not-true (contested_test p shared v) (and_left free (fresh v) rest)) (contested_all v c)),
        (tables.reached v below).0 (and_right free (fresh v) rest),
      )

  early_all : (v : ℕ) → Early (function_of p) (EdgeOf p) (region_of layout) v → early_test p shared fresh v ≡ true
  unfolding early_test
  early_all v (uncontested, (h, t, o)) =
      let below = tables.vertex v h t in
      let free : contested_test p shared v ≡ false = not_passed (contested_test p shared v) (λ e. uncontested (contested_is v e)) in
      and_both (ltb v p.vertex_count) _ (lt-ltb v p.vertex_count below)
      (and_both (not (contested_test p shared v)) (fresh v) (rw free) ((tables.reached v below).1 (h, t, o)))

  pub told : Told p layout (contested_test p shared) (early_test p shared fresh) cold
  told = record {
    contested_is = contested_is;
    contested_all = contested_all;
    early_is = early_is;
    early_all = early_all;
    cold_is = λ f e. let (v, of_f, early) = (tables.coldest f).0 e in (v, of_f, early_is v early);
    cold_all = λ f (v, of_f, early). (tables.coldest f).1 (v, of_f, early_all v early);
  }
