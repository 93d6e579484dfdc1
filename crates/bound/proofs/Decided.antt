-- Bound's contract decides its answer: no two answers meet it for one problem and one layout, and a bound is the answer just where the layout is accepted.
use Prim.Native.Nat.{ℕ, ◌+◌, ◌≤◌}
use Rattle.std.specs.Prelude.{Err, Ok, Result}
use Rattle.model.specs.declared.Refusal.{Refusal}
use mathlib.Core.Path.{◌≡◌, refl, sym, ap, ◌∙◌}
use mathlib.Core.List.{List, ◌∷◌}
use mathlib.Core.Bool.{Bool, true}
use mathlib.Core.Logic.{◌⊎◌, inl, inr}
use native.Mathlib.Omega.{arith}
use Rattle.model.specs.declared.Problem.{Problem}
use Rattle.model.specs.declared.Bound.{Bound}
use Rattle.model.specs.Costs.{how_many}
use Rattle.model.specs.Walks.{last_vertex, Lawful, Greatest, Smaller}
use Rattle.model.specs.Charges.{Told, visit_charge, first_loads, second_total, charges}
use Rattle.model.specs.Results.{BoundIs, Passes, PastTheLimit, AcceptedWith, BoundSays}
use Rattle.model.proofs.Answers.{refused_not_accepted}
use Rattle.model.proofs.Cases.{same_bool}
use Rattle.firsts.proofs.Smaller.{smaller_once}

-- Tests that pass the same numbers are the same.
same_test : (s t : ℕ → Bool) → ((n : ℕ) → s n ≡ true → t n ≡ true) → ((n : ℕ) → t n ≡ true → s n ≡ true) → s ≡ t
same_test s t to from = λ i n. same_bool (s n) (t n) (to n) (from n) i

greatest_once : (p : Problem) (f : List ℕ → ℕ) (m n : ℕ) → Greatest p f m → Greatest p f n → m ≡ n
greatest_once p f m n a b =
    let (h, lawful, is) = a.reached in
    let (k, also, it) = b.reached in
    omega (arith, b.above h lawful, a.above k also)

module _ (p : Problem) (layout : List ℕ) where
  module _ {c c' e e' d d' : ℕ → Bool} (a : Told p layout c e d) (b : Told p layout c' e' d') where
    same_contested : c ≡ c'
    same_contested = same_test c c' (λ v is. b.contested_all v (a.contested_is v is)) (λ v is. a.contested_all v (b.contested_is v is))

    same_early : e ≡ e'
    same_early = same_test e e' (λ v is. b.early_all v (a.early_is v is)) (λ v is. a.early_all v (b.early_is v is))

    same_cold : d ≡ d'
    same_cold = same_test d d' (λ f is. b.cold_all f (a.cold_is f is)) (λ f is. a.cold_all f (b.cold_is f is))

  bounded_once : (x y : Bound) → BoundIs p layout x → BoundIs p layout y → x ≡ y
  bounded_once x y a b = λ i. record {
    need = record { 0 = needs i };
    contested = counts i;
    first = record { 0 = firsts i };
    bound = record { 0 = bounds i };
  }
    where
      contested : a.contested ≡ b.contested
      contested = same_contested a.told b.told

      early : a.early ≡ b.early
      early = same_early a.told b.told

      cold : a.cold ≡ b.cold
      cold = same_cold a.told b.told

      needs : x.need.0 ≡ y.need.0
      needs = a.need_is ∙ sym b.need_is

      counts : x.contested ≡ y.contested
      counts = a.contested_are ∙ ap (how_many p.vertex_count) contested ∙ sym b.contested_are

      greatest : a.greatest ≡ b.greatest
      greatest =
          greatest_once p (charges (visit_charge p b.contested)) _ _
          (coe 0 1 (i. Greatest p (charges (visit_charge p (contested i))) a.greatest) a.greatest_is_lem)
          b.greatest_is_lem

      bounds : x.bound.0 ≡ y.bound.0
      bounds =
          smaller_once p (b.greatest + first_loads p b.cold) (second_total p b.contested b.early) _ _
          (coe 0 1 (i. Smaller p (greatest i + first_loads p (cold i)) (second_total p (contested i) (early i)) x.bound.0) a.bound_is)
          b.bound_is

      firsts : x.first.0 ≡ y.first.0
      firsts = omega (arith, a.first_is, b.first_is, greatest, bounds)

  -- A bound within the limit is one of the two totals, and 14 says that both pass it.
  bounded_or_past : {P : Type 0} (x : Bound) → BoundIs p layout x → PastTheLimit p layout → P
  bounded_or_past {P} x a b = at a.bound_is.one
    where
      contested : b.contested ≡ a.contested
      contested = same_contested b.told a.told

      over : Passes p (λ h. charges (visit_charge p a.contested) h + first_loads p a.cold)
      over = coe 0 1 (i. Passes p (λ h. charges (visit_charge p (contested i)) h + first_loads p (same_cold b.told a.told i))) b.over

      second_over : Passes p (second_total p a.contested a.early)
      second_over = coe 0 1 (i. Passes p (second_total p (contested i) (same_early b.told a.told i))) b.second_over

      at : (x.bound.0 ≡ a.greatest + first_loads p a.cold)
          ⊎ ((h : List ℕ) → Lawful p h → second_total p a.contested a.early (last_vertex p ∷ h) ≤ x.bound.0) → P
      at (inl first) = let (h, lawful, passes) = over in absurd (omega (arith, a.greatest_is_lem.above h lawful, a.within_limit))
      at (inr above) = let (h, lawful, passes) = second_over in absurd (omega (arith, above h lawful, a.within_limit))

  pub bound_decided : (r s : Result Bound Refusal) → BoundSays p layout r → BoundSays p layout s → r ≡ s
  bound_decided (Ok x) (Ok y) a b = ap Ok (bounded_once x y a.1 b.1)
  bound_decided (Ok x) (Err g) a (inl b) = refused_not_accepted (sym b ∙ a.0)
  bound_decided (Ok x) (Err g) a (inr b) = bounded_or_past x a.1 b.2
  bound_decided (Err f) (Ok y) (inl a) b = refused_not_accepted (sym a ∙ b.0)
  bound_decided (Err f) (Ok y) (inr a) b = bounded_or_past y b.1 a.2
  bound_decided (Err f) (Err g) (inl a) (inl b) = let same : Err f ≡ Err g = sym a ∙ b in let is : f ≡ g = cc in ap Err is
  bound_decided (Err f) (Err g) (inl a) (inr b) = refused_not_accepted (sym a ∙ b.0)
  bound_decided (Err f) (Err g) (inr a) (inl b) = refused_not_accepted (sym b ∙ a.0)
  bound_decided (Err f) (Err g) (inr a) (inr b) = ap Err (a.1 ∙ sym b.1)

  -- A bound is given only for a layout that is accepted with the problem, and for each that is.
  pub bounded_accepted : (b : Bound) → BoundSays p layout (Ok b) → AcceptedWith p layout
  bounded_accepted b says = (says.0, bounded_or_past b says.1)

  pub accepted_bounded : (a : Result Bound Refusal) → BoundSays p layout a → AcceptedWith p layout → (b : Bound) × (a ≡ Ok b)
  accepted_bounded (Ok b) says accepted = (b, refl)
  accepted_bounded (Err f) (inl refused) accepted = refused_not_accepted (sym refused ∙ accepted.0)
  accepted_bounded (Err f) (inr says) accepted = absurd (accepted.1 says.2)
