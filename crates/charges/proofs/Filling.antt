-- Tables by vertex, filled from the front: flags and visit charges.
use Prim.Native.Nat.{ℕ, ◌+◌, ◌≤◌, ◌<◌}
use mathlib.Core.Path.{◌≡◌, refl, ap, ◌∙◌}
use mathlib.Core.List.{List}
use mathlib.Core.Bool.{Bool, cond}
use native.Mathlib.Omega.{arith}
use lib.ListN.{length, get_or, set, replicate, length-set, length-replicate}
use lib.Seq.{get_or-set_same, get_or-set_other}
use borrow.Author.Count.{below_none, below_more}
use Rattle.model.specs.declared.Problem.{Problem}
use Rattle.model.specs.Numbers.{problem_of}
use Rattle.model.specs.Places as places
use Rattle.model.specs.Operations.{Checked}
use Rattle.model.specs.Costs.{total, how_many}
use Rattle.model.specs.Charges.{visit_charge}
use Rattle.model.proofs.Cases.{by_order}
use Rattle.model.proofs.Lists.{get_or-replicate_self}
use Rattle.regions.proofs.Sums.{Upto, turn, end, total_more, total_high}
use Rattle.charges.specs.Tests.{Tallied, charge_limit, Charged}
use Rattle.charges.proofs.Sizes.{visit_high}
use Rattle.charges.proofs.Flags.{answer_low}

-- The numbers below i stand in the table as they should.
pub record ValuesBelow (value : ℕ → ℕ) (i : ℕ) (xs : List ℕ) : Type 0 where
  pub long : length xs ≡ places.most_vertices
  pub item : (k : ℕ) → k < i → get_or xs k 0 ≡ value k

module _ {value : ℕ → ℕ} {xs : List ℕ} where
  pub fill_start : length xs ≡ places.most_vertices → ValuesBelow value 0 xs
  fill_start long = record { long = long; item = below_none _ }

  pub fill_more : {i x : ℕ} → ValuesBelow value i xs → i < places.most_vertices → x ≡ value i → ValuesBelow value (i + 1) (set xs i x)
  fill_more {i} {x} filled below e =
      record {
        long = length-set xs i x ∙ filled.long;
        item = below_more _ i (λ k h. get_or-set_other xs i k x 0 (λ q. omega arith) ∙ filled.item k h) (get_or-set_same xs i x 0 (omega (arith, filled.long)) ∙ e);
      }

-- Flags for n vertices, with a count of those set so far.
pub record Tallying (n : ℕ) (test : ℕ → Bool) (i : ℕ) (flags : List ℕ) (tally : ℕ) : Type 0 where
  pub room : n ≤ places.most_vertices
  pub upto : Upto (λ k. how_many k test) n i tally
  pub filled : ValuesBelow (λ v. cond (test v) 1 0) i flags

module _ (n : ℕ) (test : ℕ → Bool) {flags : List ℕ} where
  pub tally_start : n ≤ places.most_vertices → length flags ≡ places.most_vertices → Tallying n test 0 flags 0
  unfolding total
  tally_start room long = record { room = room; upto = record { within = omega arith; is = refl }; filled = fill_start long }

module _ {n : ℕ} {test : ℕ → Bool} {i : ℕ} {flags : List ℕ} {tally : ℕ} (tallying : Tallying n test i flags tally) where
  pub tally_more : i < n → {answer : Bool} {flag : ℕ} → answer ≡ test i → flag ≡ cond answer 1 0 → Tallying n test (i + 1) (set flags i flag) (tally + flag)
  tally_more below {flag = flag} answered flag_is =
      let right : flag ≡ cond (test i) 1 0 = rw (← answered) flag_is in
      record {
        room = tallying.room;
        upto = turn ◌+◌ (total_more _) tallying.upto below right refl;
        filled = fill_more tallying.filled (omega (arith, tallying.room)) right;
      }

  pub tally_small : tally ≤ places.most_vertices
  tally_small =
      omega (
        arith,
        tallying.room,
        tallying.upto.is,
        tallying.upto.within,
        total_high (λ k. cond (test k) 1 0) i 1 (λ k h. answer_low (test k)),
      )

  pub tally_end : n ≤ i → Tallied n test flags tally
  tally_end past =
      record {
        told = record { long = tallying.filled.long; flag = λ v below. tallying.filled.item v (omega arith) };
        tally_is = end tallying.upto past;
      }

-- Visit charges of the first i vertices, in a table that is zero from there on.
pub record ChargedTo (p : Problem) (contested : ℕ → Bool) (i : ℕ) (charge : List ℕ) : Type 0 where
  pub filled : ValuesBelow (visit_charge p contested) i charge
  pub rest : (v : ℕ) → i ≤ v → get_or charge v 0 ≡ 0

module _ {p : Problem} {contested : ℕ → Bool} {charge : List ℕ} where
  pub none_charged : charge ≡ replicate places.most_vertices 0 → ChargedTo p contested 0 charge
  none_charged e =
      record {
        filled = fill_start (ap length e ∙ length-replicate {A = ℕ} places.most_vertices 0);
        rest = λ v low. ap (λ (l : List ℕ). get_or l v 0) e ∙ get_or-replicate_self places.most_vertices v 0;
      }

  pub one_charged : {i visit : ℕ} → ChargedTo p contested i charge → i < places.most_vertices → visit ≡ visit_charge p contested i →
      ChargedTo p contested (i + 1) (set charge i visit)
  one_charged {i} {visit} so_far room is =
      record {
        filled = fill_more so_far.filled room is;
        rest = λ v low. get_or-set_other charge i v visit 0 (omega arith) ∙ so_far.rest v (omega arith);
      }

-- All are there.
pub all_charged : (l : List ℕ) → Checked l → (contested : ℕ → Bool) {i : ℕ} {charge : List ℕ} → i ≡ (problem_of l).vertex_count →
    ChargedTo (problem_of l) contested i charge → Charged (problem_of l) contested charge
all_charged l checked contested {i} {charge} all so_far = record { long = so_far.filled.long; charged = charged; spare = spare; small = small }
  where
    charged : (v : ℕ) → v < (problem_of l).vertex_count → get_or charge v 0 ≡ visit_charge (problem_of l) contested v
    charged v below = so_far.filled.item v (omega arith)

    spare : (v : ℕ) → (problem_of l).vertex_count ≤ v → get_or charge v 0 ≡ 0
    spare v out = so_far.rest v (omega arith)

    small : (v : ℕ) → get_or charge v 0 ≤ charge_limit
    small v =
        by_order v (problem_of l).vertex_count (λ h. omega (arith, charged v h, visit_high l checked contested v h))
        (λ h. omega (arith, spare v h))
