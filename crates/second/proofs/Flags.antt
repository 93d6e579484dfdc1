-- The second total's flags, vertex by vertex; that they are 0 or 1, and that visit charges by them are the second total's charges.
use Prim.Native.Nat.{ℕ, ◌+◌, ◌≤◌, ◌<◌}
use mathlib.Core.Path.{◌≡◌, refl}
use mathlib.Core.List.{List}
use mathlib.Core.Bool.{Bool, true, false, cond, not, ◌&&◌}
use native.Mathlib.Omega.{arith}
use lib.ListN.{get_or}
use lib.Dec.{eqb, ltb}
use borrow.Author.Tests.{lt-ltb, le-ltb}
use Rattle.model.specs.declared.Problem.{Problem}
use Rattle.model.specs.Numbers.{problem_of}
use Rattle.model.specs.Places as places
use Rattle.model.specs.Costs.{function_of, load_cost}
use Rattle.model.specs.Charges.{visit_charge, second_charge}
use Rattle.model.proofs.Cases.{by_cond}
use Rattle.sound.proofs.Entered.{fixed}
use Rattle.chains.specs.Chains.{LoopChains}
use Rattle.charges.specs.Tests.{Flags, flagged}
use Rattle.early.specs.Early.{early_in, EarlyApart}
use Rattle.second.specs.Second.{second_flag, SecondFlags}
use Rattle.second.proofs.Outer.{outside_told}

module _ (loops early flags : List ℕ) (v : ℕ) where
  pub flag_held : 0 < get_or loops v 0 → get_or flags v 0 ≡ second_flag loops early flags v
  unfolding second_flag
  flag_held some = rw (lt-ltb 0 (get_or loops v 0) some)

  pub flag_early : get_or loops v 0 ≤ 0 → 0 < get_or early v 0 → 1 ≡ second_flag loops early flags v
  unfolding second_flag early_in
  flag_early none some = rw (le-ltb 0 (get_or loops v 0) none, lt-ltb 0 (get_or early v 0) some)

  pub flag_plain : get_or loops v 0 ≤ 0 → get_or early v 0 ≤ 0 → get_or flags v 0 ≡ second_flag loops early flags v
  unfolding second_flag early_in
  flag_plain none plain = rw (le-ltb 0 (get_or loops v 0) none, le-ltb 0 (get_or early v 0) plain)

-- They are 0 or 1 where the flags are.
pub second_low :
    {p : Problem} {loops early flags charged : List ℕ} → SecondFlags p loops early flags charged → Flags p.vertex_count flags → Flags p.vertex_count charged
unfolding second_flag
second_low {loops = loops} {early} second zero_or_one =
    record {
      low = λ v below.
          rw (second.flag v below)
          (by_cond (λ (x : ℕ). x ≤ 1) (ltb 0 (get_or loops v 0)) (λ _. zero_or_one.low v below)
          (λ _. by_cond (λ (x : ℕ). x ≤ 1) (early_in early v) (λ _. omega arith) (λ _. zero_or_one.low v below)));
    }

-- A vertex is charged its load once, contested or early: it is not both.
once : (held early : Bool) (flag own load : ℕ) → (early ≡ true → eqb flag 1 ≡ false) →
    own + cond (eqb (cond held flag (cond early 1 flag)) 1) load 0 ≡ own + cond (eqb flag 1) load 0 + cond (not held && early) load 0
once true early flag own load apart = omega arith
once false true flag own load apart = rw (apart refl) (omega arith)
once false false flag own load apart = omega arith

pub second_charged :
    (l loops early flags charged : List ℕ) → LoopChains l loops → EarlyApart (problem_of l) flags early → SecondFlags (problem_of l) loops early flags charged →
    (v : ℕ) → v < (problem_of l).vertex_count → v < places.most_vertices →
    visit_charge (problem_of l) (flagged charged) v ≡ second_charge (problem_of l) (flagged flags) (early_in early) v
unfolding visit_charge second_charge flagged second_flag
second_charged l loops early flags charged chains is_early second v below inside =
    rw (second.flag v below, outside_told l loops chains v inside)
    (once (ltb 0 (get_or loops v 0)) (early_in early v) (get_or flags v 0) (fixed (problem_of l) v) (load_cost (problem_of l) (function_of (problem_of l) v)) (is_early.apart v below))
