-- What pricing computes is Bound's result: the tables tell contested, early and cold, the greatest sums are those of the two totals, and no lawful walk runs
-- longer than the smaller.
use Prim.Native.Nat.{ℕ, ◌≤◌, ◌<◌}
use mathlib.Core.Path.{◌≡◌, refl, ◌∙◌}
use mathlib.Core.List.{List, ◌∷◌}
use mathlib.Core.Bool.{Bool}
use native.Mathlib.Omega.{arith}
use Rattle.model.specs.declared.Bytes.{Bytes}
use Rattle.model.specs.declared.Cycles.{Cycles}
use Rattle.model.specs.Numbers.{problem_of}
use Rattle.model.specs.Operations.{Checked}
use Rattle.model.specs.Graph.{loops_of}
use Rattle.model.specs.Walks.{last_vertex}
use Rattle.model.specs.Layouts.{need_of}
use Rattle.model.specs.Charges.{Told, visit_charge, second_charge, entry_charge, second_total, charges}
use Rattle.model.specs.Results.{bound_limit, BoundIs, PastTheLimit}
use Rattle.model.proofs.Cases.{by_less}
use Rattle.lookup.proofs.Walks.{walk_below, walk_function}
use Rattle.sound.proofs.Sound.{cycles_covered}
use Rattle.greatest.specs.Greatest.{GreatestCapped}
use Rattle.greatest.proofs.Weights.{charges_below}
use Rattle.firsts.proofs.Second.{cycles_second}
use Rattle.firsts.proofs.Smaller.{below_smaller, ordered, greatest_first, smaller_total, first_past, second_past}
use Rattle.reach.specs.Fresh.{FreshTable}
use Rattle.rivals.specs.Rivals.{RivalTable}
use Rattle.held.specs.Flow.{HeldTable}
use Rattle.bits.specs.Tests.{has}
use Rattle.charges.specs.Tests.{contested_by, flagged, Tallied}
use Rattle.charges.proofs.Flags.{flag_told}
use Rattle.early.specs.Early.{early_by, early_told, EarlyTable, early_in, Gathered, LoadedFirst}
use Rattle.early.proofs.Words.{word_told}
use Rattle.early.proofs.Told.{flags_early, told_by_tables}
use Rattle.chains.proofs.Checks.{rules_of, order_of}
use Rattle.stays.specs.Tables.{cap}
use Rattle.sums.proofs.Agree.{charges_agree, totals_agree}
use Rattle.totals.specs.Totals.{smaller, with_total, totalled}
use Rattle.bound.specs.Priced.{Priced}

-- The tables that pricing fills, and the numbers that it finds by them.
pub record Computed (l layout : List ℕ) (tally : ℕ) (first greatest second : Cycles) : Type 0 where
  pub checked : Checked l
  pub rivals : List ℕ
  pub held : List ℕ
  pub fresh : List ℕ
  pub flags : List ℕ
  pub words : List ℕ
  pub coldest : ℕ
  pub is_rivals : RivalTable (problem_of l) layout rivals
  pub is_held : HeldTable (problem_of l) rivals held
  pub is_fresh : FreshTable (problem_of l) fresh
  pub tallied : Tallied (problem_of l).vertex_count (contested_by (problem_of l) rivals held) flags tally
  pub is_early : EarlyTable (problem_of l) (early_by (problem_of l) flags fresh) words
  pub is_cold : Gathered words 0 (problem_of l).vertex_count coldest
  pub loaded : LoadedFirst (problem_of l) (has coldest) first.0
  pub greatest_is_lem : GreatestCapped (problem_of l) cap (charges (visit_charge (problem_of l) (flagged flags))) greatest.0
  pub second_is : GreatestCapped (problem_of l) cap (second_total (problem_of l) (flagged flags) (early_in words)) second.0

module _ {l layout : List ℕ} {tally : ℕ} {first greatest second : Cycles} (found : Computed l layout tally first greatest second) where
  abbrev contested : ℕ → Bool
  contested = contested_by (problem_of l) found.rivals found.held

  abbrev early : ℕ → Bool
  early = early_told (problem_of l) found.rivals found.held found.fresh

  abbrev cold : ℕ → Bool
  cold = has found.coldest

  abbrev visits : List ℕ → ℕ
  visits = charges (visit_charge (problem_of l) contested)

  abbrev seconds : List ℕ → ℕ
  seconds = second_total (problem_of l) contested early

  told : Told (problem_of l) layout contested early cold
  told =
      told_by_tables found.checked layout _ _ _ _ _ _ found.is_rivals found.is_held found.is_fresh found.tallied.told found.is_early found.is_cold

  -- What flags and words say of the vertices, the tests say.
  same_contested : (v : ℕ) → v < (problem_of l).vertex_count → flagged found.flags v ≡ contested v
  same_contested = flag_told found.tallied.told

  same_early : (v : ℕ) → v < (problem_of l).vertex_count → early_in found.words v ≡ early v
  same_early v below =
      word_told found.is_early v below
      ∙ flags_early found.checked layout _ _ _ _ _ _ found.is_rivals found.is_held found.is_fresh found.tallied.told found.is_early found.is_cold v below

  visits_capped : GreatestCapped (problem_of l) cap visits greatest.0
  visits_capped = charges_agree found.checked cap same_contested found.greatest_is_lem

  seconds_capped : GreatestCapped (problem_of l) cap seconds second.0
  seconds_capped = totals_agree found.checked cap same_contested same_early found.second_is

  more : (v : ℕ) → visit_charge (problem_of l) contested v ≤ second_charge (problem_of l) contested early v
  unfolding second_charge
  more v = omega arith

  -- No walk's visit charges pass its second total.
  below : (h : List ℕ) → visits (last_vertex (problem_of l) ∷ h) ≤ seconds (last_vertex (problem_of l) ∷ h)
  below h =
      charges_below (loops_of (problem_of l)) (visit_charge (problem_of l) contested) (second_charge (problem_of l) contested early)
      (entry_charge (problem_of l) early) more (last_vertex (problem_of l) ∷ h)

  pub greatest_most : greatest.0 ≤ second.0
  greatest_most = ordered (problem_of l) cap visits seconds _ _ first.0 visits_capped seconds_capped below

  past : bound_limit < smaller first greatest second → PastTheLimit (problem_of l) layout
  past over =
      let loads = found.loaded.loads_are in
      let (h, w, high) = first_past (problem_of l) cap visits seconds _ _ first.0 visits_capped seconds_capped below (omega arith) in
      let (k, v, high_too) = second_past (problem_of l) cap visits seconds _ _ first.0 visits_capped seconds_capped below (omega arith) in
      record {
        contested = contested;
        early = early;
        cold = cold;
        told = told;
        over = (h, w, omega arith);
        second_over = (k, v, omega arith);
      }

  module _ (need : Bytes) (need_is : need.0 ≡ need_of (problem_of l) layout) where
    bounded : smaller first greatest second ≤ bound_limit → BoundIs (problem_of l) layout (with_total need tally first greatest second)
    bounded within =
        let loads = found.loaded.loads_are in
        let g = greatest_first (problem_of l) cap visits seconds _ _ first.0 visits_capped seconds_capped below (omega arith) in
        let s = smaller_total (problem_of l) cap visits seconds _ _ first.0 visits_capped seconds_capped below (omega arith) in
        record {
          contested = contested;
          early = early;
          cold = cold;
          told = told;
          need_is = need_is;
          contested_are = found.tallied.tally_is;
          greatest = greatest.0;
          greatest_is_lem = g;
          bound_is = rw (← loads) s;
          first_is = omega (arith, greatest_most);
          within_limit = within;
          covers = λ h lawful.
              below_smaller (problem_of l) visits seconds greatest.0 first.0 (smaller first greatest second) g s _ h lawful
              (rw loads (cycles_covered (problem_of l) layout contested early cold told (λ v h walk. walk_function found.checked walk) lawful.walk))
              (cycles_second (problem_of l) layout contested early cold told (rules_of found.checked) (order_of found.checked)
              (λ v h walk. walk_below found.checked walk) (λ v h walk. walk_function found.checked walk) lawful.walk);
        }

    pub priced : Priced (problem_of l) layout (totalled need tally first greatest second)
    priced =
        by_less (Priced (problem_of l) layout) bound_limit (smaller first greatest second) (λ over. (refl, past over)) bounded
