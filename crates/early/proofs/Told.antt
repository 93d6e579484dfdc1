-- Tables that hold what regions may hold and the first reach of a checked problem tell which vertices are contested or early and which functions are cold.
use Prim.Native.Nat.{ℕ, ◌/◌, ◌%◌, ◌^◌, ◌<◌}
use mathlib.Core.Path.{◌≡◌, sym, ◌∙◌}
use mathlib.Core.List.{List}
use mathlib.Core.Bool.{true}
use mathlib.Core.Logic.{◌↔◌}
use native.Mathlib.Omega.{arith}
use lib.ListN.{get_or}
use lib.Dec.{ltb}
use borrow.Author.Tests.{eqb-true, eq-eqb, ltb-true, lt-ltb}
use Rattle.model.specs.Numbers.{problem_of}
use Rattle.model.specs.Operations.{Checked}
use Rattle.model.specs.Costs.{function_of}
use Rattle.model.specs.Walks.{EdgeOf}
use Rattle.model.specs.Layouts.{region_of}
use Rattle.model.specs.Interference.{Contested}
use Rattle.model.specs.Charges.{Told}
use Rattle.model.specs.Results.{Member}
use Rattle.model.proofs.Cases.{and_left}
use Rattle.lookup.proofs.Places.{facts, function_below}
use Rattle.lookup.proofs.Walks.{walk_below}
use Rattle.sound.specs.Decide.{early_test}
use Rattle.sound.proofs.Held.{contested_held}
use Rattle.sound.proofs.Decide.{told}
use Rattle.reach.specs.Fresh.{FreshTable}
use Rattle.rivals.specs.Rivals.{RivalTable}
use Rattle.held.specs.Flow.{HeldTable}
use Rattle.bits.proofs.Members.{common}
use Rattle.held.proofs.Flow.{held_known}
use Rattle.bits.specs.Tests.{has}
use Rattle.entered.specs.Flags.{FlagsTell}
use Rattle.charges.specs.Tests.{shared_test, contested_by}
use Rattle.charges.proofs.Flags.{flag_told}
use Rattle.early.specs.Early.{fresh_test, early_by, early_told, EarlyTable, Gathered}
use Rattle.early.proofs.Words.{word_members}

-- A bit's test, for what its being set says.
pub told_by_bit : (word g : ℕ) {P : Type 0} → Member word g ↔ P → (has word g ≡ true) ↔ P
unfolding has
told_by_bit word g iff = (λ e. iff.0 (eqb-true (word / 2 ^ g % 2) 1 e), λ x. eq-eqb (word / 2 ^ g % 2) 1 (iff.1 x))

module _ {l : List ℕ} (checked : Checked l) where
  -- The words of a vertex and of its function have a member in common just where the vertex is contested.
  module _ (layout rivals held : List ℕ) (is_rivals : RivalTable (problem_of l) layout rivals) (is_held_lem : HeldTable (problem_of l) rivals held)
      (v : ℕ) (below : v < (problem_of l).vertex_count) where
    abbrev f : ℕ
    f = function_of (problem_of l) v

    own : f < (problem_of l).function_count
    own = function_below l (facts _ checked) v below

    pub shared_contested : (shared_test rivals held (problem_of l) v ≡ true) ↔ Contested (function_of (problem_of l)) (EdgeOf (problem_of l)) (region_of layout) v
    shared_contested = (
      λ e.
          let (g, held, rival) = (common (get_or held v 0) (get_or rivals f 0)).0 (ltb-true 0 _ e) in
          let (ne, known, same) = (is_rivals.member f own g).0 rival in
          (contested_held (function_of (problem_of l)) (region_of layout) (EdgeOf (problem_of l)) v).1 (g, (λ q. ne (sym q)), same, (is_held_lem.member layout is_rivals v g).0 held),
      λ c.
          let (g, ne, same, holds) = (contested_held (function_of (problem_of l)) (region_of layout) (EdgeOf (problem_of l)) v).0 c in
          lt-ltb 0 _ ((common (get_or held v 0) (get_or rivals f 0)).1 (
            g,
            (is_held_lem.member layout is_rivals v g).1 holds,
            (is_rivals.member f own g).1 ((λ q. ne (sym q)), held_known l checked layout v g holds, same),
          )),
    )

  module _ (layout rivals held fresh flags words : List ℕ) (cold : ℕ) (is_rivals : RivalTable (problem_of l) layout rivals)
      (is_held_lem : HeldTable (problem_of l) rivals held) (is_fresh : FreshTable (problem_of l) fresh)
      (kept : FlagsTell (problem_of l).vertex_count (contested_by (problem_of l) rivals held) flags)
      (is_early : EarlyTable (problem_of l) (early_by (problem_of l) flags fresh) words) (is_cold : Gathered words 0 (problem_of l).vertex_count cold) where
    -- What flags say of early vertices is what the tables say.
    pub flags_early : (v : ℕ) → v < (problem_of l).vertex_count → early_by (problem_of l) flags fresh v ≡ early_told (problem_of l) rivals held fresh v
    unfolding early_by early_told early_test contested_by
    flags_early v below = rw (flag_told kept v below, lt-ltb v (problem_of l).vertex_count below)

    early_below : (v : ℕ) → early_told (problem_of l) rivals held fresh v ≡ true → v < (problem_of l).vertex_count
    unfolding early_told early_test
    early_below v e = ltb-true v (problem_of l).vertex_count (and_left (ltb v (problem_of l).vertex_count) _ e)

    coldest : (f : ℕ) → (has cold f ≡ true) ↔ ((v : ℕ) × (function_of (problem_of l) v ≡ f) × (early_told (problem_of l) rivals held fresh v ≡ true))
    coldest f = told_by_bit cold f (
      λ m.
          let (v, low, below, x) = (is_cold.member f).0 m in
          let (of_f, early) = (word_members is_early v below f).0 x in
          (v, of_f, sym (flags_early v below) ∙ early),
      λ (v, of_f, early).
          let below = early_below v early in
          (is_cold.member f).1 (v, omega arith, below, (word_members is_early v below f).1 (of_f, flags_early v below ∙ early)),
    )

    pub told_by_tables : Told (problem_of l) layout (contested_by (problem_of l) rivals held) (early_told (problem_of l) rivals held fresh) (has cold)
    unfolding contested_by early_told
    told_by_tables =
        told (problem_of l) layout (shared_test rivals held (problem_of l)) (fresh_test fresh (problem_of l)) (has cold)
        (record {
          vertex = λ v h walk. walk_below checked walk;
          contested = shared_contested layout rivals held is_rivals is_held_lem;
          reached = λ v below. told_by_bit (get_or fresh v 0) _ (is_fresh.member v (function_of (problem_of l) v) below (function_below l (facts _ checked) v below));
          coldest = coldest;
        })
