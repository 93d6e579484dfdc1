-- What entering a loop is charged, from the functions gathered over its range; and the table of such charges, filled a loop at a time.
use Prim.Native.Nat.{ℕ, ◌+◌, ◌≤◌, ◌<◌}
use mathlib.Core.Path.{◌≡◌, ap, ◌∙◌}
use mathlib.Core.List.{List}
use mathlib.Core.Bool.{Bool, true, ◌&&◌}
use native.Mathlib.Omega.{arith}
use lib.ListN.{length, get_or, set, replicate, length-set, length-replicate}
use lib.Seq.{get_or-set_same, get_or-set_other}
use lib.Dec.{eqb}
use borrow.Author.Tests.{eqb-true, eq-eqb, lt-ltb, le-ltb}
use Rattle.model.specs.declared.Loop.{Loop}
use Rattle.model.specs.declared.Problem.{Problem}
use Rattle.model.specs.Zero.{zero_loop}
use Rattle.model.specs.Graph.{holds, loop}
use Rattle.model.specs.Numbers.{problem_of}
use Rattle.model.specs.Operations.{Checked}
use Rattle.model.specs.Places as places
use Rattle.model.specs.Costs.{function_of}
use Rattle.model.specs.Charges.{first_loads, holds_early, entry_charge}
use Rattle.model.proofs.Cases.{by_same, same_bool, and_left, and_right}
use Rattle.model.proofs.Search.{some_below, exists_at}
use Rattle.model.proofs.Lists.{index_of, get_or-replicate_self}
use Rattle.sound.proofs.Tests.{and_both}
use Rattle.lookup.specs.Lists.{loops_in}
use Rattle.lookup.proofs.Places.{last_below_lem, header_small}
use Rattle.greatest.proofs.Loops.{holds_from, holds_to}
use Rattle.chains.specs.Chains.{headers, LoopChains}
use Rattle.chains.proofs.Checks.{facts, headers_ascend}
use Rattle.bits.specs.Tests.{has}
use Rattle.early.specs.Early.{early_in, EarlyTable, Gathered, first_limit, LoadedFirst}
use Rattle.early.proofs.Words.{word_members}
use Rattle.early.proofs.Told.{told_by_bit}
use Rattle.second.specs.Second.{EntryCharged, EntriesCharged}
use Rattle.second.proofs.Outer.{outermost_told}

-- The functions gathered over a loop's range are those of which it holds an early vertex.
module _ {p : Problem} {words : List ℕ} (table : EarlyTable p (early_in words) words) (k : Loop) (inside : k.last < p.vertex_count) {word : ℕ}
    (gathered : Gathered words k.header (k.last + 1) word) where
  early_of_lem : ℕ → ℕ → Bool
  early_of_lem f v = holds k v && (eqb (function_of p v) f && early_in words v)

  found : (f : ℕ) → has word f ≡ true → holds_early p (early_in words) k f ≡ true
  unfolding holds_early early_of_lem
  found f e =
      let (v, low, high, m) = (told_by_bit word f (gathered.member f)).0 e in
      let below : v < p.vertex_count = omega arith in
      let (of_f, early) = (word_members table v below f).0 m in
      exists_at p.vertex_count (early_of_lem f) v below
      (and_both (holds k v) _ (holds_to k v low (omega arith)) (and_both (eqb (function_of p v) f) _ (eq-eqb (function_of p v) f of_f) early))

  shown : (f : ℕ) → holds_early p (early_in words) k f ≡ true → has word f ≡ true
  unfolding holds_early early_of_lem
  shown f e =
      let (v, below, x) = some_below p.vertex_count (early_of_lem f) e in
      let (low, high) = holds_from k v (and_left (holds k v) _ x) in
      let y = and_right (holds k v) _ x in
      (told_by_bit word f (gathered.member f)).1
      (v, low, omega arith, (word_members table v below f).1 (eqb-true (function_of p v) f (and_left (eqb (function_of p v) f) _ y), and_right (eqb (function_of p v) f) _ y))

  range_loads : first_loads p (has word) ≡ first_loads p (holds_early p (early_in words) k)
  range_loads = ap (first_loads p) (λ i f. same_bool (has word f) (holds_early p (early_in words) k f) (found f) (shown f) i)

module _ (l loops early : List ℕ) (ok : Checked l) (chains : LoopChains l loops) (i : ℕ) (below : i < length (loops_in l)) where
  -- A loop in another is charged nothing.
  pub inner_entry : 0 < get_or loops (places.most_vertices + i) 0 → EntryCharged (problem_of l) early (loop (loops_in l) i) 0
  unfolding entry_charge
  inner_entry some = record {
    is = rw (outermost_told l loops chains ok i below, lt-ltb 0 (get_or loops (places.most_vertices + i) 0) some);
    small = omega arith;
  }

  pub outer_entry : get_or loops (places.most_vertices + i) 0 ≤ 0 → EarlyTable (problem_of l) (early_in early) early → {word loads : ℕ}
      → Gathered early (headers l i) ((loop (loops_in l) i).last + 1) word → LoadedFirst (problem_of l) (has word) loads
      → EntryCharged (problem_of l) early (loop (loops_in l) i) loads
  unfolding entry_charge
  outer_entry none table gathered loaded = record {
    is =
        rw (outermost_told l loops chains ok i below, le-ltb 0 (get_or loops (places.most_vertices + i) 0) none)
        (loaded.loads_are ∙ range_loads table (loop (loops_in l) i) (last_below_lem l (facts ok) i below) gathered);
    small = loaded.small;
  }

-- The charges of the first i loops are in the table.
pub record EntriesBelow (l early : List ℕ) (i : ℕ) (enter : List ℕ) : Type 0 where
  pub within : i ≤ length (loops_in l)
  pub long : length enter ≡ places.most_vertices
  pub each : (j : ℕ) → j < i → get_or enter (headers l j) 0 ≡ entry_charge (problem_of l) (early_in early) (loop (loops_in l) j)
  pub small : (v : ℕ) → get_or enter v 0 ≤ first_limit

module _ {l : List ℕ} (early : List ℕ) (ok : Checked l) where
  pub no_entries : EntriesBelow l early 0 (replicate places.most_vertices 0)
  no_entries = record {
    within = omega arith;
    long = length-replicate {A = ℕ} places.most_vertices 0;
    each = λ j low. absurd (omega arith);
    small = λ v. omega (arith, get_or-replicate_self {A = ℕ} places.most_vertices v 0);
  }

  pub one_entry : {i header charge : ℕ} {enter : List ℕ} → i < length (loops_in l) → header ≡ headers l i → EntryCharged (problem_of l) early (loop (loops_in l) i) charge
      → EntriesBelow l early i enter → EntriesBelow l early (i + 1) (set enter header charge)
  one_entry {i} {header} {charge} {enter} below at charged so_far =
      let inside : header < length enter = omega (arith, so_far.long, header_small l (facts ok) i below) in
      record {
        within = omega arith;
        long = length-set enter header charge ∙ so_far.long;
        each = λ j low.
            by_same j i
            (λ same. rw (same, ← at, get_or-set_same enter header charge 0 inside) charged.is)
            (λ other.
            let less : j < i = omega (arith, other) in
            get_or-set_other enter header (headers l j) charge 0 (λ q. omega (arith, headers_ascend ok j i less below)) ∙ so_far.each j less);
        small = λ v.
            by_same v header
            (λ same. rw (same, get_or-set_same enter header charge 0 inside) charged.small)
            (λ other. rw (get_or-set_other enter header v charge 0 other) (so_far.small v));
      }

  pub all_entries : {i : ℕ} {enter : List ℕ} → length (loops_in l) ≤ i → EntriesBelow l early i enter → EntriesCharged (problem_of l) early enter
  all_entries over so_far = record {
    each = λ k member. let (j, low, is) = index_of zero_loop member in rw (← is) (so_far.each j (omega arith));
    small = so_far.small;
  }
