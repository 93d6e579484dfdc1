-- The loops of a graph whose header is a vertex: the headers ascend, so that there is one at most.
use Prim.Native.Nat.{ℕ, zero, suc, ◌+◌, ◌-◌, ◌≤◌, ◌<◌}
use mathlib.Core.Path.{◌≡◌, sym, ap, ◌∙◌, subst}
use mathlib.Core.List.{List, [], ◌∷◌, flat_map}
use mathlib.Core.Bool.{Bool}
use native.Mathlib.Omega.{arith}
use lib.ListN.{get_or}
use lib.Dec.{eqb}
use borrow.Author.Tests.{eq-eqb, ne_eqb, eqb-true, eqb-false, lt-ltb, le-ltb}
use Rattle.model.specs.declared.Loop.{Loop}
use Rattle.model.specs.declared.Row.{Row}
use Rattle.model.specs.Places as places
use Rattle.model.specs.Zero.{zero_loop}
use Rattle.model.specs.Search.{lowest_below}
use Rattle.model.specs.Graph.{loops_of}
use Rattle.model.specs.Drawings.{drawn_loops, drawn_loop, graph_of}
use Rattle.model.specs.Inlining.{number_in, around}
use Rattle.model.proofs.Cases.{by_order}
use Rattle.model.proofs.Search.{lowest_passes, none_below}
use Rattle.drawings.specs.Facts.{DrawnFacts}
use Rattle.links.specs.Put.{range}
use Rattle.links.specs.Placed.{spot, Placed}
use Rattle.model.proofs.Mapped.{flat_map_nothing, flat_map_only}
use Rattle.links.proofs.Drawn.{loop_count_lem, loop_at_lem}

module _ (d : List ℕ) (f : ℕ) (facts : DrawnFacts d f) where
  climbs : (i n : ℕ) → i + suc n < drawn_loops d f → (drawn_loop d f i).header < (drawn_loop d f (i + suc n)).header
  climbs i zero h = let e : i + 1 ≡ i + suc 0 = omega arith in subst (λ (k : ℕ). (drawn_loop d f i).header < (drawn_loop d f k).header) e (facts.headers i (omega arith))
  climbs i (suc n) h =
      let e : i + suc n + 1 ≡ i + suc (suc n) = omega arith in
      subst (λ (k : ℕ). (drawn_loop d f i).header < (drawn_loop d f k).header) e
      (omega (arith, climbs i n (omega arith), facts.headers (i + suc n) (omega arith)))

  rising : (i j : ℕ) → i < j → j < drawn_loops d f → (drawn_loop d f i).header < (drawn_loop d f j).header
  rising i j low high =
      let e : i + suc (j - i - 1) ≡ j = omega arith in
      subst (λ (k : ℕ). (drawn_loop d f i).header < (drawn_loop d f k).header) e (climbs i (j - i - 1) (omega arith))

  apart : (i j : ℕ) → i < drawn_loops d f → j < drawn_loops d f → (i ≡ j → ⊥) → (drawn_loop d f i).header ≡ (drawn_loop d f j).header → ⊥
  apart i j hi hj differ same =
      by_order i j
      (λ less. let z : ⊥ = omega (arith, rising i j less hj) in z)
      (λ more. by_order j i (λ less. let z : ⊥ = omega (arith, rising j i less hi) in z) (λ equal. differ (omega arith)))

abbrev heads : List ℕ → ℕ → ℕ → ℕ → Bool
heads d f v j = eqb (drawn_loop d f j).header v

module _ (d : List ℕ) (rows : List Row) (i : ℕ) (r : Row) (facts : DrawnFacts d r.function) where
  abbrev f : ℕ
  f = r.function

  abbrev ls : List Loop
  ls = loops_of (graph_of d f)

  -- What a loop gives, by its header.
  away : (j : ℕ) → j < drawn_loops d f → ((drawn_loop d f j).header ≡ r.vertex → ⊥) → around d rows i r (get_or ls j zero_loop) ≡ []
  away j h differ = rw (loop_at_lem d f facts j h, ne_eqb _ _ differ)

  abbrev copied : ℕ → Loop
  copied j = range i (number_in rows r.first ((drawn_loop d f j).last + 1) - 1) (drawn_loop d f j).bound

  on : (j : ℕ) → j < drawn_loops d f → (drawn_loop d f j).header ≡ r.vertex → around d rows i r (get_or ls j zero_loop) ≡ copied j ∷ []
  on j h same = rw (loop_at_lem d f facts j h, eq-eqb _ _ same)

  module _ (j : ℕ) (is : j ≡ lowest_below (drawn_loops d f) (heads d f r.vertex)) where
    header_is : j < drawn_loops d f → (drawn_loop d f j).header ≡ r.vertex
    header_is h =
        eqb-true _ _
        (ap (heads d f r.vertex) is
        ∙ lowest_passes (drawn_loops d f) (heads d f r.vertex) (lt-ltb (lowest_below (drawn_loops d f) (heads d f r.vertex)) (drawn_loops d f) (omega arith)))

    one_headed : j < drawn_loops d f → flat_map (around d rows i r) ls ≡ copied j ∷ []
    one_headed h =
        flat_map_only (around d rows i r) ls j zero_loop (omega (arith, loop_count_lem d f facts))
        (λ m lt differ.
        let below : m < drawn_loops d f = omega (arith, loop_count_lem d f facts) in
        away m below (λ same. apart d f facts m j below h differ (same ∙ sym (header_is h))))
        ∙ on j h (header_is h)

    pub none_headed : drawn_loops d f ≤ j → flat_map (around d rows i r) ls ≡ []
    none_headed h =
        flat_map_nothing (around d rows i r) ls zero_loop
        (λ m lt.
        let below : m < drawn_loops d f = omega (arith, loop_count_lem d f facts) in
        away m below
        (eqb-false _ _ (none_below (drawn_loops d f) (heads d f r.vertex) (le-ltb (lowest_below (drawn_loops d f) (heads d f r.vertex)) (drawn_loops d f) (omega arith)) m below)))

    -- The one loop, by what is read: its last vertex l, the row before the one that follows it, and its bound.
    pub headed_read : (table : List ℕ) → Placed rows table → j < drawn_loops d f → r.first < places.most_vertices → (l last bound : ℕ) →
        l ≡ (drawn_loop d f j).last → last ≡ get_or table (spot r.first (l + 1)) 0 - 1 → bound ≡ (drawn_loop d f j).bound →
        flat_map (around d rows i r) ls ≡ range i last bound ∷ []
    headed_read table placed h inside l last bound is_last is is_bound =
        let low : (drawn_loop d f j).last + 1 < places.most_vertices = omega (arith, facts.last j h, facts.vertices) in
        let end : last ≡ number_in rows r.first ((drawn_loop d f j).last + 1) - 1 =
        is
        ∙ ap (λ (w : ℕ). get_or table (spot r.first (w + 1)) 0 - 1) is_last
        ∙ ap (λ (n : ℕ). n - 1) (placed r.first ((drawn_loop d f j).last + 1) inside low)
        in
        one_headed h ∙ ap (λ (n : ℕ). range i n (drawn_loop d f j).bound ∷ []) (sym end) ∙ ap (λ (n : ℕ). range i last n ∷ []) (sym is_bound)
