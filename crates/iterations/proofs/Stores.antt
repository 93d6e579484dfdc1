-- A number is stored in its table: what stands there then, and that its equation joins the others.
use Prim.Native.Nat.{ℕ, ◌+◌, ◌-◌, ◌*◌, ◌≤◌, ◌<◌, min}
use mathlib.Core.Path.{◌≡◌, refl, sym, ap, ◌∙◌}
use mathlib.Core.List.{List, Memᴰ}
use mathlib.Core.Bool.{cond}
use native.Mathlib.Nat.{mul-zero}
use native.Mathlib.Omega.{arith}
use lib.ListN.{length, get_or, set, length-set}
use lib.Seq.{get_or-set_same, get_or-set_other}
use lib.Dec.{eqb}
use borrow.Author.Tests.{eqb-true, eqb-false, eq-eqb, ne_eqb}
use Rattle.model.specs.declared.Loop.{Loop}
use Rattle.model.specs.Places as places
use Rattle.model.proofs.Cases.{by_bool}
use Rattle.lookup.specs.Lists.{vertices_in, edges_in, loops_in}
use Rattle.greatest.specs.Numbers.{NoHeader}
use Rattle.greatest.proofs.Rules.{one_loop}
use Rattle.greatest.proofs.Graph.{listing}
use Rattle.greatest.proofs.Checked.{checked_ranges}
use Rattle.stays.specs.Tables.{cap, Capped, by_header, by_vertex}
use Rattle.offers.specs.Offers.{visit_number, entry_number, turn_number}
use Rattle.iterations.specs.Filling.{Kept, Filling, Before, Since, ToLoop, PastLoop}
use Rattle.lookup.proofs.Places.{few_vertices}
use Rattle.chains.proofs.Checks.{facts, rules_of, order_of}
use Rattle.offers.proofs.ThreeNumbers.{visit_most, entry_most}
use Rattle.iterations.proofs.Equations.{visit_start, visit_number_lem, entry_start, entry_number_lem, turn_number_lem}
use Rattle.iterations.proofs.Growth.{visited, entered, turned}

module _ (s : List ℕ) (i x : ℕ) where
  pub vertex_same : i < length s → by_vertex (set s i x) i ≡ x
  unfolding by_vertex
  vertex_same h = get_or-set_same s i x 0 h

  pub vertex_below : (u : ℕ) → u < i → by_vertex s u ≡ by_vertex (set s i x) u
  unfolding by_vertex
  vertex_below u h = sym (get_or-set_other s i u x 0 (λ q. omega arith))

  pub header_same : (k : Loop) → k.header ≡ i → i < length s → by_header (set s i x) k ≡ x
  unfolding by_header
  header_same k q h = rw q (get_or-set_same s i x 0 h)

  pub header_other : (k : Loop) → (k.header ≡ i → ⊥) → by_header s k ≡ by_header (set s i x) k
  unfolding by_header
  header_other k f = sym (get_or-set_other s i k.header x 0 f)

  pub capped_set : i < length s → x ≤ cap → Capped s → Capped (set s i x)
  capped_set h most c =
      record {
        most = λ k.
            by_bool (eqb k i)
            (λ q. let e = eqb-true k i q in rw (e, get_or-set_same s i x 0 h) most)
            (λ q. rw (get_or-set_other s i k x 0 (eqb-false k i q)) (c.most k));
      }

copied : (charge d : List ℕ) (v : ℕ) → v < length d → by_vertex (set d v (get_or charge v 0)) v ≡ by_vertex charge v
unfolding by_vertex
copied charge d v h = get_or-set_same d v (get_or charge v 0) 0 h

module _ {ls : List Loop} {e w : List ℕ} {turns : Loop → ℕ} {x : ℕ} (kept : Kept ls e w turns x) where
  kept_on : (y : ℕ) → x ≤ y → Kept ls e w turns y
  kept_on y up = record { stays = kept.stays; later = λ k i h. kept.later k i (omega arith) }

  -- A loop is entered.
  kept_entry : (h n : ℕ) → h < length e → h < length w → n ≤ cap → x ≤ h → Kept ls (set e h n) (set w h n) turns x
  kept_entry h n in_e in_w most up =
      record {
        stays = λ k i.
            by_bool (eqb k.header h)
            (λ z.
            let q = eqb-true k.header h z in
            let none : turns k ≡ 0 = kept.later k i (omega arith) in
            rw (header_same w h n k q in_w, header_same e h n k q in_e, none, mul-zero (k.bound - 1)) (omega arith))
            (λ z.
            let other = eqb-false k.header h z in
            sym (header_other w h n k other) ∙ kept.stays k i ∙ (rw (header_other e h n k other)));
        later = kept.later;
      }

  -- The iteration of the loop at h is known.
  abbrev now : ℕ → ℕ → Loop → ℕ
  now h n k = cond (eqb k.header h) n (turns k)

  now_other : (h n : ℕ) (k : Loop) → (k.header ≡ h → ⊥) → turns k ≡ now h n k
  now_other h n k other = rw (ne_eqb k.header h other)

  now_same : (h n : ℕ) (k : Loop) → k.header ≡ h → now h n k ≡ n
  now_same h n k same = rw (eq-eqb k.header h same)

  kept_turn : (h n m y : ℕ) → h < length w → x ≤ y → h < y → ((k : Loop) → Memᴰ k ls → k.header ≡ h → m ≡ min cap (by_header e k + (k.bound - 1) * n))
      → Kept ls e (set w h m) (now h n) y
  kept_turn h n m y in_w up low is =
      record {
        stays = λ k i.
            by_bool (eqb k.header h)
            (λ z. let q = eqb-true k.header h z in rw (header_same w h m k q in_w, now_same h n k q) (is k i q))
            (λ z.
            let other = eqb-false k.header h z in
            sym (header_other w h m k other) ∙ kept.stays k i ∙ ap (λ (z : ℕ). min cap (by_header e k + (k.bound - 1) * z)) (now_other h n k other));
        later = λ k i p. sym (now_other h n k (λ q. omega arith)) ∙ kept.later k i (omega arith);
      }

module _ {l charge enter d e w : List ℕ} where
  -- The number of a vertex that is no header.
  pub store_visit : {v x : ℕ} → Filling l charge enter d e w v (Before v) → v < vertices_in l → NoHeader (loops_in l) v → x ≡ visit_number l charge d w v
      → Filling l charge enter (set d v x) e w (v + 1) (Before v)
  store_visit {v} {x} f h plain is =
      let r = f.ready in
      let ok = r.checked in
      let in_d : v < length d = omega (arith, few_vertices _ (facts ok), f.visits_long) in
      record {
        turns = f.turns;
        ready = record { checked = ok; visits = capped_set d v x in_d (omega (arith, visit_most l charge d w v f.charges)) r.visits; stays = r.stays };
        entries = f.entries;
        charges = f.charges;
        enters = f.enters;
        visits_long = length-set d v x ∙ f.visits_long;
        entries_long = f.entries_long;
        stays_long = f.stays_long;
        kept = kept_on f.kept (v + 1) (omega arith);
        upto =
            visited (listing (edges_in l)) (rules_of ok) (order_of ok) (by_vertex charge) (by_header enter) cap v
            (by_vertex d) (by_vertex (set d v x)) (by_header e) (by_header e) f.turns (vertex_below d v x) (λ k i s. refl) f.upto plain
            (λ z. vertex_same d v x in_d ∙ is ∙ visit_start l charge enter d e w f.kept v z)
            (λ z. vertex_same d v x in_d ∙ is ∙ visit_number_lem l charge enter d e w f.kept v z);
      }

  -- The number of entering a loop, and its header's charge.
  pub store_entry : (k : Loop) {x : ℕ} → Memᴰ k (loops_in l) → ToLoop l charge enter d e w k → x ≡ entry_number l enter d w k
      → Filling l charge enter (set d k.header (get_or charge k.header 0)) (set e k.header x) (set w k.header x) (k.header + 1) (Before k.header)
  store_entry k {x} i f is =
      let r = f.ready in
      let ok = r.checked in
      let ranges = checked_ranges l ok in
      let below : k.header < places.most_vertices = omega (arith, few_vertices _ (facts ok), ranges.header k i, ranges.last k i) in
      let in_d : k.header < length d = omega (arith, f.visits_long) in
      let in_e : k.header < length e = omega (arith, f.entries_long) in
      let in_w : k.header < length w = omega (arith, f.stays_long) in
      let most : x ≤ cap = omega (arith, entry_most l enter d w k f.enters) in
      record {
        turns = f.turns;
        ready = record {
          checked = ok;
          visits = capped_set d k.header (get_or charge k.header 0) in_d (f.charges.most _) r.visits;
          stays = capped_set w k.header x in_w most r.stays;
        };
        entries = capped_set e k.header x in_e most f.entries;
        charges = f.charges;
        enters = f.enters;
        visits_long = length-set d _ _ ∙ f.visits_long;
        entries_long = length-set e _ _ ∙ f.entries_long;
        stays_long = length-set w _ _ ∙ f.stays_long;
        kept = kept_on (kept_entry f.kept k.header x in_e in_w most (omega arith)) (k.header + 1) (omega arith);
        upto =
            entered (listing (edges_in l)) (rules_of ok) (order_of ok) (by_vertex charge) (by_header enter) cap k.header
            (by_vertex d) (by_vertex (set d k.header (get_or charge k.header 0))) (by_header e) (by_header (set e k.header x)) f.turns
            (vertex_below d k.header _) (λ m j s. header_other e k.header x m (λ q. omega arith)) f.upto k i refl
            (copied charge d k.header in_d)
            (λ z. header_same e k.header x k refl in_e ∙ is ∙ entry_start l charge enter d e w f.kept k f.enters z)
            (λ z. header_same e k.header x k refl in_e ∙ is ∙ entry_number_lem l charge enter d e w f.kept k z);
      }

  -- The number of a loop's iteration, as part of what stands for the loop.
  pub store_turn : (k : Loop) {x y : ℕ} → Memᴰ k (loops_in l) → Filling l charge enter d e w (k.last + 1) (Since (k.header + 1) (k.last + 1))
      → x ≡ turn_number l d w k → y ≡ min cap (by_header e k + (k.bound - 1) * x) → PastLoop l charge enter d e (set w k.header y) k
  store_turn k {x} {y} i f is whole =
      let r = f.ready in
      let ok = r.checked in
      let ranges = checked_ranges l ok in
      let wide = ranges.header k i in
      let in_w : k.header < length w = omega (arith, f.stays_long, few_vertices _ (facts ok), ranges.last k i) in
      record {
        turns = now f.kept k.header x;
        ready = record { checked = ok; visits = r.visits; stays = capped_set w k.header y in_w (omega arith) r.stays };
        entries = f.entries;
        charges = f.charges;
        enters = f.enters;
        visits_long = f.visits_long;
        entries_long = f.entries_long;
        stays_long = length-set w _ _ ∙ f.stays_long;
        kept =
            kept_turn f.kept k.header x y (k.last + 1) in_w (omega arith) (omega arith)
            (λ m j q. rw (one_loop (rules_of ok) k.header j i q refl) whole);
        upto =
            turned (listing (edges_in l)) (rules_of ok) (order_of ok) (by_vertex charge) (by_header enter) cap k i (by_vertex d) (by_header e) f.turns
            (now f.kept k.header x) (λ m j q. now_other f.kept k.header x m q) f.upto
            (now_same f.kept k.header x k refl ∙ is ∙ turn_number_lem l charge enter d e w f.kept k);
      }
