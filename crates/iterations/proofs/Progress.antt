-- How a part of the vertices is filled, a vertex or a loop at a time.
use Prim.Native.Nat.{ℕ, ◌+◌, ◌-◌, ◌*◌, ◌≤◌, ◌<◌, min}
use mathlib.Core.Path.{◌≡◌, refl, sym, ap}
use mathlib.Core.List.{List, Memᴰ}
use mathlib.Core.Logic.{◌⊎◌, inl, inr}
use native.Mathlib.Omega.{arith}
use lib.ListN.{length, get_or, set}
use Rattle.model.specs.declared.Loop.{Loop}
use Rattle.model.specs.Graph.{loop}
use Rattle.model.specs.Operations.{Checked}
use Rattle.model.specs.Places as places
use Rattle.model.proofs.Cases.{by_order}
use Rattle.lookup.specs.Lists.{vertices_in, loops_in}
use Rattle.greatest.specs.Numbers.{NoHeader}
use Rattle.greatest.proofs.Rules.{one_loop}
use Rattle.chains.specs.Chains.{headers, BeginsAt}
use Rattle.stays.specs.Tables.{cap, by_header}
use Rattle.offers.specs.Offers.{visit_number, entry_number, turn_number}
use Rattle.iterations.specs.Filling.{Filling, Before, Since, After, ToLoop, PastLoop, Part, Partly}
use Rattle.lookup.proofs.Places.{few_vertices}
use Rattle.chains.proofs.Checks.{facts, rules_of, wide, LoopRange, loop_range, member, range_wide}
use Rattle.iterations.proofs.Growth.{fewer}
use Rattle.iterations.proofs.Stores.{store_visit, store_entry, store_turn}
use Rattle.iterations.proofs.Parts.{by_place}

module _ {l charge enter d e w : List ℕ} where
  -- Fewer loops are asked for.
  less : {x : ℕ} {done done' : Loop → Type 0} → ((k : Loop) → Memᴰ k (loops_in l) → done' k → done k) → Filling l charge enter d e w x done
      → Filling l charge enter d e w x done'
  less h f =
      record {
        turns = f.turns;
        ready = f.ready;
        entries = f.entries;
        charges = f.charges;
        enters = f.enters;
        visits_long = f.visits_long;
        entries_long = f.entries_long;
        stays_long = f.stays_long;
        kept = f.kept;
        upto = fewer h f.upto;
      }

module _ {l charge enter d e w : List ℕ} where
  -- Inside a loop nothing is filled yet.
  step_in : (h : ℕ) → Filling l charge enter d e w (h + 1) (Before h) → Filling l charge enter d e w (h + 1) (Since (h + 1) (h + 1))
  step_in h f = less go f
    where
      go : (k : Loop) → Memᴰ k (loops_in l) → Since (h + 1) (h + 1) k → Before h k
      go k i (inl s) = omega arith
      go k i (inr s) = let w = wide f.ready.checked k i in omega arith

module _ {l charge enter d e w : List ℕ} where
  -- A loop is entered, and its iteration ends.
  module _ {i header last : ℕ} (range : LoopRange l i header last) where
    pub enter_loop : {x : ℕ} → ToLoop l charge enter d e w (loop (loops_in l) i) → x ≡ entry_number l enter d w (loop (loops_in l) i)
        → Filling l charge enter (set d header (get_or charge header 0)) (set e header x) (set w header x) (header + 1) (Since (header + 1) (header + 1))
    enter_loop f is = rw range.at_header (step_in (headers l i) (store_entry (loop (loops_in l) i) (member range) f is))

    pub end_loop : {x y : ℕ} → Filling l charge enter d e w (last + 1) (Since (header + 1) (last + 1)) → x ≡ turn_number l d w (loop (loops_in l) i)
        → y ≡ min cap (get_or e header 0 + ((loop (loops_in l) i).bound - 1) * x) → PastLoop l charge enter d e (set w header y) (loop (loops_in l) i)
    unfolding by_header
    end_loop f is whole =
        rw range.at_header (store_turn (loop (loops_in l) i) (member range) (rw (range.at_header, range.at_last_lem) at f) is (rw range.at_header at whole))

  module _ {first to : ℕ} where
    pub begin : Part l first to → Filling l charge enter d e w first (Since first first) → Partly l charge enter d e w first to first
    begin part f = record { low = omega arith; high = part.order; whole = λ k i p q. absurd (omega arith); filling = f }

    pub finish : {v : ℕ} → Partly l charge enter d e w first to v → to ≤ v → Filling l charge enter d e w to (Since first to)
    finish {v} so_far over = let q : v ≡ to = omega (arith, so_far.high) in rw q at so_far.filling

-- A part is filled up to v, which is in it.
pub record AtVertex (l charge enter d e w : List ℕ) (first to v : ℕ) : Type 0 where
  pub part : Part l first to
  pub so_far : Partly l charge enter d e w first to v
  pub more : v < to

pub at_vertex : {l charge enter d e w : List ℕ} {first to v : ℕ} → Part l first to → Partly l charge enter d e w first to v → v < to
    → AtVertex l charge enter d e w first to v
at_vertex part so_far more = record { part = part; so_far = so_far; more = more }

module _ {l charge enter d e w : List ℕ} {first to v : ℕ} (at : AtVertex l charge enter d e w first to v) where
  pub filling_here : Filling l charge enter d e w v (Since first v)
  filling_here = at.so_far.filling

  ok : Checked l
  ok = filling_here.ready.checked

  below_vertices : v < vertices_in l
  below_vertices = omega (arith, at.part.end)

  pub vertex_small : v < places.most_vertices
  vertex_small = omega (arith, below_vertices, few_vertices l (facts ok))

  -- The loop that begins at v.
  pub loop_begun : {i count last : ℕ} → count ≡ length (loops_in l) → i < count → BeginsAt (loops_in l) v i → last ≡ (loop (loops_in l) i).last
      → LoopRange l i v last
  loop_begun {i} is below begins at_last =
      let listed : i < length (loops_in l) = rw is at below in
      loop_range ok listed (sym (begins.found listed)) at_last

  -- All loops before v are done.
  here : Filling l charge enter d e w v (Before v)
  here = less (λ k i s. by_order k.header first (λ p. outer k s (at.part.around k i p)) (λ p. inr (p, s))) filling_here
    where
      outer : (k : Loop) → Before v k → (k.last + 1 < first) ⊎ (to ≤ k.last + 1) → Since first v k
      outer k s (inl p) = inl p
      outer k s (inr p) = absurd (omega arith)

  pub past_visit : {x : ℕ} → NoHeader (loops_in l) v → x ≡ visit_number l charge d w v → Partly l charge enter (set d v x) e w first to (v + 1)
  past_visit plain is =
      record {
        low = omega arith;
        high = omega arith;
        whole = λ k i p q. omega (arith, ended k i p q);
        filling = less go (store_visit here below_vertices plain is);
      }
    where
      ended : (k : Loop) → Memᴰ k (loops_in l) → first ≤ k.header → k.header < v + 1 → k.last < v
      ended k i p q = at.so_far.whole k i p (omega (arith, plain k i))

      go : (k : Loop) → Memᴰ k (loops_in l) → Since first (v + 1) k → Before v k
      go k i (inl s) = omega (arith, at.so_far.low)
      go k i (inr s) = ended k i s.0 (omega (arith, wide ok k i))

  -- Loop i begins at v.
  module _ {i last : ℕ} (range : LoopRange l i v last) where
    pub here_loop : ToLoop l charge enter d e w (loop (loops_in l) i)
    here_loop = rw (← range.at_header) here

    inside_part : last < to
    inside_part = omega (arith, at.part.whole (loop (loops_in l) i) (member range) (omega (arith, at.so_far.low)) (omega arith))

    -- It is no longer than the part.
    pub loop_short : (loop (loops_in l) i).last + 1 - headers l i ≤ to - first
    loop_short = omega (arith, inside_part, at.so_far.low)

    pub past_loop : {d' e' w' : List ℕ} → PastLoop l charge enter d' e' w' (loop (loops_in l) i) → Partly l charge enter d' e' w' first to (last + 1)
    past_loop f =
        rw range.at_last_lem
        (record {
          low = omega (arith, at.so_far.low, range_wide range);
          high = omega (arith, inside_part);
          whole = ended;
          filling = less go f;
        })
      where
        ended : (x : Loop) → Memᴰ x (loops_in l) → first ≤ x.header → x.header < (loop (loops_in l) i).last + 1 → x.last < (loop (loops_in l) i).last + 1
        ended x j p r =
            let y = wide ok x j in
            let z = range_wide range in
            by_order x.header v
            (λ s. omega (arith, at.so_far.whole x j p s))
            (λ s.
            by_place ok (loop (loops_in l) i) x (member range) j
            (λ h. absurd (omega arith)) (λ h g. same x j (omega arith)) (λ h g. omega arith) (λ h. absurd (omega arith)))
          where
            same : (x : Loop) → Memᴰ x (loops_in l) → x.header ≡ headers l i → x.last < (loop (loops_in l) i).last + 1
            same x j h = omega (arith, ap (λ (y : Loop). y.last) (one_loop (rules_of ok) (headers l i) j (member range) h refl))

        go : (x : Loop) → Memᴰ x (loops_in l) → Since first ((loop (loops_in l) i).last + 1) x → After (headers l i) (loop (loops_in l) i).last x
        go x j (inl s) = inl (omega (arith, at.so_far.low))
        go x j (inr s) = by_order x.header v (λ p. inl (omega (arith, at.so_far.whole x j s.0 p))) (λ p. inr (omega arith, omega arith))
