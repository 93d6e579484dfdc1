-- What an edge leaves, loop by loop, in numbers that are kept up to the cap.
use Prim.Native.Nat.{ℕ, zero, suc, ◌+◌, ◌≤◌, ◌<◌, min}
use mathlib.Core.Path.{◌≡◌, refl, sym, ◌∙◌}
use mathlib.Core.List.{List}
use mathlib.Core.Bool.{Bool, true, false}
use native.Mathlib.Omega.{arith}
use lib.ListN.{length, get_or, take}
use lib.Seq.{take_all}
use Rattle.model.specs.declared.Loop.{Loop}
use Rattle.model.specs.Graph.{holds, loop}
use Rattle.model.specs.Walks.{sum}
use Rattle.model.specs.Places as places
use Rattle.model.proofs.Cases.{by_bool, by_order}
use Rattle.lookup.specs.Lists.{loops_in}
use Rattle.lookup.specs.Plain.{range_of}
use Rattle.greatest.proofs.Sums.{sum_take}
use Rattle.stays.specs.Tables.{cap, by_header}
use Rattle.stays.specs.Leaving.{left_of, leaving}
use Rattle.chains.specs.Chains.{last_below, around, LoopChains}
use Rattle.chains.proofs.Chains.{last_within, last_passes, last_skip}
use Rattle.chains.proofs.Checks.{LoopRange}
use Rattle.chains.proofs.Nesting.{holds_too, chain_on}

module _ (w : List ℕ) (u v : ℕ) (k : Loop) where
  left_outside : holds k u ≡ false → left_of w u v k ≡ 0
  unfolding left_of
  left_outside out = rw out

  left_within : holds k u ≡ true → holds k v ≡ true → left_of w u v k ≡ 0
  unfolding left_of
  left_within in_u in_v = rw (in_u, in_v)

  -- It is left, its header given by a number.
  left_behind : {header : ℕ} → header ≡ k.header → holds k u ≡ true → holds k v ≡ false → left_of w u v k ≡ get_or w header 0
  unfolding left_of by_header
  left_behind at_header in_u out = rw (in_u, out, at_header)

module _ (l w : List ℕ) (u v : ℕ) where
  -- What the edge from u to v leaves of the first i loops.
  unfoldable pub left_so_far : ℕ → ℕ
  left_so_far i = sum (left_of w u v) (take i (loops_in l))

  left_none : left_so_far 0 ≡ 0
  unfolding left_so_far sum
  left_none = refl

  left_next : (i : ℕ) → i < length (loops_in l) → left_so_far (suc i) ≡ left_so_far i + left_of w u v (loop (loops_in l) i)
  unfolding left_so_far
  left_next i below = sum_take (left_of w u v) (loops_in l) i below

  left_of_all : left_so_far (length (loops_in l)) ≡ leaving l w u v
  unfolding left_so_far leaving
  left_of_all = rw (take_all (length (loops_in l)) (loops_in l) (omega arith))

  -- Loops that do not hold u add nothing, so that only those in the chain count.
  left_last : (m : ℕ) → m ≤ length (loops_in l) → left_so_far m ≡ left_so_far (last_below (around l u) m)
  unfolding around
  left_last m inside =
      last_skip (around l u) left_so_far m (λ i h out. omega (arith, left_next i (omega arith), left_outside w u v (loop (loops_in l) i) out))

  -- The chain of u is followed down to `next`: what is left so far, and what the loops from there on add.
  pub record Left (so_far next : ℕ) : Type 0 where
    pub within : next ≤ length (loops_in l)
    pub holding : (i : ℕ) → next ≡ suc i → holds (loop (loops_in l) i) u ≡ true
    pub most : so_far ≤ cap
    pub rest : min cap (so_far + left_so_far next) ≡ min cap (leaving l w u v)

  -- The chain goes on at the last loop that holds u among the first m.
  on_at_last : {so_far next m : ℕ} → m ≤ length (loops_in l) → next ≡ last_below (around l u) m → so_far ≤ cap
      → min cap (so_far + left_so_far m) ≡ min cap (leaving l w u v) → Left so_far next
  unfolding around
  on_at_last {m = m} inside is most rest =
      record {
        within = omega (arith, last_within (around l u) m);
        holding = λ i q. last_passes (around l u) m i (sym is ∙ q);
        most = most;
        rest = rw (is, ← left_last m inside) rest;
      }

  pub left_start : {loops : List ℕ} → LoopChains l loops → u < places.most_vertices → Left 0 (get_or loops u 0)
  left_start chains inside = on_at_last (omega arith) (chains.last u inside) (omega arith) (omega (arith, left_of_all))

  pub left_all : {so_far next : ℕ} → next ≤ 0 → Left so_far next → so_far ≡ min cap (leaving l w u v)
  left_all {so_far} {next} over f = let q : next ≡ 0 = omega arith in omega (arith, left_none, rw q at f.rest, f.most)

  -- At loop i of the chain.
  module _ {i so_far next header last : ℕ} (range : LoopRange l i header last) (q : next ≡ suc i) (f : Left so_far next)
      {in_v : Bool} (told : in_v ≡ holds (range_of header last) v) where
    v_held : {answer : Bool} → in_v ≡ answer → holds (loop (loops_in l) i) v ≡ answer
    v_held is = rw (← range.at_header, ← range.at_last_lem) (sym told ∙ is)

    -- It holds v, and so do the loops around it: nothing more is left.
    none_from : holds (loop (loops_in l) i) v ≡ true → (m : ℕ) → m ≤ suc i → left_so_far m ≡ 0
    none_from in_v zero h = left_none
    none_from in_v (suc j) h = omega (arith, left_next j (omega arith), none_from in_v j (omega arith), nothing)
      where
        nothing : left_of w u v (loop (loops_in l) j) ≡ 0
        nothing =
            by_bool (holds (loop (loops_in l) j) u)
            (λ g.
            left_within w u v (loop (loops_in l) j) g
            (by_order j i
            (λ less. holds_too range.checked i j u range.below less (f.holding i q) v u (f.holding i q) g in_v)
            (λ more. let z : j ≡ i = omega arith in rw z in_v)))
            (λ g. left_outside w u v (loop (loops_in l) j) g)

    pub left_stop : in_v ≡ true → so_far ≡ min cap (leaving l w u v)
    left_stop is = omega (arith, none_from (v_held is) (suc i) (omega arith), rw q at f.rest, f.most)

    -- It is left, and the chain goes on.
    pub left_more : {loops : List ℕ} {now : ℕ} → LoopChains l loops → in_v ≡ false → now ≡ min cap (so_far + get_or w header 0)
        → Left now (get_or loops (places.most_vertices + i) 0)
    left_more chains is r =
        let below = range.below in
        on_at_last (omega arith) (chains.link i below ∙ chain_on range.checked i u below (f.holding i q)) (omega arith)
        (omega (arith, left_next i below, left_behind w u v (loop (loops_in l) i) range.at_header (f.holding i q) (v_held is), rw q at f.rest))
