-- What the chains of the loops tell: that no loop holds a vertex, and that a loop is outermost.
use Prim.Native.Nat.{ℕ, zero, suc, ◌+◌, ◌≤◌, ◌<◌}
use mathlib.Core.Path.{◌≡◌, refl}
use mathlib.Core.List.{List}
use mathlib.Core.Bool.{Bool, true, not, ◌&&◌}
use native.Mathlib.Omega.{arith}
use lib.ListN.{length, get_or}
use lib.Dec.{ltb}
use borrow.Author.Tests.{lt-ltb, ltb-true}
use Rattle.model.specs.Graph.{holds, loop}
use Rattle.model.specs.Operations.{Checked}
use Rattle.model.specs.Places as places
use Rattle.model.specs.Search.{exists_below}
use Rattle.model.specs.Charges.{outside, outermost}
use Rattle.model.proofs.Cases.{by_order, by_same, same_bool, and_left, and_right}
use Rattle.model.proofs.Search.{some_below, exists_at}
use Rattle.sound.proofs.Tests.{and_both}
use Rattle.lookup.specs.Lists.{loops_in}
use Rattle.chains.specs.Chains.{last_below, around, headers, LoopChains}
use Rattle.chains.proofs.Chains.{last_within, last_passes, last_least}
use Rattle.chains.proofs.Checks.{headers_ascend}

-- A number below n passes just where the last one that does is not 0.
some_last : (test : ℕ → Bool) (n : ℕ) → exists_below n test ≡ ltb 0 (last_below test n)
some_last test n =
    same_bool (exists_below n test) (ltb 0 (last_below test n))
    (λ e. let (i, below, passes) = some_below n test e in lt-ltb 0 (last_below test n) (omega (arith, last_least test n i below passes)))
    (λ e. some (last_below test n) (ltb-true 0 (last_below test n) e) (last_within test n) (last_passes test n))
  where
    some : (last : ℕ) → 0 < last → last ≤ n → ((i : ℕ) → last ≡ suc i → test i ≡ true) → exists_below n test ≡ true
    some zero low high passes = absurd (omega arith)
    some (suc i) low high passes = exists_at n test i (omega arith) (passes i refl)

module _ (l loops : List ℕ) (chains : LoopChains l loops) where
  pub outside_told : (v : ℕ) → v < places.most_vertices → outside (loops_in l) v ≡ not (ltb 0 (get_or loops v 0))
  unfolding outside around
  outside_told v inside = rw (chains.last v inside, some_last (around l v) (length (loops_in l)))

  module _ (ok : Checked l) (i : ℕ) (below : i < length (loops_in l)) where
    abbrev before : ℕ → Bool
    before j = ltb (headers l j) (headers l i) && holds (loop (loops_in l) j) (headers l i)

    -- Headers ascend: a loop that begins before loop i is one of lower number.
    lower : (j : ℕ) → j < length (loops_in l) → headers l j < headers l i → j < i
    lower j listed less =
        by_order j i (λ h. h)
        (λ over. by_same i j (λ same. let x : headers l i < headers l i = rw (← same) at less in absurd (omega arith)) (λ ne. absurd (omega (arith, ne, headers_ascend ok i j (omega (arith, ne)) listed))))

    same_loops : exists_below (length (loops_in l)) before ≡ exists_below i (around l (headers l i))
    unfolding around
    same_loops =
        same_bool (exists_below (length (loops_in l)) before) (exists_below i (around l (headers l i)))
        (λ e.
        let (j, listed, passes) = some_below (length (loops_in l)) before e in
        let less = ltb-true (headers l j) (headers l i) (and_left (ltb (headers l j) (headers l i)) _ passes) in
        exists_at i (around l (headers l i)) j (lower j listed less) (and_right (ltb (headers l j) (headers l i)) _ passes))
        (λ e.
        let (j, less, passes) = some_below i (around l (headers l i)) e in
        exists_at (length (loops_in l)) before j (omega arith) (and_both _ _ (lt-ltb (headers l j) (headers l i) (headers_ascend ok j i less below)) passes))

    pub outermost_told : outermost (loops_in l) (loop (loops_in l) i) ≡ not (ltb 0 (get_or loops (places.most_vertices + i) 0))
    unfolding outermost
    outermost_told = rw (chains.link i below, same_loops, some_last (around l (headers l i)) i)
