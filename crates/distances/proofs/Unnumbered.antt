-- How many states have no number yet: all at first, and one fewer with each that gets one.
use Prim.Native.Nat.{ℕ, zero, suc, ◌≤◌, ◌<◌}
use mathlib.Core.Path.{◌≡◌, refl, ap}
use mathlib.Core.List.{List, [], ◌∷◌}
use native.Mathlib.Omega.{arith}
use lib.ListN.{length, get_or, set, replicate}
use borrow.Author.Tests.{lt-ltb, le-ltb}
use Rattle.model.proofs.Cases.{by_order}
use Rattle.ways.specs.Ways.{no_way}
use Rattle.distances.specs.Searching.{unnumbered}

pub none_numbered : (n : ℕ) → unnumbered (replicate n no_way) ≡ n
unfolding unnumbered
none_numbered zero = refl
none_numbered (suc n) = ap suc (none_numbered n)

pub one_fewer : (d : List ℕ) (i x : ℕ) → i < length d → no_way ≤ get_or d i 0 → x < no_way → unnumbered d ≡ suc (unnumbered (set d i x))
unfolding unnumbered
one_fewer [] i x inside none few = absurd (omega arith)
one_fewer (y ∷ d) zero x inside none few = rw (le-ltb y no_way none, lt-ltb x no_way few)
one_fewer (y ∷ d) (suc i) x inside none few =
    let fewer = one_fewer d i x (omega arith) none few in
    by_order y no_way (λ low. rw (lt-ltb y no_way low) fewer) (λ high. rw (le-ltb y no_way high) (ap suc fewer))
