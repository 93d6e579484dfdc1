-- A vertex that some loop holds is held by an outermost one.
use Prim.Native.Nat.{ℕ, zero, suc, ◌≤◌, ◌<◌}
use native.Mathlib.Omega.{arith}
use mathlib.Core.Path.{◌≡◌}
use mathlib.Core.Bool.{true, false, ◌&&◌}
use mathlib.Core.List.{List, Memᴰ}
use mathlib.Core.Logic.{◌⊎◌, inl, inr}
use lib.ListN.{length}
use lib.Dec.{ltb}
use borrow.Author.Tests.{ltb-true, not-false}
use Rattle.model.specs.declared.Loop.{Loop}
use Rattle.model.specs.Zero.{zero_loop}
use Rattle.model.specs.Graph.{holds, loop}
use Rattle.model.specs.Charges.{outside, outermost}
use Rattle.model.proofs.Cases.{by_bool, and_left, and_right}
use Rattle.model.proofs.Search.{some_below}
use Rattle.model.proofs.Lists.{mem-get_or}
use Rattle.greatest.proofs.Loops.{holds_from, holds_to}
use Rattle.greatest.proofs.Rules.{Order}

outside_some : (ls : List Loop) (v : ℕ) → outside ls v ≡ false → (l : Loop) × Memᴰ l ls × (holds l v ≡ true)
unfolding outside
outside_some ls v e =
    let (i, below, g) = some_below (length ls) (λ i. holds (loop ls i) v) (not-false _ e) in
    (loop ls i, mem-get_or ls i zero_loop below, g)

outermost_some : (ls : List Loop) (l : Loop) → outermost ls l ≡ false → (m : Loop) × Memᴰ m ls × (m.header < l.header) × (holds m l.header ≡ true)
unfolding outermost
outermost_some ls l e =
    let (i, below, g) = some_below (length ls) (λ i. ltb (loop ls i).header l.header && holds (loop ls i) l.header) (not-false _ e) in
    let m = loop ls i in
    (m, mem-get_or ls i zero_loop below, ltb-true m.header l.header (and_left (ltb m.header l.header) _ g), and_right (ltb m.header l.header) _ g)

-- Outwards from a loop that holds v.
module _ {Edge : ℕ → ℕ → Type 0} {ls : List Loop} {n : ℕ} (O : Order Edge ls n) (v : ℕ) where
  abbrev Found : Type 0
  Found = (m : Loop) × Memᴰ m ls × (holds m v ≡ true) × (outermost ls m ≡ true)

  outward : (f : ℕ) (l : Loop) → l.header < f → Memᴰ l ls → holds l v ≡ true → Found
  outward zero l s i g = absurd (omega arith)
  outward (suc f) l s i g =
      by_bool (outermost ls l) (λ o. (l, i, g, o))
      (λ o. let (m, j, lt, h) = outermost_some ls l o in on (outward f) m j lt h (O.nested m l j i lt))
    where
      on : ((m : Loop) → m.header < f → Memᴰ m ls → holds m v ≡ true → Found) → (m : Loop) → Memᴰ m ls → m.header < l.header
          → holds m l.header ≡ true → (m.last < l.header) ⊎ (l.last ≤ m.last) → Found
      on r m j lt h (inl x) = let y = holds_from m l.header h in absurd (omega arith)
      on r m j lt h (inr x) = let y = holds_from l v g in r m (omega arith) j (holds_to m v (omega arith) (omega arith))

  pub outer_of : outside ls v ≡ false → Found
  outer_of e = let (l, i, g) = outside_some ls v e in outward (suc l.header) l (omega arith) i g
