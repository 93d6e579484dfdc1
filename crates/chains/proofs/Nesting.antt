-- Loops around one vertex lie inside each other, the later inside the earlier.
use Prim.Native.Nat.{ℕ, zero, suc, ◌≤◌, ◌<◌}
use mathlib.Core.Path.{◌≡◌, refl, sym, ap, ◌∙◌}
use mathlib.Core.List.{List}
use mathlib.Core.Bool.{true}
use native.Mathlib.Omega.{arith}
use lib.ListN.{length}
use Rattle.model.specs.declared.Loop.{Loop}
use Rattle.model.specs.Zero.{zero_loop}
use Rattle.model.specs.Graph.{holds, loop}
use Rattle.model.specs.Operations.{Checked}
use Rattle.model.proofs.Cases.{by_bool, by_order}
use Rattle.model.proofs.Lists.{index_of}
use Rattle.lookup.specs.Lists.{loops_in}
use Rattle.greatest.specs.Numbers.{NoHeader}
use Rattle.greatest.proofs.Loops.{holds_from, holds_to, holds_not}
use Rattle.greatest.proofs.Rules.{nested_at}
use Rattle.chains.specs.Chains.{last_below, around, headers}
use Rattle.chains.proofs.Checks.{rules_of, order_of, wide, loop_in, headers_ascend}
use Rattle.chains.proofs.Chains.{last_within, last_passes, last_least, last_same}

module _ {l : List ℕ} (ok : Checked l) where
  -- Loop j is before loop i, which holds u.
  module _ (i j u : ℕ) (below : i < length (loops_in l)) (earlier : j < i) (inner : holds (loop (loops_in l) i) u ≡ true) where
    ascending : headers l j < headers l i
    ascending = headers_ascend ok j i earlier below

    encloses : (w : ℕ) → holds (loop (loops_in l) i) w ≡ true → holds (loop (loops_in l) j) w ≡ true → (loop (loops_in l) i).last ≤ (loop (loops_in l) j).last
    encloses w h g = nested_at (rules_of ok) (order_of ok) (loop (loops_in l) j) (loop (loops_in l) i) w (loop_in ok j (omega arith)) (loop_in ok i below) g h ascending

    -- What loop i holds, loop j holds too if it holds one such vertex.
    pub holds_too : (v w : ℕ) → holds (loop (loops_in l) i) w ≡ true → holds (loop (loops_in l) j) w ≡ true → holds (loop (loops_in l) i) v ≡ true
        → holds (loop (loops_in l) j) v ≡ true
    holds_too v w h g f =
        let p = holds_from (loop (loops_in l) i) v f in
        let q = ascending in
        holds_to (loop (loops_in l) j) v (omega arith) (omega (arith, encloses w h g))

    header_held : holds (loop (loops_in l) i) (headers l i) ≡ true
    header_held = holds_to (loop (loops_in l) i) (headers l i) (omega arith) (wide ok (loop (loops_in l) i) (loop_in ok i below))

    agrees : around l (headers l i) j ≡ around l u j
    unfolding around
    agrees =
        by_bool (holds (loop (loops_in l) j) u)
        (λ g. holds_too (headers l i) u inner g header_held ∙ sym g)
        (λ g.
        by_bool (holds (loop (loops_in l) j) (headers l i))
        (λ h. holds_not (loop (loops_in l) j) u (holds_too u (headers l i) header_held h inner) g)
        (λ h. h ∙ sym g))

  -- So the chain of u goes on from loop i as that of its header does.
  pub chain_on : (i u : ℕ) → i < length (loops_in l) → holds (loop (loops_in l) i) u ≡ true → last_below (around l (headers l i)) i ≡ last_below (around l u) i
  chain_on i u below inner = last_same (around l (headers l i)) (around l u) i (λ j h. agrees i j u below h inner)

  -- The last loop that holds v is the one that begins at v, if one does.
  pub begins_last : (v : ℕ) {next : ℕ} → next ≡ last_below (around l v) (length (loops_in l)) → ((i : ℕ) → next ≡ suc i → headers l i ≡ v → ⊥) → NoHeader (loops_in l) v
  unfolding around
  begins_last v {next} is other k m q =
      let (j, h, e) = index_of zero_loop m in
      let at : headers l j ≡ v = ap (λ (x : Loop). x.header) e ∙ q in
      let w = wide ok (loop (loops_in l) j) (loop_in ok j h) in
      let over : j < next = omega (arith, last_least (around l v) (length (loops_in l)) j h (holds_to (loop (loops_in l) j) v (omega arith) (omega arith))) in
      go j h at over next refl
    where
      go : (j : ℕ) → j < length (loops_in l) → headers l j ≡ v → j < next → (n : ℕ) → n ≡ next → ⊥
      go j h at over zero z = omega arith
      go j h at over (suc i) z =
          let inside : i < length (loops_in l) = omega (arith, last_within (around l v) (length (loops_in l))) in
          let p = holds_from (loop (loops_in l) i) v (last_passes (around l v) (length (loops_in l)) i (sym is ∙ sym z)) in
          by_order j i
          (λ less. omega (arith, headers_ascend ok j i less inside))
          (λ more. let s : i ≡ j = omega arith in other i (sym z) (ap (headers l) s ∙ at))
