-- Parts of the vertices: how two loops lie to each other, the whole, and the inside of a loop.
use Prim.Native.Nat.{ℕ, ◌+◌, ◌≤◌, ◌<◌}
use mathlib.Core.Path.{◌≡◌, refl, ap}
use mathlib.Core.List.{List, Memᴰ}
use mathlib.Core.Logic.{◌⊎◌, inl, inr}
use native.Mathlib.Omega.{arith}
use lib.Dec.{eqb}
use borrow.Author.Tests.{eqb-true, eqb-false}
use Rattle.model.specs.declared.Loop.{Loop}
use Rattle.model.specs.Graph.{loop}
use Rattle.model.specs.Operations.{Checked}
use Rattle.model.proofs.Cases.{by_bool, by_order}
use Rattle.lookup.specs.Lists.{vertices_in, loops_in}
use Rattle.greatest.proofs.Rules.{one_loop}
use Rattle.greatest.proofs.Checked.{checked_ranges}
use Rattle.iterations.specs.Filling.{Part}
use Rattle.chains.proofs.Checks.{rules_of, order_of, wide, LoopRange, member}

module _ {l : List ℕ} (ok : Checked l) where
  -- How a loop lies to the loop k: before it, around it (or it is k), inside it, or behind it.
  pub by_place : {P : Type 0} (k x : Loop) → Memᴰ k (loops_in l) → Memᴰ x (loops_in l)
      → (x.last < k.header → P) → (x.header ≤ k.header → k.last ≤ x.last → P) → (k.header < x.header → x.last ≤ k.last → P) → (k.last < x.header → P)
      → P
  by_place {P} k x i j before around inside behind =
      by_order k.header x.header (λ p. later p ((order_of ok).nested k x i j p))
      (λ p. by_bool (eqb x.header k.header)
      (λ q. around p (omega (arith, ap (λ (y : Loop). y.last) (one_loop (rules_of ok) k.header j i (eqb-true x.header k.header q) refl))))
      (λ q. earlier p ((order_of ok).nested x k j i (omega (arith, eqb-false x.header k.header q)))))
    where
      later : k.header < x.header → (k.last < x.header) ⊎ (x.last ≤ k.last) → P
      later p (inl q) = behind q
      later p (inr q) = inside p q

      earlier : x.header ≤ k.header → (x.last < k.header) ⊎ (k.last ≤ x.last) → P
      earlier p (inl q) = before q
      earlier p (inr q) = around p q

  pub all_vertices : {n : ℕ} → n ≡ vertices_in l → Part l 0 n
  all_vertices is =
      record {
        order = omega arith;
        end = omega arith;
        around = λ x j s. absurd (omega arith);
        whole = λ x j s p. omega (arith, (checked_ranges l ok).last x j);
      }

-- The inside of a loop.
pub inside_loop : {l : List ℕ} {i header last : ℕ} → LoopRange l i header last → Part l (header + 1) (last + 1)
inside_loop {l} {i} range =
    let ok = range.checked in
    let k = loop (loops_in l) i in
    let w = wide ok k (member range) in
    rw (range.at_header, range.at_last_lem)
    (record {
      order = omega arith;
      end = omega (arith, (checked_ranges l ok).last k (member range));
      around = λ x j s.
          by_place ok k x (member range) j
          (λ p. inl (omega arith)) (λ p q. inr (omega arith)) (λ p q. absurd (omega arith)) (λ p. absurd (omega arith));
      whole = λ x j s p.
          let y = wide ok x j in
          by_place ok k x (member range) j
          (λ q. absurd (omega arith)) (λ q r. absurd (omega arith)) (λ q r. omega arith) (λ q. absurd (omega arith));
    })
