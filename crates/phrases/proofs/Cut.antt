-- Cut where they begin, texts that stand one after another are themselves.
use Prim.Native.Nat.{ℕ, zero, suc, ◌+◌, ◌-◌, ◌≤◌, ◌<◌}
use Prim.Native.String.{String}
use native.Mathlib.Omega.{arith}
use mathlib.Core.Path.{◌≡◌, refl, ap, ◌∙◌, subst}
use mathlib.Core.List.{List, [], ◌∷◌, ◌++◌}
use lib.ListN.{length, get_or, take, drop, length-append}
use lib.Seq.{take_at, drop-append-add}
use Rattle.model.specs.Decimals.{text}
use Rattle.model.specs.Refusals.{last_refusal}
use Rattle.model.specs.Sentences.{phrases, phrase}
use Rattle.phrases.specs.Joined.{join, starts_from, joined, starts}

first_start : (at : ℕ) (ps : List String) → get_or (starts_from at ps) 0 0 ≡ at
unfolding starts_from
first_start at [] = refl
first_start at (p ∷ rest) = refl

-- The texts stand from `at` on, and the k-th of them from `from` to `to`.
record CutAs (ps : List String) (at k from to : ℕ) : Type 0 where
  low : at ≤ from
  ordered : from ≤ to
  high : to ≤ at + length (join ps)
  is : take (to - from) (drop (from - at) (join ps)) ≡ text (get_or ps k "")

cut_as : (ps : List String) (at k : ℕ) → k < length ps → CutAs ps at k (get_or (starts_from at ps) k 0) (get_or (starts_from at ps) (suc k) 0)
unfolding starts_from join
cut_as [] at k h = absurd (omega arith)
cut_as (p ∷ rest) at zero h = first (get_or (starts_from (at + length (text p)) rest) 0 0) (first_start (at + length (text p)) rest)
  where
    first : (to : ℕ) → to ≡ at + length (text p) → CutAs (p ∷ rest) at 0 at to
    first to e =
        let z : at - at ≡ 0 = omega arith in
        record {
          low = omega arith;
          ordered = omega arith;
          high = omega (arith, length-append (text p) (join rest));
          is = rw z (take_at (text p) (join rest) (to - at) (omega arith));
        }
cut_as (p ∷ rest) at (suc k) h = later _ _ (cut_as rest (at + length (text p)) k (omega arith))
  where
    later : (from to : ℕ) → CutAs rest (at + length (text p)) k from to → CutAs (p ∷ rest) at (suc k) from to
    later from to c =
        let e : from - at ≡ length (text p) + (from - (at + length (text p))) = omega (arith, c.low) in
        record {
          low = omega (arith, c.low);
          ordered = c.ordered;
          high = omega (arith, c.high, length-append (text p) (join rest));
          is = ap (take (to - from)) (ap (λ (n : ℕ). drop n (text p ++ join rest)) e ∙ drop-append-add (text p) (join rest) (from - (at + length (text p)))) ∙ c.is;
        }

-- A phrase in the table, from `from` to `to`.
record Stands (n from to : ℕ) : Type 0 where
  ordered : from ≤ to
  high : to ≤ length joined
  is : take (to - from) (drop from joined) ≡ phrase n

stands : (n : ℕ) → 1 ≤ n → n ≤ last_refusal → Stands n (get_or starts (n - 1) 0) (get_or starts n 0)
unfolding joined starts phrase phrases
stands n low high =
    let e : suc (n - 1) ≡ n = omega arith in
    at (get_or starts (n - 1) 0) (get_or starts n 0)
    (subst (λ (m : ℕ). CutAs phrases 0 (n - 1) (get_or starts (n - 1) 0) (get_or starts m 0)) e (cut_as phrases 0 (n - 1) (omega arith)))
  where
    at : (from to : ℕ) → CutAs phrases 0 (n - 1) from to → Stands n from to
    at from to c =
        let z : from - 0 ≡ from = omega arith in
        record { ordered = c.ordered; high = omega (arith, c.high); is = rw z at c.is }

pub in_table : (n : ℕ) (table : List ℕ) → (table ≡ joined) × (1 ≤ n) × (n ≤ last_refusal) →
    (get_or starts (n - 1) 0 ≤ get_or starts n 0) × (get_or starts n 0 ≤ length table) × (take (get_or starts n 0 - get_or starts (n - 1) 0) (drop (get_or starts (n - 1) 0) table) ≡ phrase n)
in_table n table (e, low, high) = let s = stands n low high in (s.ordered, rw e s.high, rw e s.is)
