-- What Bound answers where the bytes needed, the contested vertices, the first loads, the greatest visit charges and the greatest second total are found.
use Rattle.std.specs.Prelude.{ℕ, ◌+◌, ◌-◌, min, cond, ltb, Err, Ok, Result}
use Rattle.model.specs.declared.Refusal.{Refusal}
use Rattle.model.specs.declared.Bytes.{Bytes}
use Rattle.model.specs.declared.Cycles.{Cycles}
use Rattle.model.specs.declared.Bound.{Bound}
use Rattle.model.specs.declared.Refusal.TheVariants.{BoundTooLarge}
use Rattle.model.specs.Results.{bound_limit}

-- The smaller of two totals: the greatest visit charges with the first loads, and the greatest second total.
abbrev pub smaller : Cycles → Cycles → Cycles → ℕ
smaller first greatest second = min (greatest.0 + first.0) second.0

module _ (need : Bytes) (contested : ℕ) (first greatest second : Cycles) where
  -- As first loads it shows what the bound has above the greatest visit charges.
  abbrev pub with_total : Bound
  with_total = record {
    need = need;
    contested = contested;
    first = record { 0 = smaller first greatest second - greatest.0 };
    bound = record { 0 = smaller first greatest second };
  }

  -- The total, or 14 where it passes the limit.
  abbrev pub totalled : Result Bound Refusal
  totalled = cond (ltb bound_limit (smaller first greatest second)) (Err (BoundTooLarge 0)) (Ok with_total)
