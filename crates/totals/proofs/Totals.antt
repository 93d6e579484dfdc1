-- A total within the limit is told, and one past it is 14.
use Prim.Native.Nat.{ℕ, ◌-◌, ◌≤◌, ◌<◌}
use Rattle.std.specs.Prelude.{Err, Ok}
use mathlib.Core.Path.{◌≡◌}
use borrow.Author.Tests.{lt-ltb, le-ltb}
use Rattle.model.specs.declared.Bytes.{Bytes}
use Rattle.model.specs.declared.Cycles.{Cycles}
use Rattle.model.specs.declared.Refusal.TheVariants.{BoundTooLarge}
use Rattle.model.specs.Results.{bound_limit}
use Rattle.totals.specs.Totals.{smaller, totalled}

module _ (need : Bytes) (contested : ℕ) (first greatest second bound : Cycles) (is : bound.0 ≡ smaller first greatest second) where
  pub past : bound_limit < bound.0 → Err (BoundTooLarge 0) ≡ totalled need contested first greatest second
  past over = rw (← is, lt-ltb bound_limit bound.0 over)

  pub within : bound.0 ≤ bound_limit →
      Ok (record { need = need; contested = contested; first = record { 0 = bound.0 - greatest.0 }; bound = bound })
      ≡ totalled need contested first greatest second
  within low = rw (← is, le-ltb bound_limit bound.0 low)
