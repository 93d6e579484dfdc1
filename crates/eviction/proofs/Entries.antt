-- The walk by numbers at rest has one entry more than the steps from vertex 0: so its length is known before an entry is written.
use Prim.Native.Nat.{ℕ, ◌+◌, ◌≤◌, ◌<◌}
use Rattle.std.specs.Prelude.{Err, Ok}
use mathlib.Core.Path.{◌≡◌, refl, ap}
use mathlib.Core.List.{List, ◌∷◌}
use native.Mathlib.Omega.{arith}
use lib.ListN.{length, get_or}
use Rattle.model.specs.declared.Refusal.TheVariants.{BufferTooShort}
use Rattle.model.specs.declared.Reason.{Reason}
use Rattle.model.specs.Numbers.{problem_of}
use Rattle.ways.specs.Ways.{no_way, Falls}
use Rattle.ways.proofs.Turns.{first_steps}
use Rattle.ways.proofs.Exact.{falls_long}
use Rattle.ways.proofs.Falling.{falls_from}
use Rattle.ways.proofs.Known.{edges_small}
use Rattle.following.specs.Following.{Leading, Followable, Followed}
use Rattle.eviction.specs.Showing.{Lent, Showed}

module _ {l begins : List ℕ} {f g : ℕ} {d : List ℕ} {s : ℕ} (leading : Leading l begins f g d s) where
  pub steps_few : get_or d s 0 < no_way
  steps_few = omega (arith, first_steps d s, leading.way)

  entries : (ws : List ℕ) → Falls (problem_of l) f g d s 0 ws → get_or d s 0 + 1 ≡ length (0 ∷ ws)
  entries ws falls =
      omega (
        arith,
        first_steps d s,
        falls_long (problem_of l) f g leading.goal d (edges_small l leading.checked) leading.at_rest ws s 0 falls,
      )

  pub followable : (room : ℕ) → get_or d s 0 + 1 ≤ room → Followable l begins f g d s room
  followable room enough = record { leading = leading; enough = omega (arith, first_steps d s) }

  module _ (reason : Reason) (before : List ℕ) where
    pub too_short : length before < get_or d s 0 + 1 → Showed (problem_of l) f g d s reason before before (Err (BufferTooShort (get_or d s 0 + 1)))
    unfolding Lent
    too_short short =
        let (ws, falls) =
        falls_from (problem_of l) f g leading.goal d (edges_small l leading.checked) leading.at_rest 0 s (omega arith) leading.low leading.way in
        (ws, falls, (refl, omega (arith, entries ws falls), ap BufferTooShort (entries ws falls)))

    pub showed : get_or d s 0 + 1 ≤ length before → (after : List ℕ) → Followed (problem_of l) f g d s before after →
        Showed (problem_of l) f g d s reason before after (Ok (record { reason = reason; count = get_or d s 0 + 1 }))
    unfolding Lent
    showed enough after (ws, falls, is) = (ws, falls, (refl, entries ws falls, omega (arith, entries ws falls), is))
