-- What a reason says of runs: the visit at the end of a walk that is shown loads, and where the reason is 3 no visit does.
use Prim.Native.Nat.{ℕ}
use mathlib.Core.Path.{◌≡◌, ap, ◌∙◌}
use mathlib.Core.List.{List, ◌∷◌, reverse, Memᴰ}
use mathlib.Core.Bool.{true, false}
use Rattle.std.specs.Prelude.{Option}
use borrow.Author.Tests.{ne_eqb}
use Rattle.model.specs.declared.Reason.TheVariants.{EveryVisit, FirstLoad, Never}
use Rattle.model.specs.Walks.{Walk}
use Rattle.model.specs.Interference.{since, occurs}
use Rattle.model.specs.Runs.{held, is_held, hit}
use Rattle.model.specs.Evictions.{EvictionBy}
use Rattle.model.proofs.Cases.{by_bool}
use Rattle.sound.proofs.Flow.{since_ne}
use Rattle.sound.proofs.Held.{since_held, unvisited_unheld}
use Rattle.sound.proofs.Sound.{kept}

module _ (fn : ℕ → ℕ) (Edge : ℕ → ℕ → Type 0) (region : ℕ → ℕ) (v : ℕ) where
  -- The walk arrives at v and finds its function not held.
  abbrev Loads : List ℕ → Type 0
  Loads walk = (h : List ℕ) × (walk ≡ reverse (v ∷ h)) × Walk Edge v h × (hit fn region v h ≡ false)

  since_loads : (g : ℕ) → region g ≡ region (fn v) → (h : List ℕ) → Memᴰ g (since fn (fn v) h) → hit fn region v h ≡ false
  since_loads g same h member =
      let (x, other, is) = since_held fn region (fn v) g h same member in
      ap (λ (o : Option ℕ). is_held fn region o (fn v)) is ∙ ne_eqb x (fn v) other

  pub shown_loads : (g : ℕ) (walk : List ℕ) → EvictionBy fn Edge region v (EveryVisit g) walk → Loads walk
  shown_loads g walk (evicts, lowest, shown) =
      (shown.history, shown.is, shown.arrives, since_loads g evicts.1 shown.history shown.good)

  pub first_loads_lem : (walk : List ℕ) → EvictionBy fn Edge region v FirstLoad walk → Loads walk
  first_loads_lem walk (early, shown) =
      (shown.history, shown.is, shown.arrives, unvisited_unheld fn region (fn v) (region (fn v)) shown.history shown.good)

  pub never_loads : (walk : List ℕ) → EvictionBy fn Edge region v Never walk → (h : List ℕ) → Walk Edge v h → hit fn region v h ≡ true
  never_loads walk (free, known, none) h arrives =
      by_bool (occurs fn (fn v) h)
      (λ visited. kept fn region (fn v) h visited (λ g member same. free (g, (since_ne fn (fn v) g h member, (h, arrives, member)), same)))
      (λ fresh. absurd (known (h, arrives, fresh)))
