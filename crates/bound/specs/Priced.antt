-- What pricing a layout that fits says: the bound, or 14.
use Rattle.std.specs.Prelude.{ℕ, ◌≡◌, List, Err, Ok, Result}
use Rattle.model.specs.declared.Refusal.{Refusal}
use Rattle.model.specs.declared.Bound.{Bound}
use Rattle.model.specs.declared.Refusal.TheVariants.{BoundTooLarge}
use Rattle.model.specs.declared.Problem.{Problem}
use Rattle.model.specs.Results.{BoundIs, PastTheLimit}

abbrev pub Priced : Problem → List ℕ → Result Bound Refusal → Type 0
Priced p layout (Ok b) = BoundIs p layout b
Priced p layout (Err f) = (f ≡ BoundTooLarge 0) × PastTheLimit p layout
