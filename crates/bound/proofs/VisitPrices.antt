-- A visit's price by the flags that Bound fills, own cost plus flags times check cost and load cost, is the visit charge.
use Prim.Native.Nat.{ℕ, ◌<◌}
use Rattle.std.specs.Prelude.{Ok}
use mathlib.Core.Path.{◌≡◌, refl, sym}
use mathlib.Core.List.{List}
use mathlib.Core.Bool.{Bool}
use borrow.Author.Tests.{lt-ltb}
use Rattle.model.specs.declared.Bound.{Bound}
use Rattle.model.specs.Numbers.{problem_of}
use Rattle.model.specs.Operations.{Checked}
use Rattle.model.specs.Layouts.{filled_in}
use Rattle.model.specs.Charges.{Told, visit_charge}
use Rattle.model.specs.Results.{BoundSays}
use Rattle.model.proofs.Cases.{same_bool}
use Rattle.model.proofs.Told.{told_alike}
use Rattle.sound.specs.Decide.{contested_test}
use Rattle.filled.proofs.Filled.{same_regions}
use Rattle.layout.proofs.FilledIn.{accepted_short}
use Rattle.rivals.specs.Rivals.{RivalTable}
use Rattle.held.specs.Flow.{HeldTable}
use Rattle.entered.specs.Entered.{EnteredTold}
use Rattle.charges.specs.Tests.{contested_by, shared_test, Tallied, price}
use Rattle.charges.proofs.Prices.{price_is_visit_charge}
use Rattle.early.proofs.Told.{shared_contested}

module _ {l rivals held : List ℕ} (checked : Checked l) (is_held_lem : HeldTable (problem_of l) rivals held) where
  -- The tables tell contested vertices as every test does that says what the definition says.
  told_contested :
      {regions : List ℕ} {contested early cold : ℕ → Bool} → RivalTable (problem_of l) regions rivals → Told (problem_of l) regions contested early cold →
      (v : ℕ) → v < (problem_of l).vertex_count → contested_by (problem_of l) rivals held v ≡ contested v
  unfolding contested_by contested_test
  told_contested {regions} {contested} is_rivals told v below =
      let (to, from) = shared_contested checked regions rivals held is_rivals is_held_lem v below in
      rw (lt-ltb v (problem_of l).vertex_count below)
      (same_bool (shared_test rivals held (problem_of l) v) (contested v) (λ e. told.contested_all v (to e)) (λ e. from (told.contested_is v e)))

  -- Bound fills the tables for the layout filled in. Wherever it gives a bound, at every vertex the price is the visit charge by that bound's contested vertices.
  pub bound_prices :
      {layout entered flags : List ℕ} {tally : ℕ} {b : Bound} → RivalTable (problem_of l) (filled_in layout (problem_of l).function_count) rivals →
      EnteredTold (problem_of l) entered → Tallied (problem_of l).vertex_count (contested_by (problem_of l) rivals held) flags tally →
      (says : BoundSays (problem_of l) layout (Ok b)) →
      (v : ℕ) → v < (problem_of l).vertex_count → price (problem_of l) entered flags v ≡ visit_charge (problem_of l) says.1.contested v
  unfolding visit_charge
  bound_prices {layout} {entered} {flags} is_rivals told marked says v below =
      let same = same_regions layout (problem_of l).function_count (accepted_short (problem_of l) layout says.0) in
      rw (← told_contested is_rivals (told_alike refl refl (sym same) says.1.told) v below)
      (price_is_visit_charge (problem_of l) entered flags told marked.told v below)
