-- Laws of the rules one after the other.
use mathlib.Core.Path.{◌≡◌, sym, ap, ◌∙◌}
use Rattle.std.specs.Prelude.{Err, Ok}
use Rattle.model.specs.Refusals.{Verdict}
use Rattle.model.specs.declared.Refusal.{Refusal}
use Rattle.model.specs.Graph.{and_then}

-- A rule that refuses ends the judgement, and one that accepts leaves it to the next.
module _ {v v' : Verdict} (next : Verdict) (is : v ≡ v') where
  pub stops : {f : Refusal} → v ≡ Err f → v ≡ and_then v' next
  stops {f} e = e ∙ ap (λ (w : Verdict). and_then w next) (sym e ∙ is)

  pub goes : v ≡ Ok tt → next ≡ and_then v' next
  goes e = ap (λ (w : Verdict). and_then w next) (sym e ∙ is)
