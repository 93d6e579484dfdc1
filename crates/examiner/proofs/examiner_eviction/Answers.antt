-- `examiner_eviction` meets its contract: Read's refusal stands, or Eviction's answer on the problem is told.
use mathlib.Core.Path.{◌≡◌, refl}
use Rattle.model.specs.Outcomes.{refusal_outcome, Evicted}
use Rattle.examiner.proofs.Told.{right_refused}
use Rattle.examiner.proofs.examiner_eviction.Goals as goal

pub returns-in-Err : goal.returns-in-Err
returns-in-Err c =
    let o = refusal_outcome c.in-Err.refusal in
    record {
      outcome = o;
      says = right_refused _ _ _ c.in-Err.ensures (λ p. Evicted p c.args.layout.now c.args.vertex c.args.walk.now c.args.walk.now o) (λ f. (o ≡ refusal_outcome f) × (c.args.walk.now ≡ c.args.walk.now)) _ refl (refl, refl);
      status_is = c.refuse.ensures.fact_1;
      answer_is = c.refuse.ensures.fact_2;
    }
