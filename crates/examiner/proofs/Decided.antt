-- The contracts of the exports of Interference, Bound, Eviction and Read-sentence leave nothing open: no two outcomes meet them.
use Prim.Native.Nat.{ℕ, ◌^◌, ◌<◌}
use Rattle.std.specs.Prelude.{Err, Ok, Result}
use Rattle.model.specs.declared.Refusal.{Refusal}
use Rattle.model.specs.declared.Problem.{Problem}
use mathlib.Core.Path.{◌≡◌, sym, ap, ◌∙◌}
use mathlib.Core.List.{List}
use lib.ListN.{get_or}
use Rattle.model.specs.Operations.{read_file}
use Rattle.bound.proofs.Decided.{bound_decided}
use Rattle.eviction.proofs.Decided.{eviction_decided}
use Rattle.interference.proofs.Decided.{interference_decided}
use Rattle.sentences.proofs.Claims.{sentence_decided}
use Rattle.model.specs.Outcomes.{Outcome, refusal_outcome, interference_outcome, bound_outcome, eviction_outcome, sentence_outcome, FillsWords, IsBounded, Evicted, Understood}
use Rattle.outcomes.specs.Outcomes.{status, answer_after, Right, ByRead}
use Rattle.examiner.specs.Exports.{BoundTold, InterferenceTold, EvictionTold}

-- What is told of right outcomes is the same, where the outcomes are.
told_once : (Says Says' : Outcome → Type 0) → ((o o' : Outcome) → Says o → Says' o' → o ≡ o') → (before after after' : List ℕ) (r r' : ℕ) →
    Right Says before after r → Right Says' before after' r' → (r ≡ r') × (after ≡ after')
told_once Says Says' once before after after' r r' a b =
    let same : a.outcome ≡ b.outcome = once a.outcome b.outcome a.says b.says in
    (a.status_is ∙ ap status same ∙ sym b.status_is, a.answer_is ∙ ap (λ (o : Outcome). answer_after o before) same ∙ sym b.answer_is)

module _ (layout : List ℕ) (o o' : Outcome) where
  bounded_once : (a : Result Problem Refusal) → ByRead a (λ p. IsBounded p layout o) (λ f. o ≡ refusal_outcome f) →
      ByRead a (λ p. IsBounded p layout o') (λ f. o' ≡ refusal_outcome f) → o ≡ o'
  bounded_once (Ok p) (r, says, is) (r', says', is') = is ∙ ap bound_outcome (bound_decided p layout r r' says says') ∙ sym is'
  bounded_once (Err f) is is' = is ∙ sym is'

pub bound_export_decided : (file layout before after after' : List ℕ) (r r' : ℕ) →
    Right (BoundTold file layout) before after r → Right (BoundTold file layout) before after' r' → (r ≡ r') × (after ≡ after')
bound_export_decided file layout =
    told_once (BoundTold file layout) (BoundTold file layout) (λ o o'. bounded_once layout o o' (read_file file))

-- A lent buffer too, where outcomes and what it holds at the end are decided together.
told_both : (Says : List ℕ → Outcome → Type 0) (end end' : List ℕ) → ((o o' : Outcome) → Says end o → Says end' o' → (o ≡ o') × (end ≡ end')) →
    (before after after' : List ℕ) (r r' : ℕ) → Right (Says end) before after r → Right (Says end') before after' r' → (r ≡ r') × (after ≡ after') × (end ≡ end')
told_both Says end end' once before after after' r r' a b =
    let t = told_once (Says end) (Says end') (λ o o' x y. (once o o' x y).0) before after after' r r' a b in
    (t.0, t.1, (once a.outcome b.outcome a.says b.says).1)

-- Words of 32 bits at the end.
module _ (words end end' : List ℕ) (small : (k : ℕ) → get_or end k 0 < 2 ^ 32) (small' : (k : ℕ) → get_or end' k 0 < 2 ^ 32) where
  filled_once : (o o' : Outcome) (a : Result Problem Refusal) → ByRead a (λ p. FillsWords p words end o) (λ f. (o ≡ refusal_outcome f) × (end ≡ words)) →
      ByRead a (λ p. FillsWords p words end' o') (λ f. (o' ≡ refusal_outcome f) × (end' ≡ words)) → (o ≡ o') × (end ≡ end')
  filled_once o o' (Ok p) (r, says, is) (r', says', is') =
      let d = interference_decided p words end end' small small' r r' says says' in (is ∙ ap interference_outcome d.0 ∙ sym is', d.1)
  filled_once o o' (Err f) (is, kept) (is', kept') = (is ∙ sym is', kept ∙ sym kept')

  module _ (file : List ℕ) where
    pub interference_export_decided : (before after after' : List ℕ) (r r' : ℕ) →
        Right (InterferenceTold file words end) before after r → Right (InterferenceTold file words end') before after' r' →
        (r ≡ r') × (after ≡ after') × (end ≡ end')
    interference_export_decided = told_both (InterferenceTold file words) end end' (λ o o'. filled_once o o' (read_file file))

module _ (layout : List ℕ) (v : ℕ) (walk end end' : List ℕ) where
  evicted_once : (o o' : Outcome) (a : Result Problem Refusal) → ByRead a (λ p. Evicted p layout v walk end o) (λ f. (o ≡ refusal_outcome f) × (end ≡ walk)) →
      ByRead a (λ p. Evicted p layout v walk end' o') (λ f. (o' ≡ refusal_outcome f) × (end' ≡ walk)) → (o ≡ o') × (end ≡ end')
  evicted_once o o' (Ok p) (r, says, is) (r', says', is') =
      let d = eviction_decided p layout v walk end end' r r' says says' in (is ∙ ap eviction_outcome d.0 ∙ sym is', d.1)
  evicted_once o o' (Err f) (is, kept) (is', kept') = (is ∙ sym is', kept ∙ sym kept')

  pub eviction_export_decided : (file before after after' : List ℕ) (r r' : ℕ) →
      Right (EvictionTold file layout v walk end) before after r → Right (EvictionTold file layout v walk end') before after' r' →
      (r ≡ r') × (after ≡ after') × (end ≡ end')
  eviction_export_decided file = told_both (EvictionTold file layout v walk) end end' (λ o o'. evicted_once o o' (read_file file))

understood_once : (text : List ℕ) (o o' : Outcome) → Understood text o → Understood text o' → o ≡ o'
understood_once text o o' (r, says, is) (r', says', is') = is ∙ ap sentence_outcome (sentence_decided text r r' says says') ∙ sym is'

pub sentence_export_decided : (text before after after' : List ℕ) (r r' : ℕ) →
    Right (Understood text) before after r → Right (Understood text) before after' r' → (r ≡ r') × (after ≡ after')
sentence_export_decided text = told_once (Understood text) (Understood text) (understood_once text)
