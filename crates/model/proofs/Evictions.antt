-- What Eviction says of one problem and layout it says of another with the same functions of vertices, edges and regions that is judged alike: no more than
-- these is looked at.
use Prim.Native.Nat.{ℕ}
use Rattle.std.specs.Prelude.{Err, Ok, Result}
use Rattle.model.specs.declared.Refusal.{Refusal}
use Rattle.model.specs.declared.Eviction.{Eviction}
use mathlib.Core.Path.{◌≡◌, ◌∙◌}
use mathlib.Core.List.{List}
use mathlib.Core.Logic.{inl, inr}
use Rattle.model.specs.declared.Problem.{Problem}
use Rattle.model.specs.declared.Reason.{Reason}
use Rattle.model.specs.Costs.{function_of}
use Rattle.model.specs.Walks.{EdgeOf}
use Rattle.model.specs.Layouts.{region_of}
use Rattle.model.specs.Evictions.{EvictionBy, EvictionIs}
use Rattle.model.specs.Verdicts.{judge_eviction}
use Rattle.model.specs.Results.{EvictionSays}

module _ (p q : Problem) (a b : List ℕ) (functions : function_of p ≡ function_of q) (edges : EdgeOf p ≡ EdgeOf q) (regions : region_of a ≡ region_of b) (v : ℕ) where
  pub explained_alike : (reason : Reason) (walk : List ℕ) → EvictionIs p a v reason walk → EvictionIs q b v reason walk
  explained_alike reason walk is = coe 0 1 (i. EvictionBy (functions i) (edges i) (regions i) v reason walk) is

  module _ (judged : judge_eviction q b v ≡ judge_eviction p a v) (before after : List ℕ) where
    pub eviction_alike : (r : Result Eviction Refusal) → EvictionSays p a v before after r → EvictionSays q b v before after r
    eviction_alike (Ok e) (good, (walk, is, count, room, stored)) =
        (judged ∙ good, (walk, explained_alike e.reason walk is, count, room, stored))
    eviction_alike (Err f) (kept, inl refused) = (kept, inl (judged ∙ refused))
    eviction_alike (Err f) (kept, inr (good, (reason, walk, is, short, told))) =
        (kept, inr (judged ∙ good, (reason, walk, explained_alike reason walk is, short, told)))
