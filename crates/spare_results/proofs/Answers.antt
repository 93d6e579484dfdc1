-- Every operation gives the same answer for records that are the same but for spare places, and there are such records.
use Prim.Native.Nat.{ℕ, ◌^◌, ◌≤◌, ◌<◌}
use Rattle.std.specs.Prelude.{Result}
use Rattle.model.specs.declared.Refusal.{Refusal}
use Rattle.model.specs.declared.Bound.{Bound}
use Rattle.model.specs.declared.Eviction.{Eviction}
use mathlib.Core.Path.{◌≡◌, refl, sym, ◌∙◌}
use mathlib.Core.List.{List}
use lib.ListN.{get_or, set, length-set}
use lib.Seq.{take-set-le}
use Rattle.model.specs.declared.Function.{Function}
use Rattle.model.specs.declared.Problem.{Problem}
use Rattle.model.specs.Numbers.{Sized}
use Rattle.model.specs.Operations.{SameProblem}
use Rattle.model.specs.Results.{InterferenceSays, BoundSays, EvictionSays}
use Rattle.interference.proofs.Decided.{interference_decided}
use Rattle.bound.proofs.Decided.{bound_decided}
use Rattle.eviction.proofs.Decided.{eviction_decided}
use Rattle.spare_results.proofs.Results.{interference_says_too, bound_says_too, eviction_says_too}

-- Interference, Bound and Eviction, whose contracts say what holds of the answer. (Of Write and Run, whose contracts are equations, Checks and Results say it.)
module _ (p q : Problem) (sized : Sized p) (sized' : Sized q) (same : SameProblem p q) where
  pub interference_same : (words after after' : List ℕ) → ((k : ℕ) → get_or after k 0 < 2 ^ 32) → ((k : ℕ) → get_or after' k 0 < 2 ^ 32) →
      (r r' : Result ℕ Refusal) → InterferenceSays p words after r → InterferenceSays q words after' r' → (r ≡ r') × (after ≡ after')
  interference_same words after after' small small' r r' says says' =
      interference_decided q words after after' small small' r r' (interference_says_too p q sized sized' same words after r says) says'

  pub bound_same : (layout : List ℕ) (r r' : Result Bound Refusal) → BoundSays p layout r → BoundSays q layout r' → r ≡ r'
  bound_same layout r r' says says' = bound_decided q layout r r' (bound_says_too p q sized sized' same layout r says) says'

  pub eviction_same : (layout : List ℕ) (v : ℕ) (before after after' : List ℕ) (r r' : Result Eviction Refusal) → EvictionSays p layout v before after r →
      EvictionSays q layout v before after' r' → (r ≡ r') × (after ≡ after')
  eviction_same layout v before after after' r r' says says' =
      eviction_decided q layout v before after after' r r' (eviction_says_too p q sized sized' same layout v before after r says) says'

-- There are such records: whatever is stored in the place of a function past the count, the problem is the same. (A lawful problem is also the same as itself
-- with every spare place zero, by `same_cleared` of roundtrip.)
module _ (p : Problem) (i : ℕ) (f : Function) where
  abbrev pub stored : Problem
  stored =
      record {
        scratchpad = p.scratchpad;
        function_count = p.function_count;
        functions = set p.functions i f;
        vertex_count = p.vertex_count;
        vertices = p.vertices;
        edge_count = p.edge_count;
        edges = p.edges;
        loop_count = p.loop_count;
        loops = p.loops;
      }

  pub stored_sized : Sized p → Sized stored
  stored_sized sized =
      record { functions = length-set p.functions i f ∙ sized.functions; vertices = sized.vertices; edges = sized.edges; loops = sized.loops }

  pub same_stored : p.function_count ≤ i → SameProblem p stored
  same_stored spare =
      record {
        scratchpad = refl;
        function_count = refl;
        functions = sym (take-set-le p.function_count p.functions i f spare);
        vertex_count = refl;
        vertices = refl;
        edge_count = refl;
        edges = refl;
        loop_count = refl;
        loops = refl;
      }
