-- What Eviction does behind its checks: a reason, and a walk in a lent buffer.
use Rattle.std.specs.Prelude.{ℕ, ◌≤◌, ◌<◌, ◌≡◌, List, ◌∷◌, length, Err, Ok, Result}
use Rattle.model.specs.declared.Refusal.{Refusal}
use Rattle.model.specs.declared.Eviction.{Eviction}
use Rattle.std.proofs.lemmas.List.Edits.{sets}
use Rattle.model.specs.declared.Refusal.TheVariants.{BufferTooShort}
use Rattle.model.specs.declared.Problem.{Problem}
use Rattle.model.specs.declared.Reason.{Reason}
use Rattle.model.specs.Numbers.{problem_of}
use Rattle.model.specs.Operations.{Checked}
use Rattle.model.specs.Evictions.{EvictionIs}
use Rattle.model.specs.Results.{most_shown}
use Rattle.regions.specs.Regions.{KnownRegions}
use Rattle.ways.specs.Ways.{Falls}

-- A reason and its walk, and what becomes of the buffer: the walk at its front, or 10.
unfoldable pub Lent : Reason → List ℕ → List ℕ → List ℕ → Result Eviction Refusal → Type 0
Lent reason walk before after (Ok e) = (e.reason ≡ reason) × (e.count ≡ length walk) × (length walk ≤ length before) × (after ≡ sets before 0 walk)
Lent reason walk before after (Err r) = (after ≡ before) × (length before < length walk) × (r ≡ BufferTooShort (length walk))

-- The walk that always takes the lowest vertex one nearer.
abbrev pub Showed : Problem → ℕ → ℕ → List ℕ → ℕ → Reason → List ℕ → List ℕ → Result Eviction Refusal → Type 0
Showed p f g d s reason before after r = (ws : List ℕ) × Falls p f g d s 0 ws × Lent reason (0 ∷ ws) before after r

pub record Explainable (l regions : List ℕ) (v : ℕ) : Type 0 where
  pub checked : Checked l
  pub known : KnownRegions (problem_of l) regions
  pub there : v < (problem_of l).vertex_count

abbrev pub Explained : Problem → List ℕ → ℕ → List ℕ → List ℕ → Result Eviction Refusal → Type 0
Explained p regions v before after r =
    (reason : Reason) × (walk : List ℕ) × EvictionIs p regions v reason walk × (length walk ≤ most_shown) × Lent reason walk before after r
