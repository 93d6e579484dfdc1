-- The kinds of statement that the documents make of their worked examples, and what each says in the words of the definitions.
use Rattle.std.specs.Prelude.{ℕ, ◌<◌, ◌≡◌, Bool, ◌↔◌, get_or, Err, Ok}
use Prim.Native.String.{String}
use mathlib.Core.List.{List, [], Memᴰ}
use Rattle.model.specs.declared.Refusal.{Refusal}
use Rattle.model.specs.declared.Problem.{Problem}
use Rattle.model.specs.declared.Bound.{Bound}
use Rattle.model.specs.Refusals.{number, place}
use Rattle.model.specs.Zero.{bytes, cycles as cycles_of}
use Rattle.model.specs.Costs.{function_of}
use Rattle.model.specs.Walks.{EdgeOf, Greatest}
use Rattle.model.specs.Interference.{Interferes}
use Rattle.model.specs.Charges.{Told, second_total}
use Rattle.model.specs.Runs.{cycles}
use Rattle.model.specs.Operations.{read_file}
use Rattle.model.specs.Results.{BoundSays, run_walk}
use Rattle.model.specs.Decimals.{text}
use Rattle.model.specs.Slips.{SlipIs}

pub data Claim : Type 0 where
  -- A problem's interference sets, those of each vertex and its own function, vertex by vertex.
  sets : Problem → List (List ℕ) → Claim
  -- A problem under a layout: bytes needed, contested vertices, first loads, bound.
  bounds : Problem → List ℕ → ℕ → ℕ → ℕ → ℕ → Claim
  -- The greatest second total.
  second_totals : Problem → List ℕ → ℕ → Claim
  -- Bound's refusal: its number and place.
  bound_refused : Problem → List ℕ → ℕ → ℕ → Claim
  -- A problem, a layout and a walk: cycles and loads.
  runs : Problem → List ℕ → List ℕ → ℕ → ℕ → Claim
  run_refused : Problem → List ℕ → List ℕ → ℕ → ℕ → Claim
  -- The cycles of a longest run.
  longest_run : Problem → List ℕ → ℕ → Claim
  -- A whole file, and the problem in it.
  reads : List ℕ → Problem → Claim
  read_refused : List ℕ → ℕ → ℕ → Claim
  -- A whole file, the problem in it, a layout, Bound's four numbers, and the slip that `marksheet` prints.
  prints : List ℕ → Problem → List ℕ → ℕ → ℕ → ℕ → ℕ → String → Claim
  -- A file that Read refuses, and the slip for it and any layout.
  prints_refusal : List ℕ → String → Claim

-- Refused with this number at this place.
abbrev pub RefusedAs : ℕ → ℕ → (Refusal → Type 0) → Type 0
RefusedAs n at Says = (f : Refusal) × Says f × (number f ≡ n) × (place f ≡ at)

abbrev pub given : ℕ → ℕ → ℕ → ℕ → Bound
given need contested first most = record { need = bytes need; contested = contested; first = cycles_of first; bound = cycles_of most }

abbrev pub Means : Claim → Type 0
Means (sets p each) =
    (v : ℕ) → v < p.vertex_count → (g : ℕ) → Interferes (function_of p) (EdgeOf p) v (function_of p v) g ↔ Memᴰ g (get_or each v [])
Means (bounds p layout need contested first most) = BoundSays p layout (Ok (given need contested first most))
Means (second_totals p layout most) =
    (contested : ℕ → Bool) × (early : ℕ → Bool) × (cold : ℕ → Bool) × Told p layout contested early cold × Greatest p (second_total p contested early) most
Means (bound_refused p layout n at) = RefusedAs n at (λ f. BoundSays p layout (Err f))
Means (runs p layout walk c n) = run_walk p layout walk ≡ Ok (record { cycles = cycles_of c; loads = n })
Means (run_refused p layout walk n at) = RefusedAs n at (λ f. run_walk p layout walk ≡ Err f)
Means (longest_run p layout c) = Greatest p (cycles p layout) c
Means (reads file p) = read_file file ≡ Ok p
Means (read_refused file n at) = RefusedAs n at (λ f. read_file file ≡ Err f)
Means (prints file p layout need contested first most slip) = SlipIs file layout (text slip)
Means (prints_refusal file slip) = (layout : List ℕ) → SlipIs file layout (text slip)
