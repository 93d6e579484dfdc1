-- Outcomes: each case of an answer in the documents' numbers, and what each operation says in them.
use Rattle.std.specs.Prelude.{ℕ, ◌≡◌, List, [], ◌∷◌, Err, Ok, Result}
use Rattle.model.specs.declared.Bound.{Bound}
use Rattle.model.specs.declared.Run.{Run}
use Rattle.model.specs.declared.Eviction.{Eviction}
use Rattle.model.specs.declared.Best.{Best}
use Rattle.model.specs.declared.Refusal.{Refusal}
use Rattle.model.specs.declared.Problem.{Problem}
use Rattle.model.specs.declared.Remark.{Remark}
use Rattle.model.specs.declared.Remark.TheVariants as remark
use Rattle.model.specs.Refusals.{number, place}
use Rattle.model.specs.Numbers.{numbers_of}
use Rattle.model.specs.Operations.{read_file, write_problem}
use Rattle.model.specs.Evictions.{reason_number, reason_values}
use Rattle.model.specs.Results.{InterferenceSays, BoundSays, run_walk, EvictionSays}
use Rattle.model.specs.Inlined.{inline_drawing}
use Rattle.model.specs.Sentences.{word_remark, ReadsAs}

-- A result's values, or a refusal's number and its place.
pub data Outcome : Type 0 where
  Results : List ℕ → Outcome
  Refusing : ℕ → ℕ → Outcome

abbrev pub refusal_outcome : Refusal → Outcome
refusal_outcome f = Refusing (number f) (place f)

-- Read: the problem, as its numbers in file order.
abbrev pub read_outcome : Result Problem Refusal → Outcome
read_outcome (Ok p) = Results (numbers_of p)
read_outcome (Err f) = refusal_outcome f

-- Write: bytes written.
abbrev pub write_outcome : Result ℕ Refusal → Outcome
write_outcome (Ok bytes) = Results (bytes ∷ [])
write_outcome (Err f) = refusal_outcome f

-- Interference: words filled.
abbrev pub interference_outcome : Result ℕ Refusal → Outcome
interference_outcome (Ok words) = Results (words ∷ [])
interference_outcome (Err f) = refusal_outcome f

-- Bound: bytes needed, number of contested vertices, sum of first loads, bound.
abbrev pub bound_outcome : Result Bound Refusal → Outcome
bound_outcome (Ok b) = Results (b.need.0 ∷ b.contested ∷ b.first.0 ∷ b.bound.0 ∷ [])
bound_outcome (Err f) = refusal_outcome f

-- Run: cycles, loads. (The function held in each region stands in the lent regions: `run_regions`.)
abbrev pub run_outcome : Result Run Refusal → Outcome
run_outcome (Ok r) = Results (r.cycles.0 ∷ r.loads ∷ [])
run_outcome (Err f) = refusal_outcome f

-- Eviction: the walk's entries, the reason's number and its values.
abbrev pub eviction_outcome : Result Eviction Refusal → Outcome
eviction_outcome (Ok e) = Results (e.count ∷ reason_number e.reason ∷ reason_values e.reason)
eviction_outcome (Err f) = refusal_outcome f

-- Best: the number of functions, bytes needed, bound.
abbrev pub best_outcome : Result Best Refusal → Outcome
best_outcome (Ok b) = Results (b.functions ∷ b.need.0 ∷ b.bound.0 ∷ [])
best_outcome (Err f) = refusal_outcome f

-- Inline: the problem, as its numbers in file order.
abbrev pub inline_outcome : Result Problem Refusal → Outcome
inline_outcome (Ok p) = Results (numbers_of p)
inline_outcome (Err f) = refusal_outcome f

-- Word: bytes written.
abbrev pub word_outcome : Result ℕ Refusal → Outcome
word_outcome (Ok bytes) = Results (bytes ∷ [])
word_outcome (Err f) = refusal_outcome f

-- Read-sentence: 0, and the refusal's number and its place; or the reason's number and its values.
abbrev pub remark_values : Remark → List ℕ
remark_values (remark.Refused f) = 0 ∷ number f ∷ place f ∷ []
remark_values (remark.Explained reason) = reason_number reason ∷ reason_values reason

abbrev pub sentence_outcome : Result Remark Refusal → Outcome
sentence_outcome (Ok r) = Results (remark_values r)
sentence_outcome (Err f) = refusal_outcome f

-- What Read says of a file, Write of a problem and a buffer of `room` bytes, Run of a walk, Inline of a drawing, and Word of a remark and a buffer.
abbrev pub read_says : List ℕ → Outcome
read_says file = read_outcome (read_file file)

abbrev pub write_says : Problem → ℕ → Outcome
write_says p room = write_outcome (write_problem p room)

abbrev pub run_says : Problem → List ℕ → List ℕ → Outcome
run_says p layout walk = run_outcome (run_walk p layout walk)

abbrev pub inline_says : List ℕ → Outcome
inline_says d = inline_outcome (inline_drawing d)

abbrev pub word_says : Remark → ℕ → Outcome
word_says r room = word_outcome (word_remark r room)

-- An outcome that Interference says, where the lent words hold `after` at the end, one that Bound says, one that Eviction says, where the lent walk holds
-- `after` at the end, and one that Read-sentence says of a text.
abbrev pub FillsWords : Problem → List ℕ → List ℕ → Outcome → Type 0
FillsWords p words after o = (r : Result ℕ Refusal) × InterferenceSays p words after r × (o ≡ interference_outcome r)

abbrev pub IsBounded : Problem → List ℕ → Outcome → Type 0
IsBounded p layout o = (r : Result Bound Refusal) × BoundSays p layout r × (o ≡ bound_outcome r)

abbrev pub Evicted : Problem → List ℕ → ℕ → List ℕ → List ℕ → Outcome → Type 0
Evicted p layout v walk after o = (r : Result Eviction Refusal) × EvictionSays p layout v walk after r × (o ≡ eviction_outcome r)

abbrev pub Understood : List ℕ → Outcome → Type 0
Understood s o = (r : Result Remark Refusal) × ReadsAs s r × (o ≡ sentence_outcome r)
