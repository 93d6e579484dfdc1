-- Files that are read alike are told alike: nothing of a file counts for an export but what Read says of it. So files of one problem, which differ in padding alone,
-- are not told apart.
use Prim.Native.Nat.{ℕ}
use Rattle.std.specs.Prelude.{Ok, Result}
use Rattle.model.specs.declared.Refusal.{Refusal}
use mathlib.Core.Path.{◌≡◌, sym, ap, subst, ◌∙◌}
use mathlib.Core.List.{List}
use Rattle.model.specs.declared.Problem.{Problem}
use Rattle.model.specs.Spelling.{Bytes}
use Rattle.model.specs.Operations.{read_file, written_buffer}
use Rattle.model.specs.Results.{run_regions}
use Rattle.model.specs.Outcomes.{Outcome, Results, refusal_outcome, write_says, run_says, FillsWords, IsBounded, Evicted}
use Rattle.outcomes.specs.Outcomes.{counts, on_read, ByRead}
use Rattle.roundtrip.specs.Files.{FileOf}
use Rattle.roundtrip.proofs.Trip.{file_read}
use Rattle.examiner.specs.Exports.{read_told, write_told, write_out, InterferenceTold, BoundTold, run_told, run_held, EvictionTold}

pub padding_alone : (s : List ℕ) → Bytes s → (p : Problem) → read_file s ≡ Ok p → (t : List ℕ) → FileOf p t → read_file s ≡ read_file t
padding_alone s byte p is_read t file = is_read ∙ sym (file_read s byte p is_read t file)

-- What is written back is Read's answer's alone.
pub back_by : (s : List ℕ) (a : Result Problem Refusal) → read_file s ≡ a → (out : List ℕ) → write_out s out ≡ on_read a (λ p. written_buffer p out) (λ f. out)
back_by s a is out = ap (λ (x : Result Problem Refusal). on_read x (λ p. written_buffer p out) (λ f. out)) is

module _ (s t : List ℕ) (alike : read_file s ≡ read_file t) where
  pub read_alike : read_told s ≡ read_told t
  read_alike = ap (λ (a : Result Problem Refusal). on_read a (λ p. Results (counts p)) refusal_outcome) alike

  pub write_alike : (room : ℕ) → write_told s room ≡ write_told t room
  write_alike room = ap (λ (a : Result Problem Refusal). on_read a (λ p. write_says p room) refusal_outcome) alike

  pub back_alike : (out : List ℕ) → write_out s out ≡ write_out t out
  back_alike out = back_by s (read_file t) alike out

  pub interference_alike : (words after : List ℕ) (o : Outcome) → InterferenceTold s words after o → InterferenceTold t words after o
  interference_alike words after o =
      subst (λ (a : Result Problem Refusal). ByRead a (λ p. FillsWords p words after o) (λ f. (o ≡ refusal_outcome f) × (after ≡ words))) alike

  pub bound_alike : (layout : List ℕ) (o : Outcome) → BoundTold s layout o → BoundTold t layout o
  bound_alike layout o = subst (λ (a : Result Problem Refusal). ByRead a (λ p. IsBounded p layout o) (λ f. o ≡ refusal_outcome f)) alike

  pub run_alike : (layout walk : List ℕ) → run_told s layout walk ≡ run_told t layout walk
  run_alike layout walk = ap (λ (a : Result Problem Refusal). on_read a (λ p. run_says p layout walk) refusal_outcome) alike

  pub held_alike : (layout walk held : List ℕ) → run_held s layout walk held ≡ run_held t layout walk held
  held_alike layout walk held = ap (λ (a : Result Problem Refusal). on_read a (λ p. run_regions p layout walk held) (λ f. held)) alike

  pub eviction_alike : (layout : List ℕ) (v : ℕ) (walk after : List ℕ) (o : Outcome) → EvictionTold s layout v walk after o → EvictionTold t layout v walk after o
  eviction_alike layout v walk after o =
      subst (λ (a : Result Problem Refusal). ByRead a (λ p. Evicted p layout v walk after o) (λ f. (o ≡ refusal_outcome f) × (after ≡ walk))) alike
