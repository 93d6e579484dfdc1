-- The step of Read that goes on with numbers, and the end of Write.
use Rattle.std.specs.Prelude.{ℕ, ◌≡◌, List, length, Ok, Result}
use Rattle.model.specs.Refusals.{Verdict}
use Rattle.model.specs.declared.Refusal.{Refusal}
use Rattle.model.specs.Numbers.{problem_of}
use Rattle.model.specs.declared.Problem.{Problem}
use Rattle.model.specs.Operations.{read_verdict, read_file, write_problem, written_buffer, Checked}

-- Numbers read from the file s: with the verdict they are Read's answer, and where it accepts they have passed the problem's own checks.
pub record NumbersRead (s l : List ℕ) (v : Verdict) : Type 0 where
  pub answer : read_verdict v (problem_of l) ≡ read_file s
  pub checked : v ≡ Ok tt → Checked l

-- Write's answer on p, and its buffer.
pub record WrittenAs (p : Problem) (buf after : List ℕ) (r : Result ℕ Refusal) : Type 0 where
  pub answer : r ≡ write_problem p (length buf)
  pub buffer : after ≡ written_buffer p buf
