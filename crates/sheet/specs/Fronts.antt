-- Inputs of any length, and the front of one in a buffer; what is read from the front, and the slip that is printed for it.
use Rattle.std.specs.Prelude.{ℕ, ◌+◌, ◌≤◌, ◌≡◌, List, length, take, Ok, Option, Some, None}
use Rattle.model.specs.Refusals.{Verdict}
use Rattle.model.specs.Places.{most_functions}
use Rattle.model.specs.Numbers.{problem_of}
use Rattle.model.specs.Operations.{read_verdict, read_file, Checked}
use Rattle.model.specs.Slips.{SlipIs}

-- Bound looks at no byte of a layout from here on: one with more bytes than there can be functions is refused, whatever they are.
abbrev pub layout_length : ℕ
layout_length = most_functions + 1

-- The bytes that a buffer was filled to; none where a read failed.
abbrev pub count : Option ℕ → ℕ
count (Some n) = n
count None = 0

-- What filling a buffer leaves: its room as it was, and no more bytes than it has room for.
pub record Fills (before after : List ℕ) (filled : Option ℕ) : Type 0 where
  pub within : count filled ≤ length after
  pub room : length after ≡ length before

-- A buffer has room for all bytes that may be looked at, and was filled to n.
pub record Front (looked : ℕ) (buf : List ℕ) (n : ℕ) : Type 0 where
  pub enough : looked ≤ length buf
  pub filled : n ≤ length buf

-- Its first n bytes are an input's front: as much of the input as it has room for.
abbrev pub FrontOf : List ℕ → ℕ → List ℕ → Type 0
FrontOf buf n input = take n buf ≡ take (length buf) input

-- Numbers read from a problem file's front: with the verdict they are Read's answer on every file with that front, and where it accepts they have passed
-- the problem's own checks.
pub record FrontRead (buf : List ℕ) (n : ℕ) (numbers : List ℕ) (v : Verdict) : Type 0 where
  pub answer : (file : List ℕ) → FrontOf buf n file → read_verdict v (problem_of numbers) ≡ read_file file
  pub checked : v ≡ Ok tt → Checked numbers

-- Numbers of the problem that Read accepts in every file with that front.
pub record AcceptedFront (buf : List ℕ) (n : ℕ) (numbers : List ℕ) : Type 0 where
  pub accepted : (file : List ℕ) → FrontOf buf n file → read_file file ≡ Ok (problem_of numbers)
  pub checked : Checked numbers

-- The first `size` bytes of a buffer are the slip of every problem file and every layout with these fronts. (All layouts have the front of no byte in a
-- buffer without room.)
pub record Rendered (file : List ℕ) (n : ℕ) (layout : List ℕ) (m : ℕ) (slip : List ℕ) (size : ℕ) : Type 0 where
  pub within : size ≤ length slip
  pub slip_is : (f l : List ℕ) → FrontOf file n f → FrontOf layout m l → SlipIs f l (take size slip)
