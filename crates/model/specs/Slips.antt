-- The program `marksheet`: the slip that it prints for a problem file and a layout, as bytes.
use Rattle.std.specs.Prelude.{ℕ, ◌≡◌, List, ◌++◌, Err, Ok, Result}
use Rattle.model.specs.declared.Problem.{Problem}
use Rattle.model.specs.declared.Refusal.{Refusal}
use Rattle.model.specs.declared.Bound.{Bound}
use Rattle.model.specs.Refusals.{number, place}
use Rattle.model.specs.Operations.{read_file}
use Rattle.model.specs.Results.{BoundSays}
use Rattle.model.specs.Decimals.{text, decimal}

-- One line: a label, a number, and the line's end.
unfoldable pub line : List ℕ → ℕ → List ℕ
line label n = label ++ decimal n ++ text "\n"

-- A refusal, as `refused 1 at 0`.
unfoldable pub refusal_line : Refusal → List ℕ
refusal_line f = text "refused " ++ decimal (number f) ++ line (text " at ") (place f)

-- The four results in order, one a line.
unfoldable pub result_lines : Bound → List ℕ
result_lines b =
    line (text "need ") b.need.0
    ++ line (text "charged ") b.contested
    ++ line (text "first ") b.first.0
    ++ line (text "bound ") b.bound.0

abbrev pub bound_slip : Result Bound Refusal → List ℕ
bound_slip (Ok b) = result_lines b
bound_slip (Err f) = refusal_line f

-- By Read's answer, and Bound's where Read accepts: the problem file is judged before the layout.
abbrev pub slip_bytes : Result Problem Refusal → Result Bound Refusal → List ℕ
slip_bytes (Ok p) answer = bound_slip answer
slip_bytes (Err f) answer = refusal_line f

-- What Bound says of the problem that Read accepted. Of a file that Read refuses Bound is not asked.
abbrev pub BoundAfter : Result Problem Refusal → List ℕ → Result Bound Refusal → Type 0
BoundAfter (Ok p) layout answer = BoundSays p layout answer
BoundAfter (Err f) layout answer = Unit {0}

-- **marksheet** prints this slip for a problem file and a layout.
pub record SlipIs (file layout slip : List ℕ) : Type 0 where
  pub answer : Result Bound Refusal
  pub says : BoundAfter (read_file file) layout answer
  pub bytes : slip ≡ slip_bytes (read_file file) answer
