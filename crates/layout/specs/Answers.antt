-- What judging a layout answers: the bytes needed where no refusal applies.
use Rattle.std.specs.Prelude.{ℕ, Err, Ok, Result}
use Rattle.model.specs.Refusals.{Verdict}
use Rattle.model.specs.declared.Refusal.{Refusal}
use Rattle.model.specs.declared.Bytes.{Bytes}
use Rattle.model.specs.Zero.{bytes}

abbrev pub layout_answer : Verdict → ℕ → Result Bytes Refusal
layout_answer (Ok _) need = Ok (bytes need)
layout_answer (Err f) need = Err f

abbrev pub layout_verdict : Result Bytes Refusal → Verdict
layout_verdict (Ok need) = Ok tt
layout_verdict (Err f) = Err f
