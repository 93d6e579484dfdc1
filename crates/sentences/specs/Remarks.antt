-- The sentences as a grammar, by which they are read.
use Rattle.std.specs.Prelude.{ℕ, ◌-◌, List, Err, Ok, Result}
use Rattle.model.specs.declared.Refusal.{Refusal}
use Rattle.model.specs.declared.Refusal.TheVariants.{NoSentence}
use Rattle.model.specs.declared.Reason.TheVariants.{EveryVisit, FirstLoad, Never}
use Rattle.model.specs.declared.Remark.{Remark}
use Rattle.model.specs.declared.Remark.TheVariants as remark
use Rattle.model.specs.Refusals.{last_refusal, refusal_of}
use Rattle.model.specs.Places.{most_functions}
use Rattle.model.specs.Decimals.{text}
use Rattle.model.specs.Sentences.{phrase, most_place}
use Rattle.grammar.specs.Grammar.{Grammar, dead, done, value, texts, either, Out, Meant, Stuck}

-- How sentences open, or whole ones.
abbrev pub refusing : List ℕ
refusing = text "Refused "

abbrev pub every_visit : List ℕ
every_visit = text "Every visit is charged the load, since its region may have been taken by function "

abbrev pub first_load : List ℕ
first_load = text "Only a first load is charged, since no other function can have taken its region."

abbrev pub never : List ℕ
never = text "No load is charged, since its function is always in its region."

-- What follows a refusal's number: it decides the phrase.
unfoldable pub after_place : ℕ → ℕ → Grammar Remark
after_place n at = texts (text ".") (done (remark.Refused (refusal_of n at)))

unfoldable pub after_number : ℕ → Grammar Remark
after_number n = texts (text ": ") (texts (phrase n) (value 0 most_place (after_place n)))

-- What follows the function that a reason names.
unfoldable pub after_function : ℕ → Grammar Remark
after_function g = texts (text ".") (done (remark.Explained (EveryVisit g)))

-- The four openings have different first bytes.
abbrev pub last : Grammar Remark
last = either never (done (remark.Explained Never)) dead

abbrev pub fixed : Grammar Remark
fixed = either first_load (done (remark.Explained FirstLoad)) last

abbrev pub reasons : Grammar Remark
reasons = either every_visit (value 0 (most_functions - 1) after_function) fixed

unfoldable pub remarks : Grammar Remark
remarks = either refusing (value 1 last_refusal after_number) reasons

-- What is answered: what a text means, or 22 at the byte where reading stops.
abbrev pub answer_of : Out Remark → Result Remark Refusal
answer_of (Meant r) = Ok r
answer_of (Stuck k) = Err (NoSentence k)
