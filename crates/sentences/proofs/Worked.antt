-- The worked sentences and texts, computed from the definitions.
use Prim.Native.Nat.{ℕ}
use Rattle.std.specs.Prelude.{Err, Ok, Result}
use Rattle.model.specs.declared.Refusal.{Refusal}
use Prim.Native.String.{String}
use mathlib.Core.Path.{◌≡◌, refl, subst}
use mathlib.Core.List.{List, [], ◌∷◌}
use Rattle.model.specs.declared.Refusal.TheVariants.{OutOfRange, ScratchpadTooSmall, NoSentence}
use Rattle.model.specs.declared.Reason.TheVariants.{EveryVisit, FirstLoad, Never}
use Rattle.model.specs.declared.Remark.{Remark}
use Rattle.model.specs.declared.Remark.TheVariants as remark
use Rattle.model.specs.Decimals.{text, digits_of, decimal}
use Rattle.model.specs.Sentences.{phrases, phrase, sentence, most_place, ReadsAs}
use Rattle.grammar.specs.Numerals.{opens, fits, digits, numeral}
use Rattle.grammar.specs.Grammar.{read_by}
use Rattle.sentences.specs.Remarks.{after_place, after_number, after_function, remarks, answer_of}
use Rattle.sentences.proofs.Claims.{reads_as_lem}

pub refusal_worded : sentence (remark.Refused (ScratchpadTooSmall 18)) ≡ text "Refused 13: the layout needs more than the scratchpad; the bytes needed are 18."
unfolding sentence phrase phrases text decimal digits_of
refusal_worded = refl

pub visit_worded : sentence (remark.Explained (EveryVisit 5)) ≡ text "Every visit is charged the load, since its region may have been taken by function 5."
unfolding sentence text decimal digits_of
visit_worded = refl

-- A text with its answer. (`Refused 23` is 22 at 9 as long as 22 is the last number.)
pub record Case : Type 0 where
  pub said : String
  pub answer : Result Remark Refusal

abbrev meant : String → Remark → Case
meant s r = record { said = s; answer = Ok r }

abbrev at : String → ℕ → Case
at s k = record { said = s; answer = Err (NoSentence k) }

abbrev pub cases : List Case
cases =
    at "" 0
    ∷ at "refused 1" 0
    ∷ at "Refused 0" 8
    ∷ at "Refused 3" 9
    ∷ at "Refused 23" 9
    ∷ meant "Refused 13: the layout needs more than the scratchpad; the bytes needed are 18." (remark.Refused (ScratchpadTooSmall 18))
    ∷ at "Refused 13: the layout needs more than the scratchpad; the bytes needed are 18.\n" 79
    ∷ meant "Refused 3: a number is out of range; its place is 18446744073709551615." (remark.Refused (OutOfRange most_place))
    ∷ at "Refused 3: a number is out of range; its place is 18446744073709551616." 69
    ∷ at "Refused 3: a number is out of range; its place is 0" 51
    ∷ at "Refused 14: the bound passes its limit; its place is 00." 54
    ∷ at "Every visit is charged the load, since its region may have been taken by function 32." 83
    ∷ at "Every visit is charged the load, since its region may have been taken by function 4" 83
    ∷ at "Every visit is charged the load, since its region may have been taken by function 40." 83
    ∷ meant "Only a first load is charged, since no other function can have taken its region." (remark.Explained FirstLoad)
    ∷ meant "No load is charged, since its function is always in its region." (remark.Explained Never)
    ∷ []

-- Each is right.
abbrev pub Right : List Case → Type 0
Right [] = Unit {0}
Right (c ∷ rest) = ReadsAs (text c.said) c.answer × Right rest

-- What reading gives for each, at once.
abbrev answers : List Case → List (Result Remark Refusal)
answers [] = []
answers (c ∷ rest) = c.answer ∷ answers rest

abbrev given : List Case → List (Result Remark Refusal)
given [] = []
given (c ∷ rest) = answer_of (read_by remarks (text c.said) 0) ∷ given rest

right : (cs : List Case) → given cs ≡ answers cs → Right cs
right [] e = tt
right (c ∷ rest) e =
    let same : answer_of (read_by remarks (text c.said) 0) ≡ c.answer = cc in
    (subst (ReadsAs (text c.said)) same (reads_as_lem (text c.said)), right rest (cc))

pub texts_read : Right cases
unfolding read_by remarks after_number after_place after_function phrase phrases text opens fits digits numeral
texts_read = right cases refl
