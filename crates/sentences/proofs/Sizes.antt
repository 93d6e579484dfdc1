-- How long a sentence is.
use Prim.Native.Nat.{ℕ, ◌≤◌}
use native.Mathlib.Omega.{arith}
use mathlib.Core.Path.{◌≡◌, refl}
use lib.ListN.{length, length-append}
use borrow.Author.Tests.{leb-true, ltb-true}
use Rattle.model.specs.declared.Refusal.TheVariants.{WrongStep}
use Rattle.model.specs.declared.Reason.TheVariants.{EveryVisit, FirstLoad, Never}
use Rattle.model.specs.declared.Remark.{Remark}
use Rattle.model.specs.declared.Remark.TheVariants as remark
use Rattle.model.specs.Refusals.{number, place}
use Rattle.model.specs.Places.{most_functions}
use Rattle.model.specs.Decimals.{text}
use Rattle.model.specs.Sentences.{phrases, phrase, sentence, most_place, most_sentence, Wordable}
use Rattle.model.proofs.Refusals.{known}
use Rattle.decimals.proofs.Digits.{few_digits, many_digits}
use Rattle.phrases.proofs.Rules.{phrase_size}

-- The longest one has 106 bytes.
abbrev pub longest : ℕ
longest = 106

pub within_longest : (r : Remark) → Wordable r → length (sentence r) ≤ longest
unfolding sentence text
within_longest (remark.Refused f) w =
    simp length-append
    (omega (arith, few_digits 1 (number f) (omega (arith, (known f).high)), few_digits 19 (place f) (omega (arith, leb-true (place f) most_place w)), phrase_size (number f)))
within_longest (remark.Explained (EveryVisit g)) w = simp length-append (omega (arith, few_digits 1 g (omega (arith, ltb-true g most_functions w))))
within_longest (remark.Explained FirstLoad) w = omega arith
within_longest (remark.Explained Never) w = omega arith

pub reached : length (sentence (remark.Refused (WrongStep most_place))) ≡ longest
unfolding sentence text phrase phrases
reached =
    let r = remark.Refused (WrongStep most_place) in
    let low : longest ≤ length (sentence r) = simp length-append (omega (arith, many_digits 1 15 (omega arith), many_digits 19 most_place (omega arith))) in
    omega (arith, within_longest r refl)

-- No sentence has more than 128 bytes.
pub sentence_size : (r : Remark) → Wordable r → length (sentence r) ≤ most_sentence
sentence_size r w = omega (arith, within_longest r w)
