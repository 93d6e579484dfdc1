-- Read-sentence, step by step: what each piece of the text leaves to read.
use Prim.Native.Nat.{ℕ, ◌≤◌, ◌<◌}
use Rattle.std.specs.Prelude.{Err, None, Ok, Some, Result, Option}
use native.Mathlib.Omega.{arith}
use mathlib.Core.Path.{◌≡◌, sym, ap, ◌∙◌}
use mathlib.Core.List.{List, [], ◌∷◌}
use lib.ListN.{length, drop, get_or, drop_of_length-le}
use lib.Seq.{drop-cons}
use borrow.Author.Tests.{eq-eqb, ne_eqb}
use Rattle.model.specs.declared.Refusal.{Refusal}
use Rattle.model.specs.declared.Refusal.TheVariants.{NoSentence}
use Rattle.model.specs.declared.Remark.{Remark}
use Rattle.model.specs.declared.Remark.TheVariants as remark
use Rattle.model.specs.Refusals.{refusal_of}
use Rattle.model.specs.Decimals.{text}
use Rattle.grammar.specs.Grammar.{Grammar, done, value, texts, either, Meant, Stuck, read_by}
use Rattle.pieces.specs.Pieces.{pass_words, read_value}
use Rattle.pieces.proofs.Pieces.{words_passed, words_stopped, value_read, value_missing}
use Rattle.sentences.specs.Remarks.{after_place, answer_of}

-- A text read by a grammar from a position on has this answer.
abbrev pub Answers : List ℕ → ℕ → Grammar Remark → Result Remark Refusal → Type 0
Answers s at g answer = answer ≡ answer_of (read_by g (drop at s) at)

-- Words: all of them and then what follows, or 22 where they stop.
module _ (s : List ℕ) (at : ℕ) (w : List ℕ) (g : Grammar Remark) {p : Result ℕ ℕ} (is : p ≡ pass_words w (drop at s) at) where
  pub stops : {answer : Result Remark Refusal} → (k : ℕ) × (p ≡ Err k) × (answer ≡ Err (NoSentence k)) → Answers s at (texts w g) answer
  stops (k, e, a) = a ∙ ap answer_of (sym (words_stopped w g (drop at s) at k (sym is ∙ e)))

  module _ (low : at ≤ length s) {next : ℕ} (e : p ≡ Ok next) where
    pub passed_within : next ≤ length s
    passed_within = (words_passed s at next low w g (sym is ∙ e)).0

    pub passes : {answer : Result Remark Refusal} → Answers s next g answer → Answers s at (texts w g) answer
    passes a = a ∙ ap answer_of (sym (words_passed s at next low w g (sym is ∙ e)).1)

-- A number and then what follows, or 22 where none stands.
module _ (s : List ℕ) (at : ℕ) (k : ℕ → Grammar Remark) (least most : ℕ) {d : Option (ℕ × ℕ)} (is : d ≡ read_value least most (drop at s) at) where
  pub lacks : {answer : Result Remark Refusal} → d ≡ None → answer ≡ Err (NoSentence at) → Answers s at (value least most k) answer
  lacks e a = a ∙ ap answer_of (sym (value_missing k least most (drop at s) at (sym is ∙ e)))

  module _ (low : at ≤ length s) {n next : ℕ} (e : d ≡ Some (n, next)) where
    pub in_range_lem : (least ≤ n) × (n ≤ most) × (next ≤ length s)
    in_range_lem = let (l, m, within, _) = value_read s at next low k least most n (sym is ∙ e) in (l, m, within)

    pub counts : {answer : Result Remark Refusal} → Answers s next (k n) answer → Answers s at (value least most k) answer
    counts a = a ∙ ap answer_of (sym (value_read s at next low k least most n (sym is ∙ e)).3)

-- The end: nothing is left, or 22 at what is.
module _ (s : List ℕ) (at : ℕ) (r : Remark) where
  pub ends : length s ≤ at → Answers s at (done r) (answer_of (Meant r))
  unfolding read_by
  ends h = rw (drop_of_length-le s h)

  pub left_over : {answer : Result Remark Refusal} → at < length s → answer ≡ answer_of (Stuck at) → Answers s at (done r) answer
  unfolding read_by
  left_over h a = a ∙ rw (drop-cons s at 0 h)

-- An opening is told by its first byte.
module _ (w : List ℕ) (g h : Grammar Remark) (s : List ℕ) (words : 0 < length w) (some : 0 < length s) {answer : Result Remark Refusal} where
  pub opens_so : get_or s 0 0 ≡ get_or w 0 0 → Answers s 0 (texts w g) answer → Answers s 0 (either w g h) answer
  unfolding read_by
  opens_so e a = a ∙ ap answer_of (at w s words some e)
    where
      at : (w s : List ℕ) → 0 < length w → 0 < length s → get_or s 0 0 ≡ get_or w 0 0 → read_by (texts w g) s 0 ≡ read_by (either w g h) s 0
      at [] s words some e = absurd (omega arith)
      at (b ∷ w) [] words some e = absurd (omega arith)
      at (b ∷ w) (c ∷ s) words some e = rw (eq-eqb c b e)

  pub opens_otherwise : (get_or s 0 0 ≡ get_or w 0 0 → ⊥) → Answers s 0 h answer → Answers s 0 (either w g h) answer
  unfolding read_by
  opens_otherwise n a = a ∙ ap answer_of (at w s words some n)
    where
      at : (w s : List ℕ) → 0 < length w → 0 < length s → (get_or s 0 0 ≡ get_or w 0 0 → ⊥) → read_by h s 0 ≡ read_by (either w g h) s 0
      at [] s words some n = absurd (omega arith)
      at (b ∷ w) [] words some n = absurd (omega arith)
      at (b ∷ w) (c ∷ s) words some n = rw (ne_eqb c b n)

-- What follows a place, and the function that a reason names.
pub placed_so : (s : List ℕ) (at n p : ℕ) (f : Refusal) {answer : Result Remark Refusal} → f ≡ refusal_of n p → Answers s at (texts (text ".") (done (remark.Refused f))) answer →
    Answers s at (after_place n p) answer
unfolding after_place
placed_so s at n p f e a = a ∙ ap (λ (f : Refusal). answer_of (read_by (texts (text ".") (done (remark.Refused f))) (drop at s) at)) e

-- Words that are known.
pub words_known : (s : List ℕ) (at : ℕ) {p : Result ℕ ℕ} {w v : List ℕ} → w ≡ v → p ≡ pass_words w (drop at s) at → p ≡ pass_words v (drop at s) at
words_known s at e is = is ∙ ap (λ (w : List ℕ). pass_words w (drop at s) at) e

-- What the check goes by where no answer is written.
pub ruleset steps = (passed_within, passes, lacks, in_range_lem, counts)
