-- What is claimed of sentences: reading gives back what a sentence came from, no two remarks share one, no two answers are right, and none is longer than 128.
use Prim.Native.Nat.{ℕ, suc}
use Rattle.std.specs.Prelude.{Err, Ok, Result}
use Rattle.model.specs.declared.Refusal.{Refusal}
use mathlib.Core.Path.{◌≡◌, refl, sym, ap, ◌∙◌, subst}
use mathlib.Core.List.{List, ◌++◌}
use lib.ListN.{take}
use Rattle.model.specs.declared.Remark.{Remark}
use Rattle.model.specs.Sentences.{sentence, Wordable, Begins, ReadsAs}
use Rattle.grammar.specs.Grammar.{Out, Meant, Stuck, read_by, Spells, Starts, Reads}
use Rattle.grammar.proofs.Reading.{reads, one_meaning, decided}
use Rattle.sentences.specs.Remarks.{remarks, answer_of}
use Rattle.sentences.proofs.Told.{remarks_live, spelt, told}

-- A text begins a sentence exactly if the grammar allows a text that begins so.
to_begins : (t : List ℕ) → Starts remarks t → Begins t
to_begins t (rest, (r, x)) = let (w, e) = told (t ++ rest) r x in (rest, r, w, e)

from_begins : (t : List ℕ) → Begins t → Starts remarks t
from_begins t (rest, r, w, e) = (rest, (r, subst (λ (s : List ℕ). Spells remarks s r) (sym e) (spelt r w)))

spelt_as : (s : List ℕ) (r : Remark) → Wordable r → s ≡ sentence r → Spells remarks s r
spelt_as s r w e = subst (λ (t : List ℕ). Spells remarks t r) (sym e) (spelt r w)

-- An answer is right exactly if the grammar's is.
from_reads : (s : List ℕ) (o : Out Remark) → Reads remarks s o → ReadsAs s (answer_of o)
from_reads s (Meant r) x = told s r x
from_reads s (Stuck k) (none, low, starts, more) =
    (λ r w e. none r (spelt_as s r w e), (k, refl, low, to_begins (take k s) starts, λ h b. more h (from_begins (take (suc k) s) b)))

to_reads : (s : List ℕ) (a : Result Remark Refusal) → ReadsAs s a → (o : Out Remark) × (a ≡ answer_of o) × Reads remarks s o
to_reads s (Ok r) (w, e) = (Meant r, refl, spelt_as s r w e)
to_reads s (Err f) (none, (k, is, low, begins, more)) = (
  Stuck k,
  ap Err is,
  ((λ r x. let (w, e) = told s r x in none r w e), low, from_begins (take k s) begins, λ h b. more h (to_begins (take (suc k) s) b)),
)

-- Reading by the grammar gives the right answer.
pub reads_as_lem : (s : List ℕ) → ReadsAs s (answer_of (read_by remarks s 0))
reads_as_lem s = from_reads s (read_by remarks s 0) (reads remarks remarks_live.good remarks_live.alive s)

-- No two answers are right.
pub sentence_decided : (s : List ℕ) (a b : Result Remark Refusal) → ReadsAs s a → ReadsAs s b → a ≡ b
sentence_decided s a b x y =
    let (o, e, u) = to_reads s a x in
    let (p, f, v) = to_reads s b y in
    e ∙ ap answer_of (decided remarks remarks_live.good s o p u v) ∙ sym f

-- The sentence of a wordable remark reads as that remark, and as nothing else.
pub read_back : (r : Remark) → Wordable r → (a : Result Remark Refusal) → ReadsAs (sentence r) a → a ≡ Ok r
read_back r w a x = sentence_decided (sentence r) a (Ok r) x (w, refl)

-- No two wordable remarks share a sentence.
pub no_two : (r q : Remark) → Wordable r → Wordable q → sentence r ≡ sentence q → r ≡ q
no_two r q w x e = one_meaning remarks remarks_live.good (sentence r) r q (spelt r w) (spelt_as (sentence r) q x e)
