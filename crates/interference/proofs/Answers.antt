-- Interference's answer is what its definition says for the stage that it stops at.
use Prim.Native.Nat.{ℕ, ◌*◌, ◌≤◌, ◌<◌}
use Rattle.std.specs.Prelude.{Err, Ok, Result}
use Rattle.model.specs.Refusals.{Verdict}
use mathlib.Core.Path.{◌≡◌, refl, ap, subst, ◌∙◌, sym}
use mathlib.Core.List.{List}
use mathlib.Core.Bool.{cond}
use native.Mathlib.Omega.{arith}
use lib.ListN.{length}
use lib.Dec.{ltb}
use borrow.Author.Tests.{lt-ltb, le-ltb}
use Rattle.model.specs.declared.Refusal.{Refusal}
use Rattle.model.specs.declared.Refusal.TheVariants.{BufferTooShort}
use Rattle.model.specs.declared.Problem.{Problem}
use Rattle.model.specs.Numbers.{problem_of}
use Rattle.model.specs.Graph.{and_then}
use Rattle.model.specs.Operations.{Checked}
use Rattle.model.specs.Verdicts.{judge_problem, word_count, judge_interference}
use Rattle.model.specs.Results.{InterferenceSays}
use Rattle.numbers.specs.Numbered.{Numbered}
use Rattle.checks.specs.Steps.{judge_numbers}
use Rattle.checks.proofs.Opened.{judges_problem, same_problem, checked_problem}
use Rattle.sets.specs.Sets.{set_words, SetTable}
use Rattle.interference.specs.Copies.{Copied}
use Rattle.lookup.proofs.Places.{facts, few_vertices, few_functions}
use Rattle.interference.proofs.Copies.{few_words}
use Rattle.model.specs.Places as places

-- After the problem's checks: the room for the words.
module _ (p : Problem) (room : ℕ) where
  room_left : Verdict
  room_left = cond (ltb room (word_count p)) (Err (BufferTooShort (word_count p))) (Ok tt)

  after_checks : (v : Verdict) → judge_problem p ≡ v → judge_interference p room ≡ and_then v room_left
  unfolding judge_interference room_left
  after_checks v e = ap (λ (x : Verdict). and_then x room_left) e

-- The problem's numbers are l, the lent words hold `words`, and the checks gave v.
module _ (p : Problem) (l words : List ℕ) (numbered : Numbered p l) (v : Verdict) (is : v ≡ judge_numbers l) where
  pub not_checked : (x : Refusal) → v ≡ Err x → InterferenceSays p words words (Err x)
  not_checked x e = (after_checks p (length words) (Err x) (sym (judges_problem p l numbered v is) ∙ e), refl)

  -- What is said of the numbers' problem is said of the problem.
  pub own_says : (after : List ℕ) (a : Result ℕ Refusal) → InterferenceSays (problem_of l) words after a → InterferenceSays p words after a
  own_says after a s = subst (λ (q : Problem). InterferenceSays q words after a) (same_problem p l numbered) s

-- Checked numbers, with their counts.
module _ (l : List ℕ) (ok : Checked l)
    (vertices count : ℕ) (is_vertices : vertices ≡ (problem_of l).vertex_count) (is_count : count ≡ (problem_of l).function_count) where
  pub counts_small : (vertices ≤ places.most_vertices) × (count ≤ places.most_functions)
  counts_small = (omega (arith, few_vertices l (facts _ ok)), omega (arith, few_functions l (facts _ ok)))

  pub product_small : vertices * count ≤ set_words
  product_small = few_words vertices count counts_small.0 counts_small.1

  words_needed : vertices * count ≡ word_count (problem_of l)
  words_needed = rw (is_vertices, is_count)

  module _ (words : List ℕ) where
    pub too_few : length words < vertices * count → InterferenceSays (problem_of l) words words (Err (BufferTooShort (vertices * count)))
    unfolding room_left
    too_few h =
        (after_checks (problem_of l) (length words) (Ok tt) (checked_problem l ok) ∙ rw (← words_needed, lt-ltb (length words) (vertices * count) h), refl)

    module _ (enough : vertices * count ≤ length words) where
      accepted : judge_interference (problem_of l) (length words) ≡ Ok tt
      unfolding room_left
      accepted =
          after_checks (problem_of l) (length words) (Ok tt) (checked_problem l ok) ∙ rw (← words_needed, le-ltb (length words) (vertices * count) enough)

      -- The words copied out of the table are the sets.
      pub filled : (table after : List ℕ) → SetTable (problem_of l) table → Copied table vertices count words after →
          InterferenceSays (problem_of l) words after (Ok (vertices * count))
      filled table after t c = (
        accepted,
        record {
          filled = words_needed;
          member = λ v g b lv lg. rw (← is_count, c.copied v g (omega arith) (omega arith)) (t.member v g b lv lg);
          later = c.later;
          long = c.long;
        },
      )
