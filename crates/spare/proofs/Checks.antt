-- The checks of every operation say the same of records that are the same but for spare places, and Write writes the same.
use Prim.Native.Nat.{ℕ}
use Rattle.std.specs.Prelude.{Err, Ok, Result}
use Rattle.model.specs.declared.Refusal.{Refusal}
use mathlib.Core.Path.{◌≡◌, refl, ap, ◌∙◌}
use mathlib.Core.List.{List, []}
use mathlib.Core.Bool.{cond}
use lib.ListN.{length}
use lib.Seq.{sets}
use Rattle.model.specs.declared.Function.{Function}
use Rattle.model.specs.declared.Problem.{Problem}
use Rattle.model.specs.Limits.{first_edition, second_edition}
use Rattle.model.specs.Numbers.{some_check, edition_of, numbers_in, numbers_of, problem_of, Sized}
use Rattle.model.specs.File.{edition_in, check_fields, file_bytes}
use Rattle.model.specs.Layouts.{judge_layout}
use Rattle.model.specs.Operations.{SameProblem, after_fields, check_problem, write_checked, write_problem, after_write, written_buffer}
use Rattle.model.specs.Verdicts.{as_verdict, judge_problem, judge_interference, judge_bound, judge_run}
use Rattle.numbers.proofs.Inverse.{problem_of_numbers, numbers_length}
use Rattle.roundtrip.proofs.Same.{same_judged}
use Rattle.roundtrip.proofs.Trip.{written_file}
use Rattle.roundtrip.proofs.Answers.{good_problem}
use Rattle.spare.proofs.Numbers.{checks_agree, files_agree}
use Rattle.spare.proofs.Views.{same_words, same_need}
use Rattle.spare.proofs.Walks.{same_walk}

pub same_layout : {p q : Problem} → SameProblem p q → (layout : List ℕ) → judge_layout p layout ≡ judge_layout q layout
unfolding judge_layout
same_layout same layout = rw (same_need same layout, same.function_count, same.scratchpad)

module _ (p q : Problem) (sized : Sized p) (sized' : Sized q) (same : SameProblem p q) where
  numbered : SameProblem (problem_of (numbers_of p)) (problem_of (numbers_of q))
  numbered = rw (problem_of_numbers (edition_of p) p sized, problem_of_numbers (edition_of q) q sized') same

  -- Both are written in one edition.
  one : edition_in (numbers_of p) ≡ edition_in (numbers_of q)
  unfolding numbers_in edition_of
  one = ap (λ (fs : List Function). cond (some_check fs) second_edition first_edition) same.functions

  same_fields : check_fields (numbers_of p) ≡ check_fields (numbers_of q)
  same_fields = checks_agree (numbers_of p) (numbers_of q) (numbers_length (edition_of q) q sized') one numbered

  -- The problem's own checks, with which every operation begins.
  pub same_checks : check_problem p ≡ check_problem q
  unfolding check_problem
  same_checks = rw same_fields (at (check_fields (numbers_of q)))
    where
      at : (a : Result ℕ Refusal) → after_fields a p ≡ after_fields a q
      at (Ok need) = rw (same_judged same)
      at (Err f) = refl

  pub same_write : (room : ℕ) → write_problem p room ≡ write_problem q room
  unfolding write_problem
  same_write room = ap (λ (a : Result ℕ Refusal). write_checked a room) same_checks

  pub same_file : (need : ℕ) → check_problem p ≡ Ok need → file_bytes (numbers_of p) ≡ file_bytes (numbers_of q)
  same_file need ok =
      files_agree (numbers_of p) (numbers_of q) (numbers_length (edition_of q) q sized') one numbered need (good_problem p need ok).fields

  pub same_buffer : (buf : List ℕ) → written_buffer p buf ≡ written_buffer q buf
  same_buffer buf =
      at (write_problem p (length buf)) refl ∙ ap (λ (a : Result ℕ Refusal). after_write a q buf) (same_write (length buf))
    where
      at : (a : Result ℕ Refusal) → write_problem p (length buf) ≡ a → after_write a p buf ≡ after_write a q buf
      at (Ok n) e = ap (sets buf 0) (same_file n (written_file p buf n e).checked)
      at (Err f) e = refl

  pub same_problem : judge_problem p ≡ judge_problem q
  unfolding judge_problem
  same_problem = ap as_verdict same_checks

  pub same_interference : (room : ℕ) → judge_interference p room ≡ judge_interference q room
  unfolding judge_interference
  same_interference room = rw (same_problem, same_words same)

  pub same_bound : (layout : List ℕ) → judge_bound p layout ≡ judge_bound q layout
  unfolding judge_bound
  same_bound layout = rw (same_problem, same_layout same layout)

  pub same_run : (layout walk : List ℕ) → judge_run p layout walk ≡ judge_run q layout walk
  unfolding judge_run
  same_run layout walk = rw (same_bound layout, same_walk same [] 0 walk)
