-- Read and Write, stage by stage: what each function returns is what the definition says for the stage that it stops at.
use Prim.Native.Nat.{ℕ, ◌≤◌, ◌<◌}
use Rattle.std.specs.Prelude.{Err, Ok, Result}
use Rattle.model.specs.Refusals.{Verdict}
use mathlib.Core.Path.{◌≡◌, refl, sym, ap, ◌∙◌}
use mathlib.Core.List.{List}
use lib.ListN.{length}
use lib.Seq.{sets}
use borrow.Author.Tests.{lt-ltb, le-ltb}
use Rattle.model.specs.declared.Refusal.{Refusal}
use Rattle.model.specs.declared.Refusal.TheVariants as refusal
use Rattle.model.specs.declared.Problem.{Problem}
use Rattle.model.specs.Numbers.{edition_of, numbers_in, problem_of}
use Rattle.model.specs.File.{edition_in, Scan, scanned, read_fields, check_fields, file_bytes}
use Rattle.model.specs.Graph.{judge_graph}
use Rattle.model.specs.Operations.{read_verdict, read_rest, read_file, write_checked, write_problem, after_write, written_buffer, after_graph, after_fields, Checked}
use Rattle.model.proofs.Answers.{refused_not_accepted}
use Rattle.numbers.specs.Numbered.{Numbered}
use Rattle.numbers.proofs.Inverse.{sized_problem, numbers_of_problem}
use Rattle.writing.specs.Fits.{Fits}
use Rattle.file.proofs.NumbersRead.{size_read, checked_read}
use Rattle.checks.proofs.Opened.{good, checks_problem}
use Rattle.checks.specs.Steps.{check_numbers}
use Rattle.file.specs.Steps.{NumbersRead, WrittenAs}

-- Reading, where the fields left the answer f and the numbers l.
module _ (s : List ℕ) (f : Result ℕ Refusal) (l : List ℕ) (is : scanned f l ≡ read_fields s) where
  rest : (g : Result ℕ Refusal) → f ≡ g → read_rest (length s) g l ≡ read_file s
  unfolding read_file
  rest g e = ap (λ (x : Result ℕ Refusal). read_rest (length s) x l) (sym e) ∙ ap (λ (x : Scan). read_rest (length s) x.answer x.numbers) is

  pub read_refused : (r : Refusal) → f ≡ Err r → NumbersRead s l (Err r)
  read_refused r e = record { answer = rest _ e; checked = refused_not_accepted }

  module _ (end : ℕ) (e : f ≡ Ok end) where
    pub left_over : end < length s → NumbersRead s l (Err (refusal.LeftOver end))
    left_over h = record { answer = simp (lt-ltb end (length s) h) at (rest _ e); checked = refused_not_accepted }

    pub graph_judged : length s ≤ end → (v : Verdict) → v ≡ judge_graph (problem_of l) → NumbersRead s l v
    graph_judged h v judged =
        let passed = checked_read s f l is end e in
        record {
          answer = ap (λ (x : Verdict). read_verdict x (problem_of l)) judged ∙ simp (le-ltb end (length s) h) at (rest _ e);
          checked = λ good. record { size = size_read s f l is end e; need = passed.0; fields = passed.1; graph = sym judged ∙ good };
        }

-- Read's answer, made of the numbers.
module _ (s l : List ℕ) (v : Verdict) (r : NumbersRead s l v) where
  pub no_problem : (f : Refusal) → v ≡ Err f → Err f ≡ read_file s
  no_problem f e = ap (λ (w : Verdict). read_verdict w (problem_of l)) (sym e) ∙ r.answer

  pub whole_problem : v ≡ Ok tt → (p : Problem) → p ≡ problem_of l → Ok p ≡ read_file s
  whole_problem e p z = ap Ok z ∙ ap (λ (x : Verdict). read_verdict x (problem_of l)) (sym e) ∙ r.answer

-- Write, where the problem's numbers are l and its checks gave f: they refused it, or gave the file's length.
module _ (p : Problem) (l buf : List ℕ) (numbered : Numbered p l) (f : Result ℕ Refusal) (is : f ≡ check_numbers l) where
  writes : (g : Result ℕ Refusal) → f ≡ g → write_checked g (length buf) ≡ write_problem p (length buf)
  unfolding write_problem
  writes g e = ap (λ (x : Result ℕ Refusal). write_checked x (length buf)) (sym e ∙ checks_problem p l numbered f is)

  holds : (a : Result ℕ Refusal) → a ≡ write_problem p (length buf) → after_write a p buf ≡ written_buffer p buf
  holds a e = ap (λ (x : Result ℕ Refusal). after_write x p buf) e

  pub not_written : (x : Refusal) → f ≡ Err x → (Err x ≡ write_problem p (length buf)) × (buf ≡ written_buffer p buf)
  not_written x e = let a : Err x ≡ write_problem p (length buf) = writes _ e in (a, holds _ a)

-- The end of Write, whichever problem the numbers are of.
module _ (l buf : List ℕ) (need : ℕ) (passed : check_numbers l ≡ Ok need) where
  pub too_short : length buf < need → (p : Problem) → Numbered p l → WrittenAs p buf buf (Err (refusal.BufferTooShort need))
  too_short h p numbered =
      let a : Err (refusal.BufferTooShort need) ≡ write_problem p (length buf) = simp (lt-ltb (length buf) need h) at (writes p l buf numbered (check_numbers l) refl _ passed) in
      record { answer = a; buffer = holds p l buf numbered (check_numbers l) refl _ a }

  checked : check_fields l ≡ Ok need
  unfolding check_numbers
  checked = (good (check_fields l) (problem_of l) need passed).fields

  module _ (h : need ≤ length buf) where
    pub fits : Fits l buf
    fits = record { need = need; checked = checked; room = h }

    pub written : (n : ℕ) (after : List ℕ) → Ok n ≡ check_fields l → after ≡ sets buf 0 (file_bytes l) → (p : Problem) → Numbered p l → WrittenAs p buf after (Ok n)
    written n after d w p numbered =
        let same : ◌≡◌ {A = Result ℕ Refusal} (Ok n) (Ok need) = d ∙ checked in
        let count : n ≡ need = cc in
        let a : Ok n ≡ write_problem p (length buf) = rw count (simp (le-ltb (length buf) need h) at (writes p l buf numbered (check_numbers l) refl _ passed)) in
        record { answer = a; buffer = w ∙ ap (λ (x : List ℕ). sets buf 0 (file_bytes x)) numbered.is ∙ holds p l buf numbered (check_numbers l) refl _ a }

-- Checked numbers are a problem's own, and their checks end with the length of their file.
module _ (l : List ℕ) (ok : Checked l) (need : ℕ) (length_is : check_fields l ≡ Ok need) where
  pub own : edition_in l ≡ edition_of (problem_of l) → Numbered (problem_of l) l
  own edition = record { is = sym (numbers_of_problem l ok.size) ∙ ap (λ (n : ℕ). numbers_in n (problem_of l)) edition; sized = sized_problem l }

  pub passes : check_numbers l ≡ Ok need
  unfolding check_numbers
  passes = ap (λ (f : Result ℕ Refusal). after_fields f (problem_of l)) length_is ∙ ap (λ (v : Verdict). after_graph v need) ok.graph
