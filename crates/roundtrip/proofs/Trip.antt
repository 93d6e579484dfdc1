-- Read and Write undo each other, but for padding and edition: the files that are read as a problem are its files, padded or not, and what is written is the
-- shortest of them. A lawful problem, written, is read as itself.
use Prim.Native.Nat.{ℕ, ◌+◌, ◌≤◌, ◌<◌}
use Rattle.std.specs.Prelude.{Ok, Result}
use Rattle.model.specs.Refusals.{Verdict}
use Rattle.model.specs.declared.Refusal.{Refusal}
use mathlib.Core.Path.{◌≡◌, sym, ap, subst, ◌∙◌}
use mathlib.Core.List.{List, ◌++◌}
use native.Mathlib.Omega.{arith}
use lib.ListN.{length, take, drop, replicate}
use lib.Seq.{sets, sets-eq, take_at}
use borrow.Author.Tests.{le-ltb}
use Rattle.model.specs.declared.Problem.{Problem}
use Rattle.model.specs.Spelling.{Bytes}
use Rattle.model.specs.Limits.{first_edition, second_edition}
use Rattle.model.specs.Numbers.{edition_of, numbers_in, numbers_of, problem_of, Sized}
use Rattle.model.specs.File.{number_count, first_field, edition_in, Scan, scanned, read_fields, check_fields, cleared}
use Rattle.model.specs.Graph.{judge_graph}
use Rattle.model.specs.Operations.{read_verdict, read_rest, read_file, SameProblem, cleared_problem, check_problem, write_checked, write_problem, after_write, written_buffer}
use Rattle.model.proofs.Cases.{by_same}
use Rattle.numbers.proofs.At.{functions_are}
use Rattle.numbers.proofs.Inverse.{numbers_of_problem, sized_problem}
use Rattle.numbers.proofs.Written.{edition_limits}
use Rattle.facts.proofs.Good.{GoodNumbers}
use Rattle.facts.proofs.Judging.{checked_good}
use Rattle.facts.specs.Fields.{FieldFacts}
use Rattle.facts.proofs.Facts.{good_facts, field_facts}
use Rattle.facts.proofs.Done.{facts_done}
use Rattle.facts.proofs.Cleared.{fill_cleared}
use Rattle.roundtrip.specs.Files.{Padded, FileOf, short_file, wide_file}
use Rattle.roundtrip.proofs.Ends.{judged_ends}
use Rattle.roundtrip.proofs.Editions.{own_edition, same_behind, in_edition, edition_enough, settled, cleared_alike}
use Rattle.roundtrip.proofs.Files.{unpadded, wide, NoShorter, no_shorter, padded_bytes}
use Rattle.roundtrip.proofs.Saved.{saved_file}
use Rattle.roundtrip.proofs.Reading.{FileRead, fields_file}
use Rattle.roundtrip.proofs.Writing.{fields_back}
use Rattle.roundtrip.proofs.Same.{same_judged, same_checked}
use Rattle.roundtrip.proofs.Answers.{Whole, whole, GoodProblem, good_problem, is_checked, Roomy, has_room}

-- Writing a lawful problem where there is room for it.
writes : (p : Problem) (room need : ℕ) → check_problem p ≡ Ok need → need ≤ room → write_problem p room ≡ Ok need
unfolding write_problem
writes p room need checked enough = ap (λ (f : Result ℕ Refusal). write_checked f room) checked ∙ simp (le-ltb room need enough)

-- What was written stands at the front of the buffer.
stored : (p : Problem) (buf : List ℕ) (n : ℕ) → write_problem p (length buf) ≡ Ok n → n ≤ length buf → n ≡ length (short_file p) →
    written_buffer p buf ≡ short_file p ++ drop n buf
stored p buf n e room long =
    let end : 0 + length (short_file p) ≡ n = omega arith in
    ap (λ (a : Result ℕ Refusal). after_write a p buf) e
    ∙ sets-eq (short_file p) buf 0 (omega arith)
    ∙ ap (λ (k : ℕ). short_file p ++ drop k buf) end

-- A lawful problem p, whose shortest file has `need` bytes.
module _ (p : Problem) (need : ℕ) (checked : check_problem p ≡ Ok need) where
  lawful : GoodProblem p need
  lawful = good_problem p need checked

  pub file_length : need ≡ length (short_file p)
  file_length = judged_ends (numbers_of p) need number_count 0 0 first_field lawful.fields ∙ omega arith

short_is : (p : Problem) → FileOf p (short_file p)
short_is p = record { edition = edition_of p; enough = omega arith; known = (edition_limits p).1; padded = unpadded (numbers_of p) number_count first_field }

module _ (p : Problem) (sized : Sized p) (need : ℕ) (checked : check_problem p ≡ Ok need) where
  -- Clearing its spare places leaves a lawful problem the same.
  pub same_cleared : SameProblem p (cleared_problem p)
  same_cleared = same_checked p sized need (lawful p need checked).fields

  graph_cleared : judge_graph (cleared_problem p) ≡ Ok tt
  graph_cleared = sym (same_judged same_cleared) ∙ (lawful p need checked).graph

  own_facts : FieldFacts (numbers_of p)
  own_facts = field_facts (numbers_of p) need (lawful p need checked).fields

  module _ (s : List ℕ) (file : FileOf p s) where
    -- The numbers are good in each edition that can say the problem.
    good_numbers : GoodNumbers (numbers_in file.edition p)
    good_numbers =
        let done = facts_done (numbers_in file.edition p) (in_edition p sized (edition_of p) file.edition file.enough file.known own_facts) in
        checked_good (numbers_in file.edition p) done.0 done.1

    -- Every file of a lawful problem is read as the problem, with every spare place zero.
    pub padded_read : read_file s ≡ Ok (cleared_problem p)
    unfolding read_file
    padded_read =
        ap (λ (x : Scan). read_rest (length s) x.answer x.numbers) (fields_back (numbers_in file.edition p) s good_numbers file.padded)
        ∙ simp (le-ltb (length s) (length s) (omega arith))
        (ap (λ (q : Problem). read_verdict (judge_graph q) q) (cleared_alike p file.edition (edition_of p))
        ∙ ap (λ (v : Verdict). read_verdict v (cleared_problem p)) graph_cleared)

    -- In an edition above the one that is written every function costs a byte.
    pub edition_saved : edition_of p < file.edition → length (short_file p) + p.function_count ≤ length s
    edition_saved above =
        let limits = edition_limits p in
        let one : edition_in (numbers_of p) ≡ first_edition = own_edition (edition_of p) p ∙ omega (arith, file.known) in
        let two : edition_in (numbers_in file.edition p) ≡ second_edition = own_edition file.edition p ∙ omega (arith, file.known) in
        let saved = saved_file (numbers_of p) (numbers_in file.edition p) one two (same_behind p (edition_of p) file.edition) number_count s (omega arith) good_numbers file.padded in
        omega (arith, functions_are file.edition p sized)

    -- The file that is written is the shortest, and no other is as short.
    pub shortest : NoShorter (short_file p) s
    shortest =
        by_same file.edition (edition_of p)
        (λ same. no_shorter (subst (λ (edition : ℕ). Padded (numbers_in edition p) number_count first_field s) same file.padded))
        (λ other.
        let saved = edition_saved (omega (arith, file.enough)) in
        let some = own_facts.some_function in
        let functions = functions_are (edition_of p) p sized in
        record { long = omega arith; same = λ h. absurd (omega arith) })

  -- The shortest, which is written.
  pub write_then_read : read_file (short_file p) ≡ Ok (cleared_problem p)
  write_then_read = padded_read (short_file p) (short_is p)

  -- The linker's.
  pub wide_read : read_file (wide_file p) ≡ Ok (cleared_problem p)
  wide_read = padded_read (wide_file p) (record { edition = edition_of p; enough = omega arith; known = (edition_limits p).1; padded = wide (numbers_of p) number_count first_field })

-- Write put n bytes into buf: they are the file of p.
pub record WrittenFile (p : Problem) (buf : List ℕ) (n : ℕ) : Type 0 where
  pub checked : check_problem p ≡ Ok n
  pub room : n ≤ length buf
  pub long : n ≡ length (short_file p)
  pub buffer : written_buffer p buf ≡ short_file p ++ drop n buf
  pub file : take n (written_buffer p buf) ≡ short_file p

pub written_file : (p : Problem) (buf : List ℕ) (n : ℕ) → write_problem p (length buf) ≡ Ok n → WrittenFile p buf n
written_file p buf n e =
    let r : Roomy (check_problem p) (length buf) n = has_room (length buf) n p e in
    let long : n ≡ length (short_file p) = file_length p n r.checked in
    let buffer : written_buffer p buf ≡ short_file p ++ drop n buf = stored p buf n e r.room long in
    record {
      checked = r.checked;
      room = r.room;
      long = long;
      buffer = buffer;
      file = ap (take n) buffer ∙ take_at (short_file p) (drop n buf) n (sym long);
    }

-- What Write wrote of a problem is read as the problem, with every spare place zero.
pub written_read : (p : Problem) → Sized p → (buf : List ℕ) (n : ℕ) → write_problem p (length buf) ≡ Ok n →
    read_file (take n (written_buffer p buf)) ≡ Ok (cleared_problem p)
written_read p sized buf n e =
    let w : WrittenFile p buf n = written_file p buf n e in
    ap read_file w.file ∙ write_then_read p sized n w.checked

-- The bytes s are accepted as the problem p: they are a file of it, and its spare places are zero.
pub record ReadAs (s : List ℕ) (p : Problem) : Type 0 where
  pub sized : Sized p
  pub file : FileOf p s
  pub checked : check_problem p ≡ Ok (length (short_file p))
  pub spare : cleared_problem p ≡ p

-- The numbers l that the whole of s has.
module _ (s l : List ℕ) (file : FileRead number_count (replicate number_count 0) s l) where
  facts : FieldFacts l
  facts = good_facts l file.into.good

  own_numbers : numbers_in (edition_in l) (problem_of l) ≡ l
  own_numbers = numbers_of_problem l file.into.size

  fields_checked : check_fields (numbers_of (problem_of l)) ≡ Ok (length (short_file (problem_of l)))
  fields_checked =
      let done = settled l file.into.size facts in
      done.1 ∙ ap Ok (judged_ends (numbers_of (problem_of l)) done.0 number_count 0 0 first_field done.1 ∙ omega arith)

  read_as : judge_graph (problem_of l) ≡ Ok tt → ReadAs s (problem_of l)
  read_as graph =
      record {
        sized = sized_problem l;
        file = record {
          edition = edition_in l;
          enough = edition_enough l facts;
          known = facts.edition_high;
          padded = subst (λ (m : List ℕ). Padded m number_count first_field s) (sym own_numbers) file.padded;
        };
        checked = is_checked (problem_of l) _ (record { fields = fields_checked; graph = graph });
        spare =
            cleared_alike (problem_of l) (edition_of (problem_of l)) (edition_in l)
            ∙ ap (λ (m : List ℕ). problem_of (cleared m)) own_numbers
            ∙ ap problem_of (sym (fill_cleared l file.into.good) ∙ sym file.into.filled);
      }

-- The problem p, written back into buf: the shortest file of p, which is read as p again, and past it what buf held.
pub record Rewritten (p : Problem) (buf : List ℕ) : Type 0 where
  pub answer : write_problem p (length buf) ≡ Ok (length (short_file p))
  pub buffer : written_buffer p buf ≡ short_file p ++ drop (length (short_file p)) buf
  pub again : read_file (take (length (short_file p)) (written_buffer p buf)) ≡ Ok p

-- A file s that Read accepts as p.
module _ (s : List ℕ) (byte : Bytes s) (p : Problem) (is_read : read_file s ≡ Ok p) where
  whole_file : Whole (length s) (read_fields s).answer (read_fields s).numbers p
  unfolding read_file
  whole_file = whole (length s) (read_fields s).numbers p (read_fields s).answer is_read

  pub accepted : ReadAs s p
  accepted =
      let w : Whole (length s) (read_fields s).answer (read_fields s).numbers p = whole_file in
      let l : List ℕ = (read_fields s).numbers in
      let file : FileRead number_count (replicate number_count 0) s l =
      fields_file s l w.end byte w.none_left (ap (λ (f : Result ℕ Refusal). scanned f l) w.done) in
      subst (λ (q : Problem). ReadAs s q) w.problem (read_as s l file w.graph)

  -- It is a file of p.
  pub read_file_lem : FileOf p s
  read_file_lem = accepted.file

  -- Each file of p is read as p: files that differ in padding and edition alone are not told apart.
  pub file_read : (t : List ℕ) → FileOf p t → read_file t ≡ Ok p
  file_read t file = padded_read p accepted.sized (length (short_file p)) accepted.checked t file ∙ ap Ok accepted.spare

  -- Of the files of p the one that is written is the shortest.
  shortest_of : (t : List ℕ) → FileOf p t → NoShorter (short_file p) t
  shortest_of = shortest p accepted.sized (length (short_file p)) accepted.checked

  -- Every spare place of an accepted problem is zero.
  pub read_spare : cleared_problem p ≡ p
  read_spare = accepted.spare

  -- An accepted problem passes the checks of writing, and needs no more bytes than were read.
  pub read_checked : (check_problem p ≡ Ok (length (short_file p))) × (length (short_file p) ≤ length s)
  read_checked = (accepted.checked, (shortest_of s read_file_lem).long)

  -- An accepted file, written back into a buffer with room for the shortest file of its problem.
  pub read_then_write : (buf : List ℕ) → length (short_file p) ≤ length buf → Rewritten p buf
  read_then_write buf room =
      let answer : write_problem p (length buf) ≡ Ok (length (short_file p)) = writes p (length buf) (length (short_file p)) accepted.checked room in
      let w : WrittenFile p buf (length (short_file p)) = written_file p buf (length (short_file p)) answer in
      record { answer = answer; buffer = w.buffer; again = ap read_file w.file ∙ file_read (short_file p) (short_is p) }

  -- A file that is no longer than the one that is written is that one.
  pub shortest_file : length s ≤ length (short_file p) → s ≡ short_file p
  shortest_file h = (shortest_of s read_file_lem).same h

  -- So a file than which no other of its problem is shorter keeps its bytes.
  pub shortest_kept : ((t : List ℕ) → Bytes t → read_file t ≡ Ok p → length s ≤ length t) → s ≡ short_file p
  shortest_kept least = shortest_file (least (short_file p) (padded_bytes (short_is p).padded) (file_read (short_file p) (short_is p)))
