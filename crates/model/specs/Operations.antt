-- Read and Write: which refusal applies first, or the result.
use Rattle.std.specs.Prelude.{ℕ, ◌≡◌, List, cond, length, ltb, Err, Ok, Result}
use Rattle.model.specs.Refusals.{Verdict}
use Rattle.model.specs.declared.Refusal.{Refusal}
use Rattle.std.proofs.lemmas.List.Edits.{sets}
use Rattle.model.specs.declared.Refusal.TheVariants as refusal
use Rattle.model.specs.declared.Problem.{Problem}
use Rattle.model.specs.Numbers.{numbers_of, problem_of}
use Rattle.model.specs.File.{number_count, read_fields, check_fields, file_bytes, cleared}
use Rattle.model.specs.Graph.{functions_of, vertices_of, edges_of, loops_of, judge_graph}

-- Read's answer, where the file's numbers are a problem's and this is the verdict on it.
abbrev pub read_verdict : Verdict → Problem → Result Problem Refusal
read_verdict (Ok _) p = Ok p
read_verdict (Err f) p = Err f

-- After the fields: 5, bytes left over; then the graph.
abbrev pub read_rest : ℕ → Result ℕ Refusal → List ℕ → Result Problem Refusal
read_rest size (Ok at) l =
    cond (ltb at size) (Err (refusal.LeftOver at)) (read_verdict (judge_graph (problem_of l)) (problem_of l))
read_rest size (Err f) l = Err f

-- **Read.**
unfoldable pub read_file : List ℕ → Result Problem Refusal
read_file s = read_rest (length s) (read_fields s).answer (read_fields s).numbers

-- The same problem: equal but for spare places, which are no part of it.
pub record SameProblem (p q : Problem) : Type 0 where
  pub scratchpad : p.scratchpad ≡ q.scratchpad
  pub function_count : p.function_count ≡ q.function_count
  pub functions : functions_of p ≡ functions_of q
  pub vertex_count : p.vertex_count ≡ q.vertex_count
  pub vertices : vertices_of p ≡ vertices_of q
  pub edge_count : p.edge_count ≡ q.edge_count
  pub edges : edges_of p ≡ edges_of q
  pub loop_count : p.loop_count ≡ q.loop_count
  pub loops : loops_of p ≡ loops_of q

-- The problem with every spare place zero.
abbrev pub cleared_problem : Problem → Problem
cleared_problem p = problem_of (cleared (numbers_of p))

-- A problem's own checks, as in Write through 9, with the length of its file: every operation on a problem begins with these.
abbrev pub after_graph : Verdict → ℕ → Result ℕ Refusal
after_graph (Ok _) need = Ok need
after_graph (Err f) need = Err f

abbrev pub after_fields : Result ℕ Refusal → Problem → Result ℕ Refusal
after_fields (Ok need) p = after_graph (judge_graph p) need
after_fields (Err f) p = Err f

unfoldable pub check_problem : Problem → Result ℕ Refusal
check_problem p = after_fields (check_fields (numbers_of p)) p

-- A problem's numbers that passed these checks, for what goes on with the good case.
pub record Checked (l : List ℕ) : Type 0 where
  pub size : length l ≡ number_count
  pub need : ℕ
  pub fields : check_fields l ≡ Ok need
  pub graph : judge_graph (problem_of l) ≡ Ok tt

-- **Write** into a buffer of `room` bytes: the problem's checks, then 10, the buffer is too short.
abbrev pub write_checked : Result ℕ Refusal → ℕ → Result ℕ Refusal
write_checked (Ok need) room = cond (ltb room need) (Err (refusal.BufferTooShort need)) (Ok need)
write_checked (Err f) room = Err f

unfoldable pub write_problem : Problem → ℕ → Result ℕ Refusal
write_problem p room = write_checked (check_problem p) room

-- What the buffer holds afterwards: the file, and past it what it held; on a refusal all that it held.
abbrev pub after_write : Result ℕ Refusal → Problem → List ℕ → List ℕ
after_write (Ok n) p buf = sets buf 0 (file_bytes (numbers_of p))
after_write (Err f) p buf = buf

abbrev pub written_buffer : Problem → List ℕ → List ℕ
written_buffer p buf = after_write (write_problem p (length buf)) p buf
