-- Interference, Bound, Run and Eviction: the order of their checks. Each goes on only with the good case of the check before it.
use Rattle.std.specs.Prelude.{ℕ, ◌+◌, ◌*◌, List, [], ◌∷◌, Bool, false, cond, ◌&&◌, length, eqb, ltb, Err, Ok, Result}
use Rattle.model.specs.Refusals.{Verdict}
use Rattle.model.specs.declared.Refusal.{Refusal}
use Rattle.model.specs.declared.Refusal.TheVariants.{BufferTooShort, WrongStep, BeyondBound, WalkTooLong, UnknownVertex}
use Rattle.model.specs.declared.Problem.{Problem}
use Rattle.model.specs.Search.{exists_below}
use Rattle.model.specs.Graph.{edge, loop, edges_of, loops_of, and_then}
use Rattle.model.specs.Walks.{last_vertex, visits}
use Rattle.model.specs.Layouts.{judge_layout}
use Rattle.model.specs.Operations.{check_problem}

-- As in Write through 9.
abbrev pub as_verdict : Result ℕ Refusal → Verdict
as_verdict (Ok need) = Ok tt
as_verdict (Err f) = Err f

unfoldable pub judge_problem : Problem → Verdict
judge_problem p = as_verdict (check_problem p)

-- **Interference** into `room` words: 10, fewer than vertices × functions words (words needed).
abbrev pub word_count : Problem → ℕ
word_count p = p.vertex_count * p.function_count

unfoldable pub judge_interference : Problem → ℕ → Verdict
judge_interference p room =
    and_then (judge_problem p) (cond (ltb room (word_count p)) (Err (BufferTooShort (word_count p))) (Ok tt))

-- **Bound**, through 13. (14 is about the bound itself.)
unfoldable pub judge_bound : Problem → List ℕ → Verdict
judge_bound p layout = and_then (judge_problem p) (judge_layout p layout)

-- A walk, entry by entry, after the history h at position k.
module _ (p : Problem) where
  -- Vertex 0 at position 0, and then an edge from the entry before.
  unfoldable pub may_follow : List ℕ → ℕ → Bool
  may_follow [] v = eqb v 0
  may_follow (u ∷ h) v = exists_below (length (edges_of p)) (λ i. eqb (edge (edges_of p) i).from u && eqb (edge (edges_of p) i).to v)

  -- A header beyond its bound.
  unfoldable pub past_bound : List ℕ → ℕ → Bool
  past_bound h v =
      exists_below (length (loops_of p)) (λ i.
      eqb (loop (loops_of p) i).header v && ltb (loop (loops_of p) i).bound (visits (loop (loops_of p) i) (v ∷ h)))

  unfoldable pub at_last : List ℕ → Bool
  at_last [] = false
  at_last (v ∷ h) = eqb v (last_vertex p)

  -- 15 before 16 at one position; an end that is not the last vertex is 15 at the length.
  unfoldable pub judge_walk : List ℕ → ℕ → List ℕ → Verdict
  judge_walk h k [] = cond (at_last h) (Ok tt) (Err (WrongStep k))
  judge_walk h k (v ∷ rest) =
      cond (ltb v p.vertex_count && may_follow h v)
      (cond (past_bound h v) (Err (BeyondBound k)) (judge_walk (v ∷ h) (k + 1) rest))
      (Err (WrongStep k))

-- The longest walk that Run takes.
abbrev pub walk_limit : ℕ
walk_limit = 1000000

-- **Run**: as Bound through 13; 17, a walk over 1,000,000 entries, before any entry is judged; then the first bad position.
unfoldable pub judge_run : Problem → List ℕ → List ℕ → Verdict
judge_run p layout walk =
    and_then (judge_bound p layout)
    (cond (ltb walk_limit (length walk)) (Err (WalkTooLong walk_limit)) (judge_walk p [] 0 walk))

-- 21, the vertex is unknown (its number).
abbrev pub judge_vertex : Problem → ℕ → Verdict
judge_vertex p v = cond (ltb v p.vertex_count) (Ok tt) (Err (UnknownVertex v))

-- **Eviction**: as Bound through 13; then the vertex. (10 is about the walk itself.)
unfoldable pub judge_eviction : Problem → List ℕ → ℕ → Verdict
judge_eviction p layout v = and_then (judge_bound p layout) (judge_vertex p v)
