-- A test of each claim that can be computed. Nobody has to believe it: `means` of proofs/ shows that a claim which passes holds. Walks are searched
-- one by one, which is meant for problems as small as these.
use Rattle.std.specs.Prelude.{ℕ, zero, suc, ◌+◌, ◌-◌, List, [], ◌∷◌, reverse, Bool, true, false, cond, not, ◌&&◌, ◌||◌, length, get_or, eqb, ltb, leb, Err, Ok, Result}
use Rattle.model.specs.Refusals.{Verdict}
use Rattle.model.specs.declared.Refusal.{Refusal}
use Rattle.model.specs.declared.Edge.{Edge}
use Rattle.model.specs.declared.Problem.{Problem}
use Rattle.model.specs.Refusals.{number, place}
use Rattle.model.specs.Search.{exists_below}
use Rattle.model.specs.Numbers.{numbers_in}
use Rattle.model.specs.File.{edition_in, read_fields}
use Rattle.model.specs.Graph.{edges_of, judge_graph}
use Rattle.model.specs.Walks.{last_vertex}
use Rattle.model.specs.Costs.{function_of, how_many}
use Rattle.model.specs.Layouts.{region_of, need_of}
use Rattle.model.specs.Interference.{since, occurs}
use Rattle.model.specs.Charges.{visit_charge, first_loads, second_total, charges}
use Rattle.model.specs.Runs.{cycles, loads}
use Rattle.model.specs.Operations.{read_file}
use Rattle.model.specs.Verdicts.{judge_bound, judge_run, past_bound}
use Rattle.model.specs.Results.{bound_limit}
use Rattle.model.specs.Decimals.{text}
use Rattle.model.specs.Slips.{refusal_line, result_lines}
use Rattle.sound.specs.Decide.{contested_test, early_test}
use Rattle.examples.specs.Claims.{Claim, sets, bounds, second_totals, bound_refused, runs, run_refused, longest_run, reads, read_refused, prints, prints_refusal, given}
use Rattle.model.specs.Places as places

module _ {A : Type 0} (test : A → Bool) where
  unfoldable pub any : List A → Bool
  any [] = false
  any (x ∷ xs) = test x || any xs

  unfoldable pub all : List A → Bool
  all [] = true
  all (x ∷ xs) = test x && all xs

-- Each of these tests passes.
abbrev pub passed : List Bool → Bool
passed bs = all (λ b. b) bs

abbrev pub every_below : ℕ → (ℕ → Bool) → Bool
every_below n test = not (exists_below n (λ i. not (test i)))

abbrev pub has : List ℕ → ℕ → Bool
has xs g = any (eqb g) xs

-- After h and v the edge leads on, to a vertex at which the walk has not to stop.
abbrev pub leads : (List ℕ → ℕ → Bool) → ℕ → List ℕ → Edge → Bool
leads stop v h e = eqb e.from v && not (stop (v ∷ h) e.to)

-- The walks that go on from v, where h came before.
module _ (p : Problem) (stop : List ℕ → ℕ → Bool) (test : ℕ → List ℕ → Bool) where
  -- One of them, of at most n steps, passes the test.
  unfoldable pub some_from : ℕ → ℕ → List ℕ → Bool
  some_from zero v h = test v h
  some_from (suc n) v h = test v h || any (λ e. leads stop v h e && some_from n e.to (v ∷ h)) (edges_of p)

  -- All of them pass the test, and none has n steps.
  unfoldable pub every_from : ℕ → ℕ → List ℕ → Bool
  every_from zero v h = false
  every_from (suc n) v h = test v h && all (λ e. cond (leads stop v h e) (every_from n e.to (v ∷ h)) true) (edges_of p)

-- More steps than a lawful walk has here. (Were they too few, `every_from` would fail.)
abbrev pub steps : ℕ
steps = 100

-- Interference sets and first reach, and what lawful walks pass.
module _ (p : Problem) where
  -- Some walk, of at most as many steps as there are vertices, passes the test.
  abbrev pub shown : (ℕ → List ℕ → Bool) → Bool
  shown test = some_from p (λ h v. false) test p.vertex_count 0 []

  -- The set of v and f has g.
  unfoldable pub member : ℕ → ℕ → ℕ → Bool
  member f v g = ltb g p.function_count && shown (λ w h. eqb w v && has (since (function_of p) f h) g)

  -- A walk comes to v with no earlier vertex of f.
  unfoldable pub fresh : ℕ → ℕ → Bool
  fresh f v = shown (λ w h. eqb w v && not (occurs (function_of p) f h))

  -- Unless its start is of f, the edge's end has the start's function and all that the start has.
  unfoldable pub hands_on : ℕ → Edge → Bool
  hands_on f e =
      cond (eqb (function_of p e.from) f) true
      (passed
      (member f e.to (function_of p e.from)
      ∷ every_below p.function_count (λ g. cond (member f e.from g) (member f e.to g) true)
      ∷ cond (fresh f e.from) (fresh f e.to) true ∷ []))

  -- Numbers are in range, and what was shown is closed under every edge: longer walks show nothing new.
  unfoldable pub settled : Bool
  settled =
      passed
      (ltb 0 p.vertex_count
      ∷ all (λ e. ltb e.to p.vertex_count) (edges_of p)
      ∷ every_below p.vertex_count (λ v. ltb (function_of p v) p.function_count)
      ∷ every_below p.function_count (λ f. fresh f 0 && all (hands_on f) (edges_of p)) ∷ [])

  abbrev pub own_member : ℕ → ℕ → Bool
  own_member v g = member (function_of p v) v g

  abbrev pub own_fresh : ℕ → Bool
  own_fresh v = fresh (function_of p v) v

  -- The set of v and its own function is this list.
  unfoldable pub set_is : List ℕ → ℕ → Bool
  set_is xs v =
      passed (all (own_member v) xs ∷ every_below p.function_count (λ g. cond (own_member v g) (has xs g) true) ∷ [])

  -- Every lawful walk passes the test.
  abbrev pub if_last : (List ℕ → Bool) → ℕ → List ℕ → Bool
  if_last test v h = cond (eqb v (last_vertex p)) (test (v ∷ h)) true

  unfoldable pub every_lawful : (List ℕ → Bool) → Bool
  every_lawful test = every_from p (past_bound p) (if_last test) steps 0 []

  -- Some lawful walk passes it.
  abbrev pub last_and : (List ℕ → Bool) → ℕ → List ℕ → Bool
  last_and test v h = eqb v (last_vertex p) && test (v ∷ h)

  unfoldable pub some_lawful : (List ℕ → Bool) → Bool
  some_lawful test = not (past_bound p [] 0) && some_from p (past_bound p) (last_and test) steps 0 []

  -- No lawful walk has more than m, and one has m.
  unfoldable pub greatest_is : (List ℕ → ℕ) → ℕ → Bool
  greatest_is f m = passed (every_lawful (λ h. leb (f h) m) ∷ some_lawful (λ h. eqb (f h) m) ∷ [])

  -- b is x or f's greatest, and neither is smaller.
  unfoldable pub smaller_is : ℕ → (List ℕ → ℕ) → ℕ → Bool
  smaller_is x f b = passed (leb b x ∷ some_lawful (λ h. leb b (f h)) ∷ (eqb b x || every_lawful (λ h. leb (f h) b)) ∷ [])

  module _ (layout : List ℕ) where
    -- The set of v has g, which is in the region of v's function.
    abbrev pub rival : ℕ → ℕ → Bool
    rival v g = own_member v g && eqb (region_of layout g) (region_of layout (function_of p v))

    abbrev pub shared : ℕ → Bool
    shared v = exists_below p.function_count (rival v)

    abbrev pub contested : ℕ → Bool
    contested = contested_test p shared

    abbrev pub early : ℕ → Bool
    early = early_test p shared own_fresh

    abbrev pub early_of : ℕ → ℕ → Bool
    early_of f v = eqb (function_of p v) f && early v

    abbrev pub cold : ℕ → Bool
    cold f = exists_below p.vertex_count (early_of f)

abbrev pub accepted : Verdict → Bool
accepted (Ok _) = true
accepted (Err f) = false

-- Read's answer without the problem.
abbrev pub verdict_of : Result Problem Refusal → Verdict
verdict_of (Ok p) = Ok tt
verdict_of (Err f) = Err f

abbrev pub refused_as : ℕ → ℕ → Verdict → Bool
refused_as n at (Ok _) = false
refused_as n at (Err f) = eqb (number f) n && eqb (place f) at

-- The fields end where the file does.
abbrev pub done_at : ℕ → Result ℕ Refusal → Bool
done_at size (Ok at) = not (ltb at size)
done_at size (Err f) = false

-- The same list.
unfoldable pub same : List ℕ → List ℕ → Bool
same [] [] = true
same [] (y ∷ ys) = false
same (x ∷ xs) [] = false
same (x ∷ xs) (y ∷ ys) = eqb x y && same xs ys

-- Bound's four numbers are these.
unfoldable pub bounds_are : Problem → List ℕ → ℕ → ℕ → ℕ → ℕ → Bool
bounds_are p layout need tally first most =
    passed
    (accepted (judge_bound p layout)
    ∷ settled p
    ∷ eqb need (need_of p layout)
    ∷ eqb tally (how_many p.vertex_count (contested p layout))
    ∷ leb first most
    ∷ leb most bound_limit
    ∷ greatest_is p (charges (visit_charge p (contested p layout))) (most - first)
    ∷ smaller_is p (most - first + first_loads p (cold p layout)) (second_total p (contested p layout) (early p layout)) most
    ∷ every_lawful p (λ h. leb (cycles p layout h) most) ∷ [])

-- The file holds this problem, in its edition.
unfoldable pub reads_as : List ℕ → Problem → Bool
reads_as file p =
    passed
    (done_at (length file) (read_fields file).answer
    ∷ same (read_fields file).numbers (numbers_in (edition_in (read_fields file).numbers) p)
    ∷ eqb (length p.functions) places.most_functions ∷ eqb (length p.vertices) places.most_vertices ∷ eqb (length p.edges) places.most_edges ∷ eqb (length p.loops) places.most_loops
    ∷ accepted (judge_graph p) ∷ [])

-- The slip of a refusal is this text.
abbrev pub refusal_is : List ℕ → Verdict → Bool
refusal_is slip (Ok _) = false
refusal_is slip (Err f) = same slip (refusal_line f)

unfoldable pub passes : Claim → Bool
passes (sets p each) = passed (settled p ∷ every_below p.vertex_count (λ v. set_is p (get_or each v []) v) ∷ [])
passes (bounds p layout need tally first most) = bounds_are p layout need tally first most
passes (second_totals p layout most) = passed (settled p ∷ greatest_is p (second_total p (contested p layout) (early p layout)) most ∷ [])
passes (bound_refused p layout n at) = refused_as n at (judge_bound p layout)
passes (runs p layout walk c n) =
    passed
    (accepted (judge_run p layout walk)
    ∷ eqb (cycles p layout (reverse walk)) c
    ∷ eqb (loads p layout (reverse walk)) n ∷ [])
passes (run_refused p layout walk n at) = refused_as n at (judge_run p layout walk)
passes (longest_run p layout c) = greatest_is p (cycles p layout) c
passes (reads file p) = reads_as file p
passes (read_refused file n at) = refused_as n at (verdict_of (read_file file))
passes (prints file p layout need tally first most slip) =
    passed (reads_as file p ∷ bounds_are p layout need tally first most ∷ same (text slip) (result_lines (given need tally first most)) ∷ [])
passes (prints_refusal file slip) = refusal_is (text slip) (verdict_of (read_file file))
