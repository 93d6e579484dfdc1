-- A drawing that is inlined, and a lawful run of it: what Inline's theorems ask for can be had. Function 0's vertex 1, a loop of at most three visits,
-- calls function 1, which has one vertex.
use Prim.Native.Nat.{ℕ, ◌≤◌}
use Rattle.std.specs.Prelude.{Ok, None}
use mathlib.Core.Path.{◌≡◌, refl, sym, subst}
use mathlib.Core.List.{List, [], ◌∷◌, ◌++◌, flat_map, Memᴰ}
use native.Mathlib.Omega.{arith}
use lib.ListN.{replicate}
use Rattle.model.specs.declared.Loop.{Loop}
use Rattle.model.specs.Table.{limits, bases, kinds, jumps, counts}
use Rattle.model.specs.Numbers.{table_from, some_check, edition_of, numbers_in, numbers_of}
use Rattle.model.specs.Search.{lowest_from}
use Rattle.model.specs.Spelling.{groups, number_size}
use Rattle.model.specs.File.{after_count, after_item, next_field, unwritten, field_size, field_bytes, below_count, from_header, zero_unwritten, in_range, edge_before, ascends, item_start, check_from, bytes_from, file_bytes}
use Rattle.model.specs.Graph.{lacks, bad_range, wrong_edge, no_return, graph_rules, loops_of}
use Rattle.model.specs.Walks.{visits, Within}
use Rattle.model.specs.Layouts.{filled_in, region_of}
use Rattle.model.specs.Runs.{held, check_at}
use Rattle.model.specs.Operations.{check_problem}
use Rattle.model.specs.Verdicts.{judge_problem}
use Rattle.model.specs.Drawings.{no_callee, called_by, graph_of}
use Rattle.model.specs.Inlining.{number_in, row_after, one_more, rows_up_to, inlined_edges, inlined_loops}
use Rattle.model.specs.Inlined.{via, calls, judge_head, judge_graphs, judge_last, judge_calls, judge_counts, judge_drawing, inlined_problem}
use Rattle.model.specs.CallStack.{frame, Stack, stack, call, go, back, Run, begin, then, AllKeep, LawfulRun, stack_cycles}

-- Size, load cost, check cost and vertices; edges; loops.
abbrev caller : List ℕ
caller =
    1 ∷ 5 ∷ 0 ∷ 3 ∷ no_callee ∷ 1 ∷ 1 ∷ 2 ∷ no_callee ∷ 1 ∷ replicate 250 0
    ++ (3 ∷ 0 ∷ 1 ∷ 1 ∷ 1 ∷ 1 ∷ 2 ∷ replicate 1018 0
    ++ (1 ∷ 1 ∷ 1 ∷ 3 ∷ replicate 93 0))

abbrev helper : List ℕ
helper = 1 ∷ 3 ∷ 0 ∷ 1 ∷ no_callee ∷ 7 ∷ []

abbrev d : List ℕ
d = 2 ∷ 2 ∷ caller ++ helper

pub drawn : judge_drawing d ≡ Ok tt
unfolding judge_drawing judge_head judge_graphs judge_last judge_calls judge_counts via calls called_by graph_of rows_up_to one_more row_after inlined_edges inlined_loops
    number_in flat_map table_from lowest_from some_check edition_of numbers_in judge_problem check_problem limits bases kinds jumps counts number_size after_count after_item next_field unwritten
    field_size below_count from_header zero_unwritten in_range edge_before ascends item_start check_from lacks bad_range wrong_edge no_return graph_rules
drawn = refl

-- Its problem's file.
pub written : file_bytes (numbers_of (inlined_problem d))
    ≡ 1 ∷ 2 ∷ 2 ∷ 1 ∷ 5 ∷ 1 ∷ 3 ∷ 4 ∷ 0 ∷ 1 ∷ 0 ∷ 2 ∷ 1 ∷ 7 ∷ 0 ∷ 1 ∷ 4 ∷ 0 ∷ 1 ∷ 1 ∷ 2 ∷ 2 ∷ 1 ∷ 2 ∷ 3 ∷ 1 ∷ 1 ∷ 2 ∷ 3 ∷ []
unfolding inlined_problem called_by graph_of rows_up_to one_more row_after inlined_edges inlined_loops number_in flat_map table_from lowest_from some_check edition_of numbers_in
    bases kinds jumps after_count after_item next_field unwritten field_bytes bytes_from groups number_size
written = refl

-- The run that goes round twice: each visit of vertex 1 calls the helper, whose return goes along an edge of vertex 1.
abbrev at : ℕ → List ℕ → Stack
at v before = stack (frame 0 v before) []

abbrev within : ℕ → List ℕ → Stack
within v before = stack (frame 1 0 []) (frame 0 v before ∷ [])

abbrev past : List Stack
past = within 1 (1 ∷ 0 ∷ []) ∷ at 1 (1 ∷ 0 ∷ []) ∷ within 1 (0 ∷ []) ∷ at 1 (0 ∷ []) ∷ at 0 [] ∷ []

run : Run d (at 2 (1 ∷ 1 ∷ 0 ∷ [])) past
unfolding called_by graph_of table_from
run =
    then (then (then (then (then begin
    (go refl (Memᴰ.head refl)))
    (call refl))
    (back refl (Memᴰ.tail (Memᴰ.head refl))))
    (call refl))
    (back refl (Memᴰ.tail (Memᴰ.tail (Memᴰ.head refl))))

pub run_cycles : stack_cycles d (0 ∷ 0 ∷ []) (at 2 (1 ∷ 1 ∷ 0 ∷ []) ∷ past) ≡ 41
unfolding stack_cycles graph_of table_from region_of filled_in held check_at
run_cycles = refl

-- It is lawful: each activation keeps its own graph's bounds. Function 0's graph has one loop, the helper's has none.
abbrev ring : Loop
ring = record { header = 1; last = 1; bound = 3 }

one_loop : loops_of (graph_of d 0) ≡ ring ∷ []
unfolding graph_of table_from
one_loop = refl

no_loop : loops_of (graph_of d 1) ≡ []
unfolding graph_of table_from
no_loop = refl

abbrev Kept : List ℕ → Type 0
Kept h = (l : Loop) → Memᴰ l (ring ∷ []) → visits l h ≤ l.bound

kept : (h : List ℕ) → visits ring h ≤ 3 → Kept h
kept h few l (Memᴰ.head e) = subst (λ (x : Loop). visits x h ≤ x.bound) (sym e) few
kept h few l (Memᴰ.tail m) = elim m [ ]

abbrev Each : List ℕ → Type 0
Each [] = Unit {0}
Each (v ∷ h) = (visits ring (v ∷ h) ≤ 3) × Each h

caller_keeps : (h : List ℕ) → Each h → Within (loops_of (graph_of d 0)) h
unfolding Within
caller_keeps h each = subst (λ (ls : List Loop). Within ls h) (sym one_loop) (all h each)
  where
    all : (h : List ℕ) → Each h → Within (ring ∷ []) h
    all [] each = tt
    all (v ∷ h) each = ((λ l m e. kept (v ∷ h) each.0 l m), all h each.1)

helper_keeps : Within (loops_of (graph_of d 1)) (0 ∷ [])
unfolding Within
helper_keeps = subst (λ (ls : List Loop). Within ls (0 ∷ [])) (sym no_loop) ((λ l m e. elim m [ ]), tt)

pub lawful : LawfulRun d (1 ∷ 1 ∷ 0 ∷ []) past
unfolding AllKeep visits graph_of
lawful =
    record {
      run = run;
      keeps = (
        caller_keeps (2 ∷ 1 ∷ 1 ∷ 0 ∷ []) (omega arith, (omega arith, (omega arith, (omega arith, tt)))),
        (
          helper_keeps,
          (
            caller_keeps (1 ∷ 1 ∷ 0 ∷ []) (omega arith, (omega arith, (omega arith, tt))),
            (
              helper_keeps,
              (
                caller_keeps (1 ∷ 0 ∷ []) (omega arith, (omega arith, tt)),
                (caller_keeps (0 ∷ []) (omega arith, tt), tt),
              ),
            ),
          ),
        ),
      );
    }
