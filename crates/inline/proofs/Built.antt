-- What the steps of Inline leave: the verdict of 19 on the counts, and where it accepts the one problem's numbers.
use Prim.Native.Nat.{ℕ, ◌+◌, ◌≤◌, ◌<◌}
use Rattle.std.specs.Prelude.{Err, Ok}
use Rattle.model.specs.Refusals.{Verdict}
use mathlib.Core.Path.{◌≡◌, refl, sym, ap, ap₂, subst, ◌∙◌}
use mathlib.Core.List.{List, ◌∷◌, flat_map}
use native.Mathlib.Omega.{arith}
use native.Mathlib.Numerals.{add-one}
use lib.ListN.{length, set, take, replicate}
use lib.Seq.{sets}
use borrow.Author.Tests.{le-leb, lt-leb}
use Rattle.model.specs.declared.Refusal.{Refusal}
use Rattle.model.specs.declared.Refusal.TheVariants.{CountPassed}
use Rattle.model.specs.declared.Edge.{Edge}
use Rattle.model.specs.declared.Loop.{Loop}
use Rattle.model.specs.declared.Row.{Row}
use Rattle.model.specs.Places as places
use Rattle.model.specs.Numbers.{edition_of, numbers_in, problem_of, edge_numbers, loop_numbers}
use Rattle.model.specs.File.{edition_in}
use Rattle.model.specs.Graph.{and_then}
use Rattle.model.specs.Operations.{Checked}
use Rattle.model.specs.Inlining.{inlined_edges, inlined_loops}
use Rattle.model.specs.Inlined.{judge_head, judge_graphs, judge_last, judge_calls, judge_counts, judge_drawing, inlined_rows, inlined_problem, inline_verdict, inline_drawing}
use Rattle.model.proofs.Answers.{accepted_both, refused_not_accepted}
use Rattle.numbers.specs.Numbered.{Numbered}
use Rattle.numbers.proofs.Assembled.{edition_put}
use Rattle.roundtrip.proofs.Editions.{own_edition}
use Rattle.checks.proofs.Opened.{same_problem, opened, judges_problem}
use Rattle.checks.specs.Steps.{judge_numbers}
use Rattle.drawings.specs.Facts.{DrawingFacts}
use Rattle.drawings.proofs.Opened.{drawing_facts}
use Rattle.rows.specs.Fit.{RowsMade}
use Rattle.copies.specs.Parts.{head_numbers, row_numbers}
use Rattle.links.specs.Put.{Put, EdgesPut, LoopsPut}
use Rattle.links.proofs.Adding.{put_all}
use Rattle.inlined.proofs.Parts.{Few, sized}
use Rattle.inlined.proofs.Accepted.{inlines, inlined_accepted}
use Rattle.inline.specs.Steps.{Built, NumbersInlined}
use Rattle.inline.proofs.Stored.{set_before, stored_is}

module _ (d : List ℕ) where
  abbrev es : List Edge
  es = inlined_edges d (inlined_rows d)

  abbrev ls : List Loop
  ls = inlined_loops d (inlined_rows d)

  -- 19 applies where one count passes, and else not.
  refuses : (l : List ℕ) → Err (CountPassed 0) ≡ judge_counts d → Built d l (Err (CountPassed 0))
  refuses l e = record { counts = e; numbers = λ q. refused_not_accepted q }

  rows_pass : (l : List ℕ) → places.most_vertices < length (inlined_rows d) → Built d l (Err (CountPassed 0))
  unfolding judge_counts
  rows_pass l h = refuses l (rw (lt-leb (length (inlined_rows d)) places.most_vertices h))

  edges_pass : (l : List ℕ) → length (inlined_rows d) ≤ places.most_vertices → places.most_edges < length es → Built d l (Err (CountPassed 0))
  unfolding judge_counts
  edges_pass l r h = refuses l (rw (le-leb (length (inlined_rows d)) places.most_vertices r, lt-leb (length es) places.most_edges h))

  loops_pass :
      (l : List ℕ) → length (inlined_rows d) ≤ places.most_vertices → length es ≤ places.most_edges → places.most_loops < length ls →
      Built d l (Err (CountPassed 0))
  unfolding judge_counts
  loops_pass l r q h =
      refuses l (rw (le-leb (length (inlined_rows d)) places.most_vertices r, le-leb (length es) places.most_edges q, lt-leb (length ls) places.most_loops h))

  none_passes : Few d → Ok tt ≡ judge_counts d
  unfolding judge_counts
  none_passes F =
      rw (le-leb (length (inlined_rows d)) places.most_vertices F.rows, le-leb (length es) places.most_edges F.edges, le-leb (length ls) places.most_loops F.loops)

-- A list stored behind its count.
behind_count :
    {A : Type 0} (most place : ℕ) (numbers : A → List ℕ) (l l' : List ℕ) (items : List A) (count : ℕ) →
    Put most (place + 1) numbers l items l' count → length items ≤ most → set l' place count ≡ sets l place (length items ∷ flat_map numbers items)
behind_count most place numbers l l' items count put fits =
    let (is, stored) = put_all most (place + 1) numbers l items l' count put fits in
    ap₂ (λ (m : List ℕ) (n : ℕ). set m place n) stored is
    ∙ set_before (flat_map numbers items) l (place + 1) place (length items) (omega arith)
    ∙ ap (λ (k : ℕ). sets (set l place (length items)) k (flat_map numbers items)) (add-one place)

module _ (d : List ℕ) (facts : DrawingFacts d) (rows : List Row) (count : ℕ) (made : RowsMade d rows count) where
  pub rows_passed : (l : List ℕ) → places.most_vertices < count → Built d l (Err (CountPassed 0))
  rows_passed l h = rows_pass d l (omega (arith, made.count_is))

  module _ (fits : count ≤ places.most_vertices) (l₂ l₃ : List ℕ) (edges : ℕ) (edged : EdgesPut l₂ (inlined_edges d (take count rows)) l₃ edges) where
    few_rows : length (inlined_rows d) ≤ places.most_vertices
    few_rows = omega (arith, made.count_is)

    all_edges : EdgesPut l₂ (es d) l₃ edges
    all_edges = subst (λ (s : List Row). EdgesPut l₂ (inlined_edges d s) l₃ edges) made.are edged

    pub edges_passed : (l : List ℕ) → places.most_edges < edges → Built d l (Err (CountPassed 0))
    edges_passed l h = edges_pass d l few_rows (omega (arith, all_edges.count_is))

    module _ (few_edges : edges ≤ places.most_edges) (l₄ : List ℕ) (loops : ℕ) (looped : LoopsPut (set l₃ places.edge_count edges) (inlined_loops d (take count rows)) l₄ loops) where
      all_loops : LoopsPut (set l₃ places.edge_count edges) (ls d) l₄ loops
      all_loops = subst (λ (s : List Row). LoopsPut (set l₃ places.edge_count edges) (inlined_loops d s) l₄ loops) made.are looped

      pub loops_passed : (l : List ℕ) → places.most_loops < loops → Built d l (Err (CountPassed 0))
      loops_passed l h = loops_pass d l few_rows (omega (arith, all_edges.count_is)) (omega (arith, all_loops.count_is))

      -- All counts fit: the parts stored one after another are the one problem's numbers.
      pub built :
          loops ≤ places.most_loops → (l₀ l₁ : List ℕ) → l₀ ≡ replicate places.end 0 → l₁ ≡ sets l₀ places.scratchpad (head_numbers d) →
          l₂ ≡ sets l₁ places.vertex_count (row_numbers d (take count rows)) → (l₆ : List ℕ) →
          l₆ ≡ set (set l₄ places.loop_count loops) places.edition (edition_of (problem_of (set l₄ places.loop_count loops))) → Built d l₆ (Ok tt)
      built few_loops l₀ l₁ zeros head vertices l₆ put =
          record { counts = none_passes d F; numbers = λ e. (edition_put (inlined_problem d) (sized d) 0 (set l₄ places.loop_count loops) l₆ stored put).is }
        where
          F : Few d
          F = record { rows = few_rows; edges = omega (arith, all_edges.count_is); loops = omega (arith, all_loops.count_is) }

          begun : l₂ ≡ sets (sets (replicate places.end 0) places.scratchpad (head_numbers d)) places.vertex_count (row_numbers d (inlined_rows d))
          begun =
              vertices
              ∙ ap₂ (λ (m : List ℕ) (s : List Row). sets m places.vertex_count (row_numbers d s)) (head ∙ ap (λ (m : List ℕ). sets m places.scratchpad (head_numbers d)) zeros) made.are

          stored : set l₄ places.loop_count loops ≡ numbers_in 0 (inlined_problem d)
          stored =
              behind_count places.most_loops places.loop_count loop_numbers (set l₃ places.edge_count edges) l₄ (ls d) loops all_loops F.loops
              ∙ ap (λ (m : List ℕ). sets m places.loop_count (length (ls d) ∷ flat_map loop_numbers (ls d)))
              (behind_count places.most_edges places.edge_count edge_numbers l₂ l₃ (es d) edges all_edges F.edges
              ∙ ap (λ (m : List ℕ). sets m places.edge_count (length (es d) ∷ flat_map edge_numbers (es d))) begun)
              ∙ stored_is d F facts.functions

-- The stages before 19.
abbrev pub judge_drawn : List ℕ → Verdict
judge_drawn d = and_then (judge_head d) (and_then (judge_graphs d) (and_then (judge_last d) (judge_calls d)))

-- Checks one after another, the last apart.
one_behind : (a b c e k : Verdict) → and_then a (and_then b (and_then c (and_then e k))) ≡ and_then (and_then a (and_then b (and_then c e))) k
one_behind (Ok _) (Ok _) (Ok _) e k = refl
one_behind (Ok _) (Ok _) (Err r) e k = refl
one_behind (Ok _) (Err r) c e k = refl
one_behind (Err r) b c e k = refl

-- The stages before 19 and then 19 say what all checks say.
says : (d : List ℕ) (v w : Verdict) → v ≡ judge_drawn d → w ≡ and_then v (judge_counts d) → w ≡ judge_drawing d
unfolding judge_drawing
says d v w is e =
    e
    ∙ ap (λ (x : Verdict). and_then x (judge_counts d)) is
    ∙ sym (one_behind (judge_head d) (judge_graphs d) (judge_last d) (judge_calls d) (judge_counts d))

-- The drawing passed the stages before 19.
pub stages_facts : (d : List ℕ) → Ok tt ≡ judge_drawn d → DrawingFacts d
stages_facts d e =
    let (head, rest) = accepted_both (judge_head d) _ (sym e) in
    let (graphs, more) = accepted_both (judge_graphs d) _ rest in
    drawing_facts d head graphs (accepted_both (judge_last d) _ more).0

module _ (d l : List ℕ) where
  -- A stage before 19 refuses.
  pub stage_refuses : (r : Refusal) → Err r ≡ judge_drawn d → NumbersInlined d l (Err r)
  unfolding inline_drawing
  stage_refuses r is =
      record {
        answer = ap (λ (w : Verdict). inline_verdict w (inlined_problem d)) (says d (Err r) (Err r) is refl);
        checked = refused_not_accepted;
        edition = refused_not_accepted;
      }

  -- What is left is 19.
  pub numbers_inlined : (v : Verdict) → Ok tt ≡ judge_drawn d → Built d l v → NumbersInlined d l v
  unfolding inline_drawing
  numbers_inlined (Err r) good b =
      record {
        answer = ap (λ (w : Verdict). inline_verdict w (inlined_problem d)) (says d (Ok tt) (Err r) good b.counts);
        checked = refused_not_accepted;
        edition = refused_not_accepted;
      }
  numbers_inlined (Ok tt) good b =
      record {
        answer = ap Ok own ∙ ap (λ (w : Verdict). inline_verdict w (inlined_problem d)) judged;
        checked = λ e. checked;
        edition = λ e. ap edition_in numbered.is ∙ own_edition (edition_of (inlined_problem d)) (inlined_problem d) ∙ ap edition_of (sym own);
      }
    where
      judged : Ok tt ≡ judge_drawing d
      judged = says d (Ok tt) (Ok tt) good b.counts

      numbered : Numbered (inlined_problem d) l
      numbered = record { is = b.numbers refl; sized = sized d }

      own : problem_of l ≡ inlined_problem d
      own = same_problem (inlined_problem d) l numbered

      checked : Checked l
      checked =
          opened (inlined_problem d) l numbered (judge_numbers l) refl
          (judges_problem (inlined_problem d) l numbered (judge_numbers l) refl ∙ inlined_accepted d (inlines d (sym judged)))
