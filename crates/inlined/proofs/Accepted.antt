-- The inlined problem of an accepted drawing passes document 01's checks: no operation on it answers 3 to 9.
use Prim.Native.Nat.{ℕ}
use Rattle.std.specs.Prelude.{Ok, Result}
use Rattle.model.specs.Refusals.{Verdict}
use Rattle.model.specs.declared.Refusal.{Refusal}
use mathlib.Core.Path.{◌≡◌, ap, ◌∙◌}
use mathlib.Core.List.{List}
use Rattle.model.specs.Numbers.{numbers_of}
use Rattle.model.specs.Graph.{judge_graph}
use Rattle.model.specs.Operations.{after_graph, after_fields, check_problem}
use Rattle.model.specs.Verdicts.{as_verdict, judge_problem}
use Rattle.model.specs.Inlined.{judge_head, judge_graphs, judge_last, judge_calls, judge_drawing, inlined_rows, inlined_problem}
use Rattle.model.proofs.Answers.{accepted_both}
use Rattle.facts.proofs.Done.{facts_done}
use Rattle.graph.proofs.Passes.{facts_graph}
use Rattle.drawings.specs.Facts.{DrawingFacts}
use Rattle.drawings.proofs.Opened.{drawing_facts, drawing_graphs}
use Rattle.calls.proofs.States.{Drawn, drawn}
use Rattle.calls.proofs.Lawful.{DrawnLawful, drawn_lawful}
use Rattle.calls.proofs.Sizes.{size, sized}
use Rattle.inlined.proofs.Places.{Whole, whole}
use Rattle.inlined.proofs.Parts.{Few, few, edges_of_lem, loops_of_lem}
use Rattle.inlined.proofs.Rules.{graph_facts}
use Rattle.inlined.proofs.Fields.{field_facts}

-- A drawing of which the one problem is built.
pub record Inlines (d : List ℕ) : Type 0 where
  pub facts : DrawingFacts d
  pub lawful : DrawnLawful d
  pub drawn : Drawn d (size d)
  pub few : Few d

pub inlines : (d : List ℕ) → judge_drawing d ≡ Ok tt → Inlines d
unfolding judge_drawing
inlines d e =
    let (head, e₁) = accepted_both (judge_head d) _ e in
    let (graphs, e₂) = accepted_both (judge_graphs d) _ e₁ in
    let (last, e₃) = accepted_both (judge_last d) _ e₂ in
    let (calls, counts) = accepted_both (judge_calls d) _ e₃ in
    let facts = drawing_facts d head graphs last in
    record { facts = facts; lawful = drawn_lawful d facts (drawing_graphs d graphs); drawn = drawn d facts (size d) (sized d facts calls); few = few d counts }

module _ (d : List ℕ) (I : Inlines d) where
  pub all_rows : Whole d (size d) I.drawn (inlined_rows d)
  all_rows = whole d (size d) I.drawn I.few.rows

  graph_accepted : judge_graph (inlined_problem d) ≡ Ok tt
  unfolding inlined_problem
  graph_accepted = rw (edges_of_lem d I.few, loops_of_lem d I.few) (facts_graph _ _ _ (graph_facts d I.facts I.lawful (size d) I.drawn (inlined_rows d) all_rows))

  pub inlined_accepted : judge_problem (inlined_problem d) ≡ Ok tt
  unfolding judge_problem check_problem
  inlined_accepted =
      let (need, done) = facts_done (numbers_of (inlined_problem d)) (field_facts d I.few I.facts I.lawful (size d) I.drawn) in
      ap (λ (f : Result ℕ Refusal). as_verdict (after_fields f (inlined_problem d))) done
      ∙ ap (λ (v : Verdict). as_verdict (after_graph v need)) graph_accepted
