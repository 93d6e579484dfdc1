-- What may be held satisfies what a flow does: each member that a step adds has a walk.
use Prim.Native.Nat.{ℕ, ◌<◌}
use mathlib.Core.Path.{◌≡◌, sym, subst}
use mathlib.Core.List.{List}
use mathlib.Core.Logic.{inl, inr, ⊎_elim}
use lib.ListN.{length, get_or}
use lib.Dec.{eqb}
use borrow.Author.Tests.{eqb-true, eqb-false}
use Rattle.model.specs.declared.Edge.{Edge}
use Rattle.model.specs.Numbers.{problem_of}
use Rattle.model.specs.Graph.{edges_of}
use Rattle.model.specs.Costs.{function_of}
use Rattle.model.specs.Walks.{EdgeOf}
use Rattle.model.specs.Layouts.{region_of}
use Rattle.model.specs.Operations.{Checked}
use Rattle.model.specs.Results.{Member}
use Rattle.model.proofs.Cases.{by_bool}
use Rattle.lookup.proofs.Places.{facts, function_below, from_below}
use Rattle.sound.specs.Held.{Holds}
use Rattle.sound.proofs.Held.{held_first, held_further, held_complete}
use Rattle.flow.specs.Laws.{Laws}
use Rattle.flow.specs.Starts.{from, to}
use Rattle.flow.proofs.Edges.{is_edge, by_number}
use Rattle.flow.proofs.Reached.{starts}
use Rattle.rivals.specs.Rivals.{RivalTable}
use Rattle.held.specs.Flow.{held_flow}

module _ (l : List ℕ) (ok : Checked l) where
  pub start_known : (i : ℕ) → i < length (edges_of (problem_of l)) → function_of (problem_of l) (from (problem_of l) i) < (problem_of l).function_count
  start_known i here = function_below l (facts _ ok) (from (problem_of l) i) (from_below l (facts _ ok) i here)

  -- What is held is the function of a vertex on a walk.
  pub held_known : (layout : List ℕ) (v g : ℕ) → Holds (function_of (problem_of l)) (region_of layout) (EdgeOf (problem_of l)) v g →
      g < (problem_of l).function_count
  held_known layout v g (h, walk, e) =
      held_complete (function_of (problem_of l)) (region_of layout) (EdgeOf (problem_of l)) (λ w x. x < (problem_of l).function_count)
      (λ u w d. (
        by_number (problem_of l) (λ (x : Edge). function_of (problem_of l) x.from < (problem_of l).function_count) start_known u w d,
        λ x other low. low,
      ))
      g walk e

  module _ (rivals : List ℕ) where
    -- A member that edge i brings to its end.
    module _ (i : ℕ) (here : i < length (edges_of (problem_of l))) (layout : List ℕ) (table : RivalTable (problem_of l) layout rivals) where
      abbrev MayHold : ℕ → ℕ → Type 0
      MayHold = Holds (function_of (problem_of l)) (region_of layout) (EdgeOf (problem_of l))

      abbrev start : ℕ
      start = function_of (problem_of l) (from (problem_of l) i)

      own : (b : ℕ) → start ≡ b → MayHold (to (problem_of l) i) b
      own b e =
          let (h, walk) = starts l ok i here in
          subst (MayHold (to (problem_of l) i)) e
          (held_first (function_of (problem_of l)) (region_of layout) (EdgeOf (problem_of l)) (from (problem_of l) i) (to (problem_of l) i) h walk
          (is_edge (problem_of l) i here))

      kept : (b : ℕ) → (Member (get_or rivals start 0) b → ⊥) → MayHold (from (problem_of l) i) b → MayHold (to (problem_of l) i) b
      kept b free holds =
          by_bool (eqb start b) (λ t. own b (eqb-true start b t))
          (λ n.
          held_further (function_of (problem_of l)) (region_of layout) (EdgeOf (problem_of l)) (from (problem_of l) i) (to (problem_of l) i) b holds
          (is_edge (problem_of l) i here)
          (λ same. free ((table.member start (start_known i here) b).1 (eqb-false start b n, held_known layout (from (problem_of l) i) b holds, sym same))))

    pub held_laws : Laws (held_flow (problem_of l) rivals)
    held_laws = record {
      apart = λ x v f h lt lt' e. e;
      local = λ ws after u row f b lt. ⊎_elim inl (λ (free, has). inr (free, row f b lt has));
      good = λ ws sound i here f b lt gain layout table.
          ⊎_elim (λ e. own i here layout table b (sym e)) (λ (free, has). kept i here layout table b free (sound (from (problem_of l) i) b has layout table)) gain;
    }
