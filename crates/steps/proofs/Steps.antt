-- The table of the steps: an edge after an edge is marked in it, and once all are it tells the step from a history to an entry.
use Prim.Native.Nat.{ℕ, ◌+◌, ◌*◌, ◌≤◌, ◌<◌}
use mathlib.Core.Path.{◌≡◌, sym, ap, ◌∙◌}
use mathlib.Core.List.{List, [], ◌∷◌}
use mathlib.Core.Bool.{cond}
use native.Mathlib.Omega.{arith}
use lib.ListN.{length, get_or, set, replicate, length-set, length-replicate, get_or-replicate}
use lib.Seq.{get_or-set_same, get_or-set_other}
use lib.Dec.{leb, eqb}
use borrow.Author.Tests.{eqb-true, eqb-false}
use Rattle.model.specs.declared.Edge.{Edge}
use Rattle.model.specs.declared.Problem.{Problem}
use Rattle.model.specs.Zero.{zero_edge}
use Rattle.model.specs.Numbers.{problem_of}
use Rattle.model.specs.Graph.{edge, edges_of}
use Rattle.model.specs.Operations.{Checked}
use Rattle.model.specs.Verdicts.{may_follow}
use Rattle.model.proofs.Cases.{by_bool, by_cond, by_order, true_not_false}
use Rattle.model.proofs.Lists.{mem-get_or, index_of}
use Rattle.lookup.proofs.Places.{facts, few_vertices}
use Rattle.greatest.proofs.Checked.{checked_ranges}
use Rattle.steps.specs.Steps.{start_row, step_count, latest, Known, Steps, step_of}
use Rattle.steps.proofs.Edges.{led, follows_edge, edge_follows}
use Rattle.model.specs.Places as places

-- An edge's place in the table, and what stands there.
abbrev place : Problem → ℕ → ℕ
place p i = places.most_vertices * (edge (edges_of p) i).from + (edge (edges_of p) i).to

abbrev along : Edge → ℕ
along e = cond (leb e.to e.from) 2 1

-- The steps along the first `count` edges are marked, and the start.
pub record StepsMarked (p : Problem) (count : ℕ) (t : List ℕ) : Type 0 where
  pub long : length t ≡ step_count
  pub first : (v : ℕ) → v < places.most_vertices → get_or t (start_row + v) 0 ≡ cond (eqb v 0) 1 0
  pub made : (i : ℕ) → i < count → get_or t (place p i) 0 ≡ along (edge (edges_of p) i)
  pub only : (k : ℕ) → k < start_row → 0 < get_or t k 0 → (i : ℕ) × (i < count) × (place p i ≡ k)

module _ (t : List ℕ) (at x : ℕ) (long : length t ≡ step_count) (inside : at < step_count) where
  here : (k : ℕ) → k ≡ at → get_or (set t at x) k 0 ≡ x
  here k e = rw e (get_or-set_same t at x 0 (omega arith))

-- A table without a mark.
abbrev unmarked : List ℕ
unmarked = replicate step_count 0

size : length unmarked ≡ step_count
size = length-replicate {A = ℕ} step_count 0

not_there : (k : ℕ) → k < step_count → (k ≡ start_row → ⊥) → get_or (set unmarked start_row 1) k 0 ≡ 0
not_there k h n = get_or-set_other unmarked start_row k 1 0 n ∙ get_or-replicate {A = ℕ} step_count k 0 0 h

pub start_marked : (p : Problem) → StepsMarked p 0 (set (replicate step_count 0) start_row 1)
start_marked p =
    record {
      long = length-set unmarked start_row 1 ∙ size;
      first = λ v h.
          by_cond (λ (x : ℕ). get_or (set unmarked start_row 1) (start_row + v) 0 ≡ x) (eqb v 0)
          (λ e. here unmarked start_row 1 size (omega arith) (start_row + v) (omega (arith, eqb-true v 0 e)))
          (λ e. not_there (start_row + v) (omega arith) (λ q. eqb-false v 0 e (omega arith)));
      made = λ i h. absurd (omega arith);
      only = λ k h some. absurd (omega (arith, not_there k (omega arith) (λ q. omega arith)));
    }

module _ (l : List ℕ) (checked : Checked l) where
  ends_inside : (i : ℕ) → i < length (edges_of (problem_of l)) → ((edge (edges_of (problem_of l)) i).from < places.most_vertices) × ((edge (edges_of (problem_of l)) i).to < places.most_vertices)
  ends_inside i h =
      let m = mem-get_or (edges_of (problem_of l)) i zero_edge h in
      (omega (arith, few_vertices l (facts _ checked), (checked_ranges l checked).from _ m), omega (arith, few_vertices l (facts _ checked), (checked_ranges l checked).to _ m))

  -- Edges at one place have the same ends.
  module _ (i j : ℕ) (h : i < length (edges_of (problem_of l))) (k : j < length (edges_of (problem_of l))) (same : place (problem_of l) i ≡ place (problem_of l) j) where
    one_place : along (edge (edges_of (problem_of l)) i) ≡ along (edge (edges_of (problem_of l)) j)
    one_place =
        let a = ends_inside i h in
        let b = ends_inside j k in
        let from : (edge (edges_of (problem_of l)) i).from ≡ (edge (edges_of (problem_of l)) j).from = omega arith in
        let to : (edge (edges_of (problem_of l)) i).to ≡ (edge (edges_of (problem_of l)) j).to = omega arith in
        rw (from, to)

  module _ (i from to x : ℕ) (below : i < length (edges_of (problem_of l))) (f : from ≡ (edge (edges_of (problem_of l)) i).from) (o : to ≡ (edge (edges_of (problem_of l)) i).to)
      (is : x ≡ cond (leb to from) 2 1) where
    pub mark_inside : places.most_vertices * from + to < start_row
    mark_inside = let a = ends_inside i below in omega arith

    mark_is : x ≡ along (edge (edges_of (problem_of l)) i)
    mark_is = rw (← f, ← o) is

    pub edge_marked : (t : List ℕ) → StepsMarked (problem_of l) i t → StepsMarked (problem_of l) (i + 1) (set t (places.most_vertices * from + to) x)
    edge_marked t m =
        let at : ℕ = places.most_vertices * from + to in
        let mine : place (problem_of l) i ≡ at = omega arith in
        let inside : at < start_row = mark_inside in
        record {
          long = length-set t at x ∙ m.long;
          first = λ v h. get_or-set_other t at (start_row + v) x 0 (λ e. omega arith) ∙ m.first v h;
          made = λ j h.
              by_bool (eqb (place (problem_of l) j) at)
              (λ e.
              here t at x m.long (omega arith) _ (eqb-true _ at e)
              ∙ mark_is
              ∙ one_place i j below (omega arith) (mine ∙ sym (eqb-true _ at e)))
              (λ e.
              get_or-set_other t at _ x 0 (eqb-false _ at e)
              ∙ m.made j (by_bool (eqb j i)
              (λ q. absurd (eqb-false _ at e (ap (place (problem_of l)) (eqb-true j i q) ∙ mine)))
              (λ q. omega (arith, eqb-false j i q))));
          only = λ k h some.
              by_bool (eqb k at)
              (λ e. (i, omega arith, mine ∙ sym (eqb-true k at e)))
              (λ e.
              let (j, less, q) = m.only k h (rw (get_or-set_other t at k x 0 (eqb-false k at e)) at some) in
              (j, omega arith, q));
        }

  module _ (t : List ℕ) (m : StepsMarked (problem_of l) (length (edges_of (problem_of l))) t) (u v : ℕ) (h : List ℕ) (known : u < (problem_of l).vertex_count) (next : v < (problem_of l).vertex_count) where
    looked_up : get_or t (places.most_vertices * u + v) 0 ≡ step_of (problem_of l) (u ∷ h) v
    looked_up =
        let few : (problem_of l).vertex_count ≤ places.most_vertices = few_vertices l (facts _ checked) in
        by_cond (λ (x : ℕ). get_or t (places.most_vertices * u + v) 0 ≡ x) (may_follow (problem_of l) (u ∷ h) v)
        (λ e.
        let (i, less, q) = index_of zero_edge (follows_edge (problem_of l) u v h e) in
        let f : (edge (edges_of (problem_of l)) i).from ≡ u = ap (λ (x : Edge). x.from) q in
        let o : (edge (edges_of (problem_of l)) i).to ≡ v = ap (λ (x : Edge). x.to) q in
        rw (f, o) at (m.made i less))
        (λ e.
        by_order 0 (get_or t (places.most_vertices * u + v) 0)
        (λ some.
        let (i, less, q) = m.only (places.most_vertices * u + v) (omega arith) some in
        let a = ends_inside i less in
        true_not_false (sym (edge_follows (problem_of l) u v h (led (problem_of l) u v i less (omega arith) (omega arith))) ∙ e))
        (λ none. omega arith))

  pub all_marked : (i : ℕ) (t : List ℕ) → i ≤ length (edges_of (problem_of l)) → length (edges_of (problem_of l)) ≤ i → StepsMarked (problem_of l) i t → Steps (problem_of l) t
  unfolding may_follow
  all_marked i t low high marked = record { are = are }
    where
      end : i ≡ length (edges_of (problem_of l))
      end = omega arith

      m : StepsMarked (problem_of l) (length (edges_of (problem_of l))) t
      m = rw end at marked

      are : (h : List ℕ) (v : ℕ) → Known (problem_of l).vertex_count h → v < (problem_of l).vertex_count → get_or t (places.most_vertices * latest h + v) 0 ≡ step_of (problem_of l) h v
      are [] v known next = m.first v (omega (arith, few_vertices l (facts _ checked)))
      are (u ∷ h) v known next = looked_up t m u v h known next
