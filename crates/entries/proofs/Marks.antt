-- Laws of the marks of rule 6: what one more edge marks, and that the marks of all edges tell which vertex lacks one.
use Prim.Native.Nat.{ℕ, suc, ◌+◌, ◌<◌}
use mathlib.Core.Path.{◌≡◌, sym, ap, ◌∙◌}
use mathlib.Core.List.{List}
use mathlib.Core.Bool.{Bool, true, cond, ◌&&◌, ◌||◌, and-false, or-true, or-false}
use native.Mathlib.Omega.{arith}
use native.Mathlib.Numerals.{add-one}
use lib.ListN.{length, get_or, set, replicate, length-set, length-replicate, get_or-replicate}
use lib.Seq.{get_or-set_same, get_or-set_other}
use lib.Dec.{eqb, ltb}
use borrow.Author.Tests.{eqb-true, eqb-false}
use Rattle.model.specs.declared.Edge.{Edge}
use Rattle.model.specs.Search.{exists_below}
use Rattle.model.specs.Graph.{edge, enters_from_below, lacks}
use Rattle.model.proofs.Search.{exists_first, exists_more}
use Rattle.model.proofs.Cases.{by_bool}
use Rattle.entries.specs.Marks.{entry_mark, lacks_by, EndsMarked}
use Rattle.model.specs.Places as places

pub none_marked : (es : List Edge) → EndsMarked es 0 (replicate places.most_vertices 0) (replicate places.most_vertices 0)
none_marked es =
    record {
      entries = length-replicate {A = ℕ} places.most_vertices 0;
      exits = length-replicate {A = ℕ} places.most_vertices 0;
      into = λ v h. ap (λ (x : ℕ). eqb x 1) (get_or-replicate places.most_vertices v 0 0 h) ∙ sym (exists_first (λ i. enters_from_below v (edge es i)));
      out = λ v h. ap (λ (x : ℕ). eqb x 1) (get_or-replicate places.most_vertices v 0 0 h) ∙ sym (exists_first (λ i. eqb (edge es i).from v));
    }

-- A mark is stored, and the others stay.
module _ (marks : List ℕ) (at v mark : ℕ) (here : at < length marks) where
  stored : eqb (get_or (set marks at mark) v 0) 1 ≡ cond (eqb at v) (eqb mark 1) (eqb (get_or marks v 0) 1)
  stored =
      by_bool (eqb at v)
      (λ e. rw (e, ← eqb-true at v e) (ap (λ (x : ℕ). eqb x 1) (get_or-set_same marks at mark 0 here)))
      (λ e. rw e (ap (λ (x : ℕ). eqb x 1) (get_or-set_other marks at v mark 0 (λ q. eqb-false at v e (sym q)))))

-- What the mark of v says after an edge from `from` to `to`, and after an edge from `from`.
module _ (v from : ℕ) {before : Bool} where
  entry_joins : (to : ℕ) (old : ℕ → ℕ) → eqb (old v) 1 ≡ before →
      cond (eqb to v) (eqb (entry_mark (old to) from to) 1) (eqb (old v) 1) ≡ (before || (ltb from v && eqb to v))
  entry_joins to old is =
      by_bool (eqb to v)
      (λ e. rw (e, eqb-true to v e) (by_bool (ltb from v) (λ t. rw t (sym (or-true before))) (λ t. rw t (is ∙ sym (or-false before)))))
      (λ e. rw (e, and-false (ltb from v)) (is ∙ sym (or-false before)))

  exit_joins : {old : Bool} → old ≡ before → cond (eqb from v) true old ≡ (before || eqb from v)
  exit_joins is = by_bool (eqb from v) (λ e. rw e (sym (or-true before))) (λ e. rw e (is ∙ sym (or-false before)))

module _ {es : List Edge} {k : ℕ} {entered exited : List ℕ} (marked : EndsMarked es k entered exited) {from to mark : ℕ} (f : from ≡ (edge es k).from)
    (t : to ≡ (edge es k).to) (is : mark ≡ entry_mark (get_or entered to 0) from to) (from_small : from < places.most_vertices) (to_small : to < places.most_vertices) where
  module _ (v : ℕ) (h : v < places.most_vertices) where
    enters : eqb (get_or (set entered to mark) v 0) 1 ≡ exists_below (suc k) (λ i. enters_from_below v (edge es i))
    enters =
        let joined : (exists_below k (λ i. enters_from_below v (edge es i)) || (ltb from v && eqb to v)) ≡ exists_below (suc k) (λ i. enters_from_below v (edge es i)) =
        rw (f, t) (sym (exists_more k (λ i. enters_from_below v (edge es i)))) in
        stored entered to v mark (omega (arith, marked.entries))
        ∙ (ap (λ (m : ℕ). cond (eqb to v) (eqb m 1) (eqb (get_or entered v 0) 1)) is
        ∙ (entry_joins v from to (λ x. get_or entered x 0) (marked.into v h) ∙ joined))

    leaves : eqb (get_or (set exited from 1) v 0) 1 ≡ exists_below (suc k) (λ i. eqb (edge es i).from v)
    leaves =
        let joined : (exists_below k (λ i. eqb (edge es i).from v) || eqb from v) ≡ exists_below (suc k) (λ i. eqb (edge es i).from v) =
        rw f (sym (exists_more k (λ i. eqb (edge es i).from v))) in
        stored exited from v 1 (omega (arith, marked.exits))
        ∙ (exit_joins v from (marked.out v h) ∙ joined)

  pub more_marked : EndsMarked es (k + 1) (set entered to mark) (set exited from 1)
  more_marked =
      rw add-one
      (record {
        entries = length-set entered to mark ∙ marked.entries;
        exits = length-set exited from 1 ∙ marked.exits;
        into = enters;
        out = leaves;
      })

-- What the test by marks answers of a vertex.
pub lacks_told : {es : List Edge} {entered exited : List ℕ} → EndsMarked es (length es) entered exited → (v : ℕ) → v < places.most_vertices →
    {m n : ℕ} → m ≡ n → {r b : Bool} → r ≡ lacks_by (get_or entered v 0) (get_or exited v 0) v m → r ≡ b → lacks n es v ≡ b
unfolding lacks
lacks_told {es} marked v h e {r} is answer = sym (rw (marked.into v h, marked.out v h, e) at is) ∙ answer
