-- What a graph that passes rules 6 to 9 is like, for the laws of walks.
use Prim.Native.Nat.{ℕ, ◌+◌, ◌-◌, ◌≤◌, ◌<◌}
use Rattle.std.specs.Prelude.{Ok}
use mathlib.Core.Path.{◌≡◌, refl, sym, ap, ◌∙◌}
use mathlib.Core.List.{List, Memᴰ}
use mathlib.Core.Bool.{Bool, true, false, not, ◌&&◌, ◌||◌, true≢false, and-eq-true_iff}
use mathlib.Core.Logic.{◌⊎◌, inl, inr}
use native.Mathlib.Omega.{arith}
use lib.ListN.{length, get_or}
use lib.Dec.{leb, ltb, eqb}
use borrow.Author.Tests.{not-false, ltb-true, ltb-false, leb-false, eqb-true, lt-ltb, le-leb}
use Rattle.model.specs.declared.Refusal.{Refusal}
use Rattle.model.specs.declared.Refusal.TheVariants.{MissingEdge, WrongLoop, WrongEdge, NoEdgeBack}
use Rattle.model.specs.declared.Edge.{Edge}
use Rattle.model.specs.declared.Loop.{Loop}
use Rattle.model.specs.Zero.{zero_edge, zero_loop}
use Rattle.model.specs.Search.{exists_below}
use Rattle.model.specs.Graph as graph
use Rattle.model.specs.Graph.{edge, loop, holds, broken, graph_rules}
use Rattle.model.proofs.Answers.{accepted_both, refused_not_accepted}
use Rattle.model.proofs.Cases.{by_bool}
use Rattle.model.proofs.Lists.{mem-get_or, index_of}
use Rattle.model.proofs.Search.{some_below, none_below}

pub record GraphFacts (n : ℕ) (es : List Edge) (ls : List Loop) : Type 0 where
  pub entered : (v : ℕ) → 0 < v → v < n → (e : Edge) × Memᴰ e es × (e.from < v) × (e.to ≡ v)
  pub exited : (v : ℕ) → v + 1 < n → (e : Edge) × Memᴰ e es × (e.from ≡ v)
  pub nested : (i j : ℕ) → i < j → j < length ls → ((loop ls i).last < (loop ls j).header) ⊎ ((loop ls j).last ≤ (loop ls i).last)
  pub open_end : (l : Loop) → Memᴰ l ls → holds l (n - 1) ≡ false
  pub enter : (e : Edge) (l : Loop) → Memᴰ e es → Memᴰ l ls → holds l e.to ≡ true → holds l e.from ≡ false → l.header ≡ e.to
  pub back : (e : Edge) → Memᴰ e es → e.to ≤ e.from → (l : Loop) × Memᴰ l ls × (l.header ≡ e.to) × (holds l e.from ≡ true)
  pub returns : (l : Loop) → Memᴰ l ls → (e : Edge) × Memᴰ e es × (holds l e.from ≡ true) × (e.to ≡ l.header)

-- Tests joined by `&&` and `||`, taken apart.
and_false : (a b : Bool) → a && b ≡ false → a ≡ true → b ≡ false
and_false a b e q = rw q at e

or_false : (a b : Bool) → a || b ≡ false → (a ≡ false) × (b ≡ false)
or_false true b e = absurd (true≢false e)
or_false false b e = (refl, e)

-- A rule that is not broken is broken nowhere.
pub kept : (n : ℕ) (test : ℕ → Bool) (refusal : ℕ → Refusal) → broken n test refusal ≡ Ok tt → (i : ℕ) → i < n → test i ≡ false
kept n test refusal e i h = by_bool (exists_below n test) (λ q. refused_not_accepted (rw q at e)) (λ q. none_below n test q i h)

-- What is found at no index is found at no member, and what is found at an index is found at a member.
module _ {A : Type 0} (d : A) (s : List A) (test : A → Bool) where
  no_member : ((i : ℕ) → i < length s → test (get_or s i d) ≡ false) → (a : A) → Memᴰ a s → test a ≡ false
  no_member all a m = let r = index_of d m in ap test (sym r.2) ∙ all r.0 r.1

  some_member : exists_below (length s) (λ i. test (get_or s i d)) ≡ true → (a : A) × Memᴰ a s × (test a ≡ true)
  some_member e =
      let r = some_below (length s) (λ i. test (get_or s i d)) e in
      (get_or s r.0 d, mem-get_or s r.0 d r.1, r.2)

module _ (n : ℕ) (es : List Edge) (ls : List Loop) where
  module _ (linked : (v : ℕ) → v < n → graph.lacks n es v ≡ false) where
    entered : (v : ℕ) → 0 < v → v < n → (e : Edge) × Memᴰ e es × (e.from < v) × (e.to ≡ v)
    unfolding graph.lacks
    entered v low h =
        let lacking = (or_false (ltb 0 v && not (graph.entered es v)) _ (linked v h)).0 in
        let r = some_member zero_edge es (graph.enters_from_below v) (not-false _ (and_false (ltb 0 v) _ lacking (lt-ltb 0 v low))) in
        let t = (and-eq-true_iff (ltb r.0.from v) _).0 r.2 in
        (r.0, r.1, ltb-true _ v t.0, eqb-true _ v t.1)

    exited : (v : ℕ) → v + 1 < n → (e : Edge) × Memᴰ e es × (e.from ≡ v)
    unfolding graph.lacks
    exited v h =
        let lacking = (or_false (ltb 0 v && not (graph.entered es v)) _ (linked v (omega arith))).1 in
        let r = some_member zero_edge es (λ e. eqb e.from v) (not-false _ (and_false (ltb v (n - 1)) _ lacking (lt-ltb v (n - 1) (omega arith)))) in
        (r.0, r.1, eqb-true _ v r.2)

  module _ (ranged : (j : ℕ) → j < length ls → graph.bad_range n ls j ≡ false) where
    open_end : (l : Loop) → Memᴰ l ls → holds l (n - 1) ≡ false
    unfolding graph.bad_range
    open_end = no_member zero_loop ls (λ l. holds l (n - 1)) (λ j h. (or_false (holds (loop ls j) (n - 1)) _ (ranged j h)).0)

    nested : (i j : ℕ) → i < j → j < length ls → ((loop ls i).last < (loop ls j).header) ⊎ ((loop ls j).last ≤ (loop ls i).last)
    unfolding graph.bad_range
    nested i j low h =
        let crossing = (or_false (holds (loop ls j) (n - 1)) _ (ranged j h)).1 in
        let at : graph.crosses (loop ls i) (loop ls j) ≡ false = none_below j (λ k. graph.crosses (loop ls k) (loop ls j)) crossing i low in
        by_bool (leb (loop ls j).header (loop ls i).last)
        (λ q. inr (ltb-false _ _ (and_false (leb (loop ls j).header (loop ls i).last) _ at q)))
        (λ q. inl (leb-false _ _ q))

  module _ (right : (i : ℕ) → i < length es → graph.wrong_edge ls (edge es i) ≡ false) where
    right_edge : (e : Edge) → Memᴰ e es → graph.wrong_edge ls e ≡ false
    right_edge = no_member zero_edge es (graph.wrong_edge ls) right

    enter : (e : Edge) (l : Loop) → Memᴰ e es → Memᴰ l ls → holds l e.to ≡ true → holds l e.from ≡ false → l.header ≡ e.to
    unfolding graph.wrong_edge
    enter e l me ml inside outside =
        let entering = (or_false (exists_below (length ls) (λ i. graph.enters_past_header e (loop ls i))) _ (right_edge e me)).0 in
        let at = no_member zero_loop ls (graph.enters_past_header e) (none_below (length ls) (λ i. graph.enters_past_header e (loop ls i)) entering) l ml in
        let past = and_false (not (holds l e.from)) _ (and_false (holds l e.to) _ at inside) (ap not outside) in
        eqb-true _ _ (not-false _ past)

    back : (e : Edge) → Memᴰ e es → e.to ≤ e.from → (l : Loop) × Memᴰ l ls × (l.header ≡ e.to) × (holds l e.from ≡ true)
    unfolding graph.wrong_edge
    back e me h =
        let staying = (or_false (exists_below (length ls) (λ i. graph.enters_past_header e (loop ls i))) _ (right_edge e me)).1 in
        let r = some_member zero_loop ls (graph.returns_to e) (not-false _ (and_false (leb e.to e.from) _ staying (le-leb e.to e.from h))) in
        let t = (and-eq-true_iff (holds r.0 e.from) _).0 r.2 in
        (r.0, r.1, eqb-true _ _ t.1, t.0)

  module _ (returning : (i : ℕ) → i < length ls → graph.no_return es (loop ls i) ≡ false) where
    returns : (l : Loop) → Memᴰ l ls → (e : Edge) × Memᴰ e es × (holds l e.from ≡ true) × (e.to ≡ l.header)
    unfolding graph.no_return
    returns l ml =
        let r = some_member zero_edge es (λ e. graph.returns_to e l) (not-false _ (no_member zero_loop ls (graph.no_return es) returning l ml)) in
        let t = (and-eq-true_iff (holds l r.0.from) _).0 r.2 in
        (r.0, r.1, t.0, sym (eqb-true _ _ t.1))

  pub graph_facts : graph_rules n es ls ≡ Ok tt → GraphFacts n es ls
  unfolding graph_rules
  graph_facts e =
      let a = accepted_both (broken n (graph.lacks n es) MissingEdge) _ e in
      let b = accepted_both (broken (length ls) (graph.bad_range n ls) WrongLoop) _ a.1 in
      let c = accepted_both (broken (length es) (λ i. graph.wrong_edge ls (edge es i)) WrongEdge) _ b.1 in
      let linked = kept n (graph.lacks n es) MissingEdge a.0 in
      let ranged = kept (length ls) (graph.bad_range n ls) WrongLoop b.0 in
      let right = kept (length es) (λ i. graph.wrong_edge ls (edge es i)) WrongEdge c.0 in
      let returning = kept (length ls) (λ i. graph.no_return es (loop ls i)) NoEdgeBack c.1 in
      record {
        entered = entered linked;
        exited = exited linked;
        nested = nested ranged;
        open_end = open_end ranged;
        enter = enter right;
        back = back right;
        returns = returns returning;
      }
