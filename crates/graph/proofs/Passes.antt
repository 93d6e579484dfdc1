-- A graph with the facts of rules 6 to 9 passes them: the other direction of `graph_facts`.
use Prim.Native.Nat.{ℕ, ◌-◌, ◌≤◌, ◌<◌}
use Rattle.std.specs.Prelude.{Ok}
use mathlib.Core.Path.{◌≡◌, sym, ap, ◌∙◌}
use mathlib.Core.List.{List, Memᴰ}
use mathlib.Core.Bool.{Bool, true, false, not, ◌&&◌}
use mathlib.Core.Logic.{◌⊎◌, inl, inr}
use native.Mathlib.Omega.{arith}
use lib.ListN.{length, get_or}
use lib.Dec.{leb, ltb, eqb}
use borrow.Author.Tests.{ltb-true, leb-true, lt-ltb, le-ltb, lt-leb, eq-eqb}
use Rattle.model.specs.declared.Refusal.{Refusal}
use Rattle.model.specs.declared.Edge.{Edge}
use Rattle.model.specs.declared.Loop.{Loop}
use Rattle.model.specs.Zero.{zero_edge, zero_loop}
use Rattle.model.specs.Search.{exists_below}
use Rattle.model.specs.Graph as graph
use Rattle.model.specs.Graph.{edge, loop, holds, broken, graph_rules}
use Rattle.model.proofs.Cases.{by_bool}
use Rattle.model.proofs.Lists.{mem-get_or, index_of}
use Rattle.model.proofs.Search.{exists_at, exists_nowhere}
use Rattle.graph.proofs.Facts.{GraphFacts}

-- A rule that is broken nowhere is not broken.
unbroken : (n : ℕ) (test : ℕ → Bool) (refusal : ℕ → Refusal) → ((i : ℕ) → i < n → test i ≡ false) → broken n test refusal ≡ Ok tt
unbroken n test refusal all = rw (exists_nowhere n test all)

-- What is found at a member is found at an index.
found : {A : Type 0} (d : A) (s : List A) (test : A → Bool) (a : A) → Memᴰ a s → test a ≡ true → exists_below (length s) (λ i. test (get_or s i d)) ≡ true
found d s test a m e = let r = index_of d m in exists_at (length s) (λ i. test (get_or s i d)) r.0 r.1 (ap test r.2 ∙ e)

-- A condition that fails, or whose need is met, breaks no rule.
unless : (a b : Bool) → (a ≡ true → b ≡ true) → a && not b ≡ false
unless a b met = by_bool a (λ e. rw (e, met e)) (λ e. rw e)

module _ (n : ℕ) (es : List Edge) (ls : List Loop) (facts : GraphFacts n es ls) where
  linked : (v : ℕ) → v < n → graph.lacks n es v ≡ false
  unfolding graph.lacks
  linked v h = rw (unless (ltb 0 v) (graph.entered es v) enters, unless (ltb v (n - 1)) (graph.exited es v) exits)
    where
      enters : ltb 0 v ≡ true → graph.entered es v ≡ true
      enters e =
          let r = facts.entered v (ltb-true 0 v e) h in
          found zero_edge es (graph.enters_from_below v) r.0 r.1 (rw (lt-ltb _ _ r.2, eq-eqb _ _ r.3))

      exits : ltb v (n - 1) ≡ true → graph.exited es v ≡ true
      exits e =
          let r = facts.exited v (omega (arith, ltb-true v (n - 1) e)) in
          found zero_edge es (λ x. eqb x.from v) r.0 r.1 (eq-eqb _ _ r.2)

  ranged : (j : ℕ) → j < length ls → graph.bad_range n ls j ≡ false
  unfolding graph.bad_range
  ranged j h =
      rw (facts.open_end (loop ls j) (mem-get_or ls j zero_loop h))
      (exists_nowhere j (λ i. graph.crosses (loop ls i) (loop ls j)) (λ i k. apart (loop ls i) (facts.nested i j k h)))
    where
      apart : (o : Loop) → (o.last < (loop ls j).header) ⊎ ((loop ls j).last ≤ o.last) → graph.crosses o (loop ls j) ≡ false
      apart o (inl q) = rw (lt-leb (loop ls j).header o.last q)
      apart o (inr q) = by_bool (leb (loop ls j).header o.last) (λ e. rw (e, le-ltb o.last (loop ls j).last q)) (λ e. rw e)

  right : (i : ℕ) → i < length es → graph.wrong_edge ls (edge es i) ≡ false
  unfolding graph.wrong_edge
  right i h =
      rw (exists_nowhere (length ls) (λ j. graph.enters_past_header (edge es i) (loop ls j)) outside)
      (unless (leb (edge es i).to (edge es i).from) (exists_below (length ls) (λ j. graph.returns_to (edge es i) (loop ls j))) back)
    where
      member : Memᴰ (edge es i) es
      member = mem-get_or es i zero_edge h

      outside : (j : ℕ) → j < length ls → graph.enters_past_header (edge es i) (loop ls j) ≡ false
      outside j k =
          let o : Loop = loop ls j in
          by_bool (holds o (edge es i).to)
          (λ inside.
          by_bool (holds o (edge es i).from)
          (λ e. rw (inside, e))
          (λ e. rw (inside, e, eq-eqb o.header (edge es i).to (facts.enter (edge es i) o member (mem-get_or ls j zero_loop k) inside e))))
          (λ e. rw e)

      back : leb (edge es i).to (edge es i).from ≡ true → exists_below (length ls) (λ j. graph.returns_to (edge es i) (loop ls j)) ≡ true
      back e =
          let r = facts.back (edge es i) member (leb-true _ _ e) in
          found zero_loop ls (graph.returns_to (edge es i)) r.0 r.1 (rw (r.3, eq-eqb _ _ r.2))

  returning : (j : ℕ) → j < length ls → graph.no_return es (loop ls j) ≡ false
  unfolding graph.no_return
  returning j h =
      let r = facts.returns (loop ls j) (mem-get_or ls j zero_loop h) in
      ap not (found zero_edge es (λ e. graph.returns_to e (loop ls j)) r.0 r.1 (rw (r.2, eq-eqb _ _ (sym r.3))))

  pub facts_graph : graph_rules n es ls ≡ Ok tt
  unfolding graph_rules
  facts_graph =
      rw (
        unbroken n (graph.lacks n es) _ linked,
        unbroken (length ls) (graph.bad_range n ls) _ ranged,
        unbroken (length es) (λ i. graph.wrong_edge ls (edge es i)) _ right,
        unbroken (length ls) (λ i. graph.no_return es (loop ls i)) _ returning,
      )
