-- A visit to a vertex brings on what its row has, edge by edge.
use Prim.Native.Nat.{ℕ, ◌+◌, ◌≤◌, ◌<◌}
use mathlib.Core.Path.{◌≡◌, refl, sym, ap, subst, ◌∙◌}
use mathlib.Core.List.{List}
use mathlib.Core.Bool.{Bool, true, false, ◌||◌}
use mathlib.Core.Logic.{◌⊎◌, inl, inr, ⊎_elim, ◌↔◌}
use native.Mathlib.Omega.{arith}
use lib.ListN.{length, get_or, set, length-set}
use lib.Seq.{get_or-set_same, get_or-set_other, set-get_or}
use Rattle.model.specs.declared.Problem.{Problem}
use Rattle.model.specs.Numbers.{problem_of}
use Rattle.model.specs.Graph.{edges_of}
use Rattle.model.proofs.Cases.{by_bool, by_same, true_not_false}
use Rattle.bits.specs.Words.{Has, Grown, Step, Row, Sound}
use Rattle.bits.proofs.Steps.{unchanged, neither, grown_more}
use Rattle.flow.specs.Rounds.{Flow, Waiting, Passed, Flowing, Visited, Underway}
use Rattle.flow.specs.Laws.{NoMore, Laws}
use Rattle.flow.specs.Starts.{from, to}
use Rattle.flow.proofs.Edges.{EdgesFrom, EdgeFrom, start_small, from_first, to_last, edge_from}
use Rattle.model.specs.Places as places

-- A vertex that gained waits.
module _ (marks : List Bool) (v : ℕ) where
  abbrev marked_on : Bool → List Bool
  marked_on gained = set marks v (get_or marks v false || gained)

  or_false : (a : Bool) → (a || false) ≡ a
  or_false true = refl
  or_false false = refl

  or_true : (a : Bool) → (a || true) ≡ true
  or_true true = refl
  or_true false = refl

  same_marks : (gained : Bool) → gained ≡ false → marked_on gained ≡ marks
  same_marks gained e = rw (e, or_false (get_or marks v false)) (set-get_or marks v false)

  module _ (inside : v < length marks) where
    still_waiting : (gained : Bool) (x : ℕ) → Waiting marks x → Waiting (marked_on gained) x
    still_waiting gained x m = by_same x v
        (λ e. rw (e, get_or-set_same marks v (get_or marks v false || gained) false inside) (ap (λ (t : Bool). t || gained) (rw e at m)))
        (λ ne. get_or-set_other marks v x (get_or marks v false || gained) false ne ∙ m)

    now_waiting : (gained : Bool) → gained ≡ true → Waiting (marked_on gained) v
    now_waiting gained e = rw (get_or-set_same marks v (get_or marks v false || gained) false inside, e) (or_true (get_or marks v false))

module _ {p : Problem} (F : Flow p) where
  -- Edges from u bring only members of `In`.
  abbrev Within : (ℕ → ℕ → Type 0) → ℕ → List ℕ → Type 0
  Within In u ws = (f b : ℕ) → f < F.width → F.Brings ws u f b → In f b

pub not_waiting : {p : Problem} {F : Flow p} {u : ℕ} {marks : List Bool} {ws : List ℕ} → Flowing F marks ws → get_or marks u false ≡ false →
    Visited F u marks ws marks ws false
not_waiting {marks = marks} {ws = ws} flowing e = record {
  flowing = flowing;
  grown = unchanged ws;
  cleared = λ _ v m. (λ q. true_not_false (sym m ∙ ap (λ (x : ℕ). get_or marks x false) q ∙ e), m);
}

module _ (l : List ℕ) (F : Flow (problem_of l)) (begins : List ℕ) (In : ℕ → ℕ → Type 0) (u : ℕ) where
  -- A visit to u, whose edges bring the members `In`.
  pub record Visit : Type 0 where
    pub laws : Laws F
    pub edges : EdgesFrom l begins u
    pub good : (i : ℕ) → EdgeFrom l u i → (f b : ℕ) → f < F.width → In f b → F.Good (F.at (to (problem_of l) i) f) b

  -- The edges below i have brought them on. Edges from u bring no more than those, or u waits again.
  pub record Visiting (i : ℕ) (marks₀ : List Bool) (ws₀ : List ℕ) (marks : List Bool) (ws : List ℕ) (changed : Bool) : Type 0 where
    pub visit : Visit
    pub from_first : get_or begins u 0 ≤ i
    pub long : length ws ≡ F.size
    pub marks_long : length marks ≡ places.most_vertices
    pub each : (problem_of l).vertex_count ≤ places.most_vertices
    pub sound : Sound F.Good ws
    pub held : Waiting marks u ⊎ Within F In u ws
    pub due : (j : ℕ) → j < length (edges_of (problem_of l)) → Waiting marks (from (problem_of l) j) ⊎ (Passed F j ws ⊎ ((from (problem_of l) j ≡ u) × (i ≤ j)))
    pub grown : Grown ws₀ ws changed
    pub same : changed ≡ false → marks ≡ marks₀

module _ {l : List ℕ} {F : Flow (problem_of l)} {begins : List ℕ} {In : ℕ → ℕ → Type 0} {u : ℕ} where
  pub begun : {marks : List Bool} {ws : List ℕ} → Underway l F begins marks ws → u < (problem_of l).vertex_count → Laws F →
      ((f b : ℕ) → f < F.width → In f b ↔ F.Brings ws u f b) →
      Visiting l F begins In u (get_or begins u 0) (set marks u false) ws (set marks u false) ws false
  begun {marks} {ws} underway there laws brings = record {
    visit = record {
      laws = laws;
      edges = edges;
      good = λ i e f b lt m. laws.good ws underway.flowing.sound i e.here f b lt (rw e.from_u ((brings f b lt).0 m));
    };
    from_first = omega arith;
    long = underway.flowing.long;
    marks_long = length-set marks u false ∙ underway.flowing.marks_long;
    each = underway.flowing.each;
    sound = underway.flowing.sound;
    held = inr (λ f b lt m. (brings f b lt).1 m);
    due = λ j lt. ⊎_elim
        (λ m. by_same (from (problem_of l) j) u
        (λ e. inr (inr (e, from_first edges j e)))
        (λ ne. inl (get_or-set_other marks u (from (problem_of l) j) false false ne ∙ m)))
        (λ passed. inr (inl passed))
        (underway.flowing.due j lt);
    grown = unchanged ws;
    same = λ _. refl;
  }
    where
      edges : EdgesFrom l begins u
      edges = record { checked = underway.checked; starts = underway.starts; there = there }

  module _ {i : ℕ} {marks₀ : List Bool} {ws₀ : List ℕ} {marks : List Bool} {ws : List ℕ} {changed : Bool}
      (now : Visiting l F begins In u i marks₀ ws₀ marks ws changed) where
    -- The edge whose turn it is.
    pub edge_now : i < get_or begins (u + 1) 0 → EdgeFrom l u i
    edge_now high = edge_from now.visit.edges i now.from_first high

    pub end_small : i < get_or begins (u + 1) 0 → {v : ℕ} → v ≡ to (problem_of l) i → v < places.most_vertices
    end_small high to_v = omega (arith, to_v, (edge_now high).end_small)

    -- Its end v gains the row.
    module _ (high : i < get_or begins (u + 1) 0) {v : ℕ} (to_v : v ≡ to (problem_of l) i) {after : List ℕ} {gained : Bool}
        (s : Step (Row (F.at v) In F.width) ws after gained) where
      inside : v < length marks
      inside = omega (arith, now.marks_long, (edge_now high).end_small)

      on : List Bool
      on = marked_on marks v gained

      -- A row other than that of v is as it was, and where that of v is not, v waits.
      still : (x : ℕ) → Waiting on x ⊎ NoMore F x ws after
      unfolding on
      still x = by_bool gained
          (λ e. by_same x v
          (λ q. inl (rw q (now_waiting marks v inside gained e)))
          (λ ne. inr (λ f b lt h. ⊎_elim
          (λ m. m)
          (λ (h', (lt', (q, _))). absurd (ne (now.visit.laws.apart x v f h' lt lt' q)))
          (s.only (F.at x f) b h))))
          (λ e. inr (λ f b lt h. subst (λ (t : List ℕ). Has t (F.at x f) b) (s.same e) h))

      keep : (x : ℕ) → Waiting marks x → Waiting on x
      unfolding on
      keep x m = still_waiting marks v inside gained x m

      keep_passed : (j : ℕ) → Passed F j ws → Waiting on (from (problem_of l) j) ⊎ Passed F j after
      keep_passed j passed = ⊎_elim inl
          (λ row. inr (λ f b lt m.
          s.grown.kept (F.at (to (problem_of l) j) f) b (passed f b lt (now.visit.laws.local ws after (from (problem_of l) j) row f b lt m))))
          (still (from (problem_of l) j))

      still_held : Within F In u ws → Waiting on u ⊎ Within F In u after
      still_held held = ⊎_elim inl (λ row. inr (λ f b lt m. held f b lt (now.visit.laws.local ws after u row f b lt m))) (still u)

      is_held : Waiting on u ⊎ Within F In u after
      is_held = ⊎_elim (λ m. inl (keep u m)) still_held now.held

      passes : Waiting on (from (problem_of l) i) ⊎ Passed F i after
      passes = ⊎_elim
          (λ m. inl (rw (edge_now high).from_u m))
          (λ held. inr (λ f b lt m.
          s.added (F.at (to (problem_of l) i) f) b (f, (lt, (ap (λ (x : ℕ). F.at x f) (sym to_v), held f b lt (rw (edge_now high).from_u at m))))))
          is_held

      good : (k b : ℕ) → Row (F.at v) In F.width k b → F.Good k b
      good k b (f, (lt, (e, m))) = rw (e, to_v) (now.visit.good i (edge_now high) f b lt m)

      abbrev StillDue : ℕ → Type 0
      StillDue j = Waiting on (from (problem_of l) j) ⊎ (Passed F j after ⊎ ((from (problem_of l) j ≡ u) × (i + 1 ≤ j)))

      weaker : {j : ℕ} → Waiting on (from (problem_of l) j) ⊎ Passed F j after → StillDue j
      weaker = ⊎_elim inl (λ q. inr (inl q))

      still_due : (j : ℕ) → Waiting marks (from (problem_of l) j) ⊎ (Passed F j ws ⊎ ((from (problem_of l) j ≡ u) × (i ≤ j))) → StillDue j
      still_due j (inl m) = inl (keep (from (problem_of l) j) m)
      still_due j (inr (inl passed)) = weaker (keep_passed j passed)
      still_due j (inr (inr (e, le))) = by_same j i
          (λ q. weaker (rw q passes))
          (λ ne. inr (inr (e, omega arith)))

      pub turn : Visiting l F begins In u (i + 1) marks₀ ws₀ (set marks v (get_or marks v false || gained)) after (changed || gained)
      unfolding on
      turn = record {
        visit = now.visit;
        from_first = omega (arith, now.from_first);
        long = s.long ∙ now.long;
        marks_long = length-set marks v (get_or marks v false || gained) ∙ now.marks_long;
        each = now.each;
        sound = λ k b h. ⊎_elim (now.sound k b) (good k b) (s.only k b h);
        held = is_held;
        due = λ j lt. still_due j (now.due j lt);
        grown = grown_more now.grown s.grown;
        same = λ e. same_marks marks v gained (neither changed gained e).1 ∙ now.same (neither changed gained e).0;
      }

  pub ended : {i : ℕ} {marks : List Bool} {ws : List ℕ} {marks' : List Bool} {after : List ℕ} {changed : Bool} →
      Visiting l F begins In u i (set marks u false) ws marks' after changed → get_or begins (u + 1) 0 ≤ i → Visited F u marks ws marks' after changed
  ended {marks = marks} {marks' = marks'} now past = record {
    flowing = record {
      long = now.long;
      marks_long = now.marks_long;
      each = now.each;
      sound = now.sound;
      due = λ j lt. ⊎_elim inl (⊎_elim inr (λ (e, le). absurd (omega (arith, to_last now.visit.edges j lt e)))) (now.due j lt);
    };
    grown = now.grown;
    cleared = λ e x m. off (now.same e) x (subst (λ (t : List Bool). Waiting t x) (now.same e) m);
  }
    where
      off : marks' ≡ set marks u false → (x : ℕ) → Waiting (set marks u false) x → (x ≡ u → ⊥) × Waiting marks x
      off is x m = by_same x u
          (λ e.
          let inside : u < length marks = omega (arith, now.marks_long, ap length is, length-set marks u false, start_small now.visit.edges) in
          true_not_false (sym (rw e at m) ∙ get_or-set_same marks u false false inside))
          (λ ne. (ne, sym (get_or-set_other marks u x false false ne) ∙ m))
