-- The search: where it begins, what holds when a state before the one whose turn it is gets a number, when its turn is over, and when all had theirs.
use Prim.Native.Nat.{ℕ, suc, ◌+◌, ◌*◌, ◌/◌, ◌%◌, ◌≤◌, ◌<◌}
use mathlib.Core.Path.{◌≡◌, refl, ap, sym, ◌∙◌}
use mathlib.Core.List.{List}
use mathlib.Core.Logic.{◌⊎◌, inl, inr, ⊎_elim}
use native.Mathlib.Nat.{div-add-mod', mod-lt}
use native.Mathlib.Omega.{arith}
use lib.ListN.{get_or, set, replicate, get_or-replicate}
use Rattle.model.specs.declared.Problem.{Problem}
use Rattle.model.specs.Costs.{function_of}
use Rattle.model.specs.Places.{most_vertices}
use Rattle.model.specs.Walks.{EdgeOf}
use Rattle.model.proofs.Cases.{by_order, by_same}
use Rattle.ways.specs.Ways.{most_states, no_way, steps, turn, Nearing, Distances}
use Rattle.ways.proofs.Exact.{EdgesSmall, phase_low}
use Rattle.distances.specs.Searching.{number_at, Queued, Before, Searching, Turning, AllPassed}
use Rattle.distances.proofs.Queued.{queue_none, is_room, by_place, Enterable, its_number, others, no_higher, keeps, earlier, number_earlier, number_latest, queue_more}

-- At first only the goal has a number.
module _ (p : Problem) (f g v : ℕ) (there : v < most_vertices) where
  abbrev begun : List ℕ
  begun = set (replicate most_states no_way) (2 * v + 1) 0

  blank : (j : ℕ) → j < most_states → get_or (replicate most_states no_way) j 0 ≡ no_way
  blank j = get_or-replicate {A = ℕ} most_states j no_way 0

  goal_ready : Enterable (replicate most_states no_way) (replicate most_states 0) 0 (2 * v + 1) 0
  goal_ready = record {
    queued = queue_none;
    here = omega arith;
    none = omega (arith, blank (2 * v + 1) (omega arith));
    few = omega arith;
    above = λ k less. absurd (omega arith);
  }

  goal_number : steps begun v 1 ≡ 0
  goal_number = its_number goal_ready

  number : (u s : ℕ) → u < most_vertices → s < 2 → ((u ≡ v) × (s ≡ 1)) ⊎ (steps begun u s ≡ no_way)
  number u s small low = by_same (2 * u + s) (2 * v + 1)
      (λ e. inl (omega arith, omega arith))
      (λ ne. inr (others goal_ready (2 * u + s) ne ∙ blank (2 * u + s) (omega arith)))

  is_goal : {u s : ℕ} → (u ≡ v) × (s ≡ 1) → steps begun u s ≡ 0
  is_goal (e, q) = rw (e, q) goal_number

  pub search_begun : Searching p f g v (set (replicate most_states no_way) (2 * v + 1) 0) (set (replicate most_states 0) 0 (2 * v + 1)) 0 1
  search_begun =
      let queued = queue_more goal_ready in
      record {
        nearing = record {
          long = queued.table;
          most = λ u s small low. ⊎_elim (λ goal. omega (arith, is_goal goal)) (λ e. omega arith) (number u s small low);
          reached = goal_number;
          goal = λ u s small low is. ⊎_elim (λ goal. goal) (λ e. absurd (omega arith)) (number u s small low);
          support = λ u s k small low is few. absurd (⊎_elim (λ goal. omega (arith, is_goal goal)) (λ e. omega arith) (number u s small low));
        };
        queued = queued;
        within = omega arith;
        close = λ k some less. omega (arith, queued.low k less);
        done = λ k w t u s less. absurd (omega arith);
      }

module _ {p : Problem} {f g w t number v first : ℕ} {d queue : List ℕ} {end : ℕ} (now : Turning p f g w t number v first d queue end) where
  queued : Queued d queue end
  queued = now.searching.queued

  first_number : number_at d queue first ≡ steps d w t
  first_number = ap (λ (j : ℕ). get_or d j 0) now.state

  few : number ≤ end
  few = omega (arith, now.next, first_number, queued.low first now.some, now.some)

  above : (k : ℕ) → k < end → number_at d queue k ≤ number
  above k less = omega (arith, now.next, first_number, now.searching.close k now.some less)

  -- So a state that has a number already has none that is higher.
  pub had_low : (j : ℕ) → j < most_states → get_or d j 0 < no_way → get_or d j 0 ≤ number
  had_low j here less =
      let (k, before, is) = queued.all j here less in
      let same : number_at d queue k ≡ get_or d j 0 = rw is in
      omega (arith, above k before)

  -- A state before w that has no number gets it.
  module _ {u s : ℕ} (there : u < most_vertices) (before : Before p f g w t u s) (none : no_way ≤ steps d u s) where
    pub ready : Enterable d queue end (2 * u + s) number
    ready = record { queued = queued; here = omega (arith, before.low); none = none; few = few; above = above }

    abbrev d' : List ℕ
    d' = set d (2 * u + s) number

    abbrev queue' : List ℕ
    queue' = set queue end (2 * u + s)

    w_keeps : steps d' w t ≡ steps d w t
    w_keeps = keeps ready (2 * w + t) (omega (arith, now.next, few, is_room queued ready.here none))

    support : (x r k : ℕ) → x < most_vertices → r < 2 → steps d' x r ≡ suc k → suc k < no_way →
        (y : ℕ) × EdgeOf p x y × (steps d' y (turn p f g r x) ≤ k)
    support x r k small low is less = by_same (2 * x + r) (2 * u + s)
        (λ e.
        let same_u : x ≡ u = omega (arith, before.low) in
        let same_s : r ≡ s = omega (arith, before.low) in
        let own_number : steps d' x r ≡ number = rw e (its_number ready) in
        (w, rw same_u before.edge, rw (same_u, same_s, before.turns) (omega (arith, w_keeps, now.next))))
        (λ ne.
        let (y, edge, near) = now.searching.nearing.support x r k small low (omega (arith, others ready (2 * x + r) ne)) less in
        (y, edge, omega (arith, no_higher ready (2 * y + turn p f g r x))))

    still_nearing : Nearing p f g v d'
    still_nearing =
        let nearing = now.searching.nearing in
        record {
          long = (queue_more ready).table;
          most = λ x r small low. omega (arith, no_higher ready (2 * x + r), nearing.most x r small low);
          reached = omega (arith, no_higher ready (2 * v + 1), nearing.reached);
          goal = λ x r small low is. by_same (2 * x + r) (2 * u + s)
              (λ e. let own_number : steps d' x r ≡ number = rw e (its_number ready) in absurd (omega (arith, now.next)))
              (λ ne. nearing.goal x r small low (omega (arith, others ready (2 * x + r) ne)));
          support = support;
        }

    pub entered : Turning p f g w t number v first (set d (2 * u + s) number) (set queue end (2 * u + s)) (end + 1)
    entered = record {
      searching = record {
        nearing = still_nearing;
        queued = queue_more ready;
        within = omega (arith, now.some);
        close = λ k some.
            by_place (λ k. number_at d' queue' k ≤ suc (number_at d' queue' first))
            (λ k less. omega (arith, number_earlier ready k less, number_earlier ready first now.some, now.searching.close k now.some less))
            (omega (arith, number_latest ready, number_earlier ready first now.some, first_number, now.next))
            k;
        done = λ k x r y q less is step.
            let in_queue : k < end = omega (arith, now.some) in
            let was = now.searching.done k x r y q less (sym (earlier ready k in_queue) ∙ is) step in
            omega (arith, was, no_higher ready (2 * y + q), number_earlier ready k in_queue);
      };
      some = omega (arith, now.some);
      state = earlier ready first now.some ∙ now.state;
      low = now.low;
      next = omega (arith, w_keeps, now.next);
    }

-- The first state of the queue that is not done has its turn: its vertex and its phase.
module _ {p : Problem} {f g v first : ℕ} {d queue : List ℕ} {end : ℕ} (now : Searching p f g v d queue first end) (some : first < end) where
  parts : get_or queue first 0 ≡ 2 * (get_or queue first 0 / 2) + get_or queue first 0 % 2
  parts = omega (arith, div-add-mod' (get_or queue first 0) 2)

  pub turn_vertex : get_or queue first 0 / 2 < most_vertices
  turn_vertex = omega (arith, parts, now.queued.inside first some)

  pub turn_begun : Turning p f g (get_or queue first 0 / 2) (get_or queue first 0 % 2) (number_at d queue first + 1) v first d queue end
  turn_begun = record {
    searching = now;
    some = some;
    state = parts;
    low = mod-lt (get_or queue first 0) {m = 2} (omega arith);
    next = omega (arith, ap (λ (j : ℕ). get_or d j 0) parts);
  }

-- All states before w have a number that is low enough, so that its turn is over.
pub search_on : {p : Problem} {f g w t number v first : ℕ} {d queue : List ℕ} {end : ℕ} {d' queue' : List ℕ} {end' : ℕ} →
    Turning p f g w t number v first d queue end → AllPassed p f g w t number d queue end d' queue' end' →
    Searching p f g v d' queue' (first + 1) end'
search_on {p} {f} {g} {w} {t} {v = v} {first} {d' = d'} {queue'} {end'} was all =
    let now = all.still v first was in
    let searching = now.searching in
    record {
      nearing = searching.nearing;
      queued = searching.queued;
      within = omega (arith, now.some);
      close = λ k some less.
          omega (arith, searching.close k now.some less, searching.queued.ascend first (first + 1) some (omega arith));
      done = λ k x r y q less is step. by_same k first
          (λ e.
          let low : r < 2 = rw step.turns at (phase_low f g (function_of p y) q step.low) in
          let there : get_or queue' first 0 ≡ 2 * x + r = rw e at is in
          let same_x : x ≡ w = omega (arith, now.state, now.low) in
          let same_r : r ≡ t = omega (arith, now.state, now.low) in
          let its : Before p f g w t y q = rw (← same_x, ← same_r) step in
          rw e (omega (arith, all.passed y q its, now.next, first_number now)))
          (λ ne. searching.done k x r y q (omega arith) is step);
    }

-- The queue's end: every step has been looked at from behind.
pub search_over : {p : Problem} {f g v : ℕ} {d queue : List ℕ} {first end : ℕ} → EdgesSmall p → Searching p f g v d queue first end → end ≤ first →
    Distances p f g v d
search_over {p} {f} {g} {v} {d} {queue} small now over = record {
  nearing = now.nearing;
  few = λ u s there low less.
      let (k, before, is) = now.queued.all (2 * u + s) (omega arith) less in
      let same : number_at d queue k ≡ steps d u s = rw is in
      omega (arith, now.queued.low k before, now.queued.room);
  settled = λ u s low w edge.
      let t = turn p f g s u in
      let t_low : turn p f g s u < 2 = phase_low f g (function_of p u) s low in
      by_order (steps d w t) no_way
      (λ less.
      let (k, before, is) = now.queued.all (2 * w + t) (omega (arith, (small u w edge).1)) less in
      let same : number_at d queue k ≡ steps d w t = rw is in
      omega (arith, now.done k w t u s (omega arith) is (record { edge = edge; low = low; turns = refl })))
      (λ none. omega (arith, now.nearing.most u s (small u w edge).0 low));
}
