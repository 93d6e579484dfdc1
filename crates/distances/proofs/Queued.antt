-- The queue of states that have a number: empty at first, and longer by each state that gets one.
use Prim.Native.Nat.{ℕ, ◌+◌, ◌≤◌, ◌<◌}
use mathlib.Core.Path.{◌≡◌, ◌∙◌}
use mathlib.Core.List.{List}
use native.Mathlib.Omega.{arith}
use lib.ListN.{length, get_or, set, replicate, length-set, length-replicate, get_or-replicate}
use lib.Seq.{get_or-set_same, get_or-set_other}
use Rattle.model.proofs.Cases.{by_same}
use Rattle.ways.specs.Ways.{most_states, no_way}
use Rattle.distances.specs.Searching.{number_at, Queued}
use Rattle.distances.proofs.Unnumbered.{none_numbered, one_fewer}

pub queue_none : Queued (replicate most_states no_way) (replicate most_states 0) 0
queue_none = record {
  table = length-replicate {A = ℕ} most_states no_way;
  long = length-replicate {A = ℕ} most_states 0;
  room = omega (arith, none_numbered most_states);
  inside = λ k less. absurd (omega arith);
  low = λ k less. absurd (omega arith);
  all = λ j here less. absurd (omega (arith, get_or-replicate {A = ℕ} most_states j no_way 0 here));
  ascend = λ k m less up. absurd (omega arith);
}

-- A state that has no number has room in the queue.
pub is_room : {d queue : List ℕ} {end i : ℕ} → Queued d queue end → i < most_states → no_way ≤ get_or d i 0 → end < most_states
is_room {d} {i = i} queued here none = omega (arith, queued.room, one_fewer d i 0 (omega (arith, queued.table)) none (omega arith))

-- What holds of the earlier places and of the latest one holds of all.
pub by_place : {end : ℕ} (P : ℕ → Type 0) → ((k : ℕ) → k < end → P k) → P end → (k : ℕ) → k < end + 1 → P k
by_place {end} P before now k less = by_same k end (λ e. rw e now) (λ ne. before k (omega arith))

-- State i has no number, and gets one that is no lower than those before.
pub record Enterable (d queue : List ℕ) (end i number : ℕ) : Type 0 where
  pub queued : Queued d queue end
  pub here : i < most_states
  pub none : no_way ≤ get_or d i 0
  pub few : number ≤ end
  pub above : (k : ℕ) → k < end → number_at d queue k ≤ number

module _ {d queue : List ℕ} {end i number : ℕ} (ready : Enterable d queue end i number) where
  abbrev d' : List ℕ
  d' = set d i number

  abbrev queue' : List ℕ
  queue' = set queue end i

  room : end < most_states
  room = is_room ready.queued ready.here ready.none

  inside : i < length d
  inside = omega (arith, ready.here, ready.queued.table)

  -- Its number, and those of the others.
  pub its_number : get_or d' i 0 ≡ number
  its_number = get_or-set_same d i number 0 inside

  pub others : (j : ℕ) → (j ≡ i → ⊥) → get_or d' j 0 ≡ get_or d j 0
  others j = get_or-set_other d i j number 0

  pub no_higher : (j : ℕ) → get_or d' j 0 ≤ get_or d j 0
  no_higher j = by_same j i (λ e. rw e (omega (arith, its_number, room, ready.few, ready.none))) (λ ne. omega (arith, others j ne))

  pub keeps : (j : ℕ) → get_or d j 0 < no_way → get_or d' j 0 ≡ get_or d j 0
  keeps j less = others j (λ e. let same : get_or d j 0 ≡ get_or d i 0 = rw e in omega (arith, ready.none))

  -- The queue.
  pub earlier : (k : ℕ) → k < end → get_or queue' k 0 ≡ get_or queue k 0
  earlier k less = get_or-set_other queue end k i 0 (λ e. omega arith)

  latest : get_or queue' end 0 ≡ i
  latest = get_or-set_same queue end i 0 (omega (arith, ready.queued.long, room))

  pub number_earlier : (k : ℕ) → k < end → number_at d' queue' k ≡ number_at d queue k
  number_earlier k less = rw (earlier k less) (keeps (get_or queue k 0) (omega (arith, ready.queued.low k less, room)))

  pub number_latest : number_at d' queue' end ≡ number
  number_latest = rw latest its_number

  pub queue_more : Queued d' queue' (end + 1)
  queue_more =
      let queued = ready.queued in
      record {
        table = length-set d i number ∙ queued.table;
        long = length-set queue end i ∙ queued.long;
        room = omega (arith, queued.room, one_fewer d i number inside ready.none (omega (arith, room, ready.few)));
        inside = by_place (λ k. get_or queue' k 0 < most_states) (λ k less. rw (earlier k less) (queued.inside k less)) (rw latest ready.here);
        low = by_place (λ k. number_at d' queue' k ≤ k) (λ k less. rw (number_earlier k less) (queued.low k less)) (rw number_latest ready.few);
        all = λ j there less. by_same j i
            (λ e. (end, omega arith, rw e latest))
            (λ ne.
            let (k, before, is) = queued.all j there (omega (arith, others j ne)) in
            (k, omega arith, earlier k before ∙ is));
        ascend = λ k. by_place (λ m. k ≤ m → number_at d' queue' k ≤ number_at d' queue' m)
            (λ m less up. omega (arith, number_earlier k (omega arith), number_earlier m less, queued.ascend k m less up))
            (λ up. by_same k end
            (λ e. rw e (omega arith))
            (λ ne. omega (arith, number_latest, number_earlier k (omega arith), ready.above k (omega arith))));
      }
