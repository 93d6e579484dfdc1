-- The table of the bounds: a loop after a loop is entered in it at its header, which no other loop has.
use Prim.Native.Nat.{ℕ, ◌+◌, ◌≤◌, ◌<◌}
use mathlib.Core.Path.{◌≡◌, sym, ap, ◌∙◌}
use mathlib.Core.List.{List}
use native.Mathlib.Omega.{arith}
use lib.ListN.{length, get_or, set, replicate, length-set, length-replicate, get_or-replicate}
use lib.Seq.{get_or-set_same, get_or-set_other}
use lib.Dec.{eqb}
use borrow.Author.Tests.{eqb-true, eqb-false}
use Rattle.model.specs.declared.Loop.{Loop}
use Rattle.model.specs.declared.Problem.{Problem}
use Rattle.model.specs.Zero.{zero_loop}
use Rattle.model.specs.Numbers.{problem_of}
use Rattle.model.specs.Graph.{loop, loops_of}
use Rattle.model.specs.Operations.{Checked}
use Rattle.model.proofs.Cases.{by_bool}
use Rattle.model.proofs.Lists.{mem-get_or, index_of}
use Rattle.lookup.proofs.Places.{facts, bound_low, bound_high, header_small}
use Rattle.greatest.proofs.Loops.{unique}
use Rattle.greatest.proofs.Checked.{checked_ranges}
use Rattle.walk.specs.Judging.{Bounds}
use Rattle.model.specs.Places as places
use Rattle.model.specs.Limits as limits

-- The first `count` loops are entered.
pub record Entered (p : Problem) (count : ℕ) (t : List ℕ) : Type 0 where
  pub long : length t ≡ places.most_vertices
  pub own : (i : ℕ) → i < count → get_or t (loop (loops_of p) i).header 0 ≡ (loop (loops_of p) i).bound
  pub low : (v : ℕ) → v < places.most_vertices → 1 ≤ get_or t v 0
  pub high : (v : ℕ) → v < places.most_vertices → get_or t v 0 ≤ limits.most_visits

pub none_entered : (p : Problem) → Entered p 0 (replicate places.most_vertices limits.most_visits)
none_entered p =
    record {
      long = length-replicate {A = ℕ} places.most_vertices limits.most_visits;
      own = λ i h. absurd (omega arith);
      low = λ v h. omega (arith, get_or-replicate {A = ℕ} places.most_vertices v limits.most_visits 0 h);
      high = λ v h. omega (arith, get_or-replicate {A = ℕ} places.most_vertices v limits.most_visits 0 h);
    }

module _ (l : List ℕ) (checked : Checked l) where
  module _ (i header : ℕ) (below : i < length (loops_of (problem_of l))) (is : header ≡ (loop (loops_of (problem_of l)) i).header) where
    in_bounds : (1 ≤ (loop (loops_of (problem_of l)) i).bound) × ((loop (loops_of (problem_of l)) i).bound ≤ limits.most_visits)
    in_bounds = (bound_low l (facts l checked) i below, bound_high l (facts l checked) i below)

    pub header_inside : header < places.most_vertices
    header_inside = omega (arith, header_small l (facts l checked) i below)

    -- A loop with the same header has the same bound.
    one_header : (k : ℕ) → k < length (loops_of (problem_of l)) → (loop (loops_of (problem_of l)) k).header ≡ header →
        (loop (loops_of (problem_of l)) i).bound ≡ (loop (loops_of (problem_of l)) k).bound
    one_header k h e =
        ap (λ (o : Loop). o.bound)
        (unique (checked_ranges l checked).ascend (mem-get_or (loops_of (problem_of l)) i zero_loop below) (mem-get_or (loops_of (problem_of l)) k zero_loop h) (sym is ∙ sym e))

    module _ (bound : ℕ) (mine : bound ≡ (loop (loops_of (problem_of l)) i).bound) (t : List ℕ) (m : Entered (problem_of l) i t) where
      abbrev after : List ℕ
      after = set t header bound

      here : (v : ℕ) → v ≡ header → get_or after v 0 ≡ (loop (loops_of (problem_of l)) i).bound
      here v e = rw e (get_or-set_same t header _ 0 (omega (arith, m.long, header_inside)) ∙ mine)

      -- What holds of this loop's bound and of every other place holds of the new table.
      everywhere : (P : ℕ → Type 0) → P (loop (loops_of (problem_of l)) i).bound → ((v : ℕ) → v < places.most_vertices → P (get_or t v 0)) → (v : ℕ) → v < places.most_vertices → P (get_or after v 0)
      everywhere P a b v h =
          by_bool (eqb v header)
          (λ e. rw (here v (eqb-true v header e)) a)
          (λ e. rw (get_or-set_other t header v bound 0 (eqb-false v header e)) (b v h))

      pub loop_entered : Entered (problem_of l) (i + 1) after
      loop_entered =
          record {
            long = length-set t header _ ∙ m.long;
            own = λ k h.
                by_bool (eqb (loop (loops_of (problem_of l)) k).header header)
                (λ e. here _ (eqb-true _ header e) ∙ one_header k (omega arith) (eqb-true _ header e))
                (λ e.
                get_or-set_other t header _ _ 0 (eqb-false _ header e)
                ∙ m.own k (by_bool (eqb k i)
                (λ q. absurd (eqb-false _ header e (ap (λ (j : ℕ). (loop (loops_of (problem_of l)) j).header) (eqb-true k i q) ∙ sym is)))
                (λ q. omega (arith, eqb-false k i q))));
            low = everywhere (λ (x : ℕ). 1 ≤ x) in_bounds.0 m.low;
            high = everywhere (λ (x : ℕ). x ≤ limits.most_visits) in_bounds.1 m.high;
          }

pub all_entered : (p : Problem) (i : ℕ) (t : List ℕ) → length (loops_of p) ≤ i → Entered p i t → Bounds p t
all_entered p i t over m =
    record {
      own = λ o n.
          let (k, h, e) = index_of zero_loop n in
          rw e at (m.own k (omega arith));
      low = m.low;
      high = m.high;
    }
