-- Judging a walk entry by entry: what is known after i entries, and what each answer says.
use Prim.Native.Nat.{ℕ, suc, ◌+◌, ◌*◌, ◌≤◌, ◌<◌}
use Rattle.std.specs.Prelude.{Err, Ok}
use Rattle.model.specs.Refusals.{Verdict}
use mathlib.Core.Path.{◌≡◌, refl, sym, ap, ◌∙◌}
use mathlib.Core.List.{List, [], ◌∷◌}
use mathlib.Core.Bool.{Bool, true, false, cond, ◌&&◌, and-eq-true_iff}
use native.Mathlib.Omega.{arith}
use native.Mathlib.Numerals.{add-one}
use lib.ListN.{length, get_or, drop, replicate, length-replicate, get_or-replicate, drop_of_length-le}
use lib.Seq.{drop-cons}
use lib.Dec.{ltb, eqb}
use borrow.Author.Tests.{ltb-true, leb-true, leb-false, eq-eqb, ne_eqb, eqb-true, eqb-false}
use Rattle.model.specs.declared.Problem.{Problem}
use Rattle.model.specs.declared.Refusal.TheVariants.{WrongStep, BeyondBound}
use Rattle.model.specs.Numbers.{problem_of}
use Rattle.model.specs.Operations.{Checked}
use Rattle.model.specs.Walks.{last_vertex, visits}
use Rattle.model.specs.Verdicts.{may_follow, past_bound, at_last, judge_walk}
use Rattle.model.proofs.Cases.{by_bool, by_cond}
use Rattle.lookup.proofs.Places.{facts, few_vertices}
use Rattle.greatest.proofs.Checked.{checked_ranges}
use Rattle.steps.specs.Steps.{start, latest, Known, goes_back, step_of, Steps}
use Rattle.walk.specs.Judging.{Bounds, Tally, Counters, Arriving, Arrived, count_after}
use Rattle.walk.proofs.Arrivals.{past_it, within_it, counters_on, tally_on}
use Rattle.model.specs.Places as places

-- After i entries, of which the latest is u: what is left to judge is what was to be judged.
pub record Judging (p : Problem) (walk : List ℕ) (i u : ℕ) (counts : List ℕ) : Type 0 where
  pub history : List ℕ
  pub within : i ≤ length walk
  pub rest : judge_walk p history i (drop i walk) ≡ judge_walk p [] 0 walk
  pub from : latest history ≡ u
  pub known : Known p.vertex_count history
  pub tally : Tally p history counts
  pub counters : Counters counts

-- And the step to entry i.
pub record Stepping (p : Problem) (walk : List ℕ) (i u : ℕ) (counts : List ℕ) (step : ℕ) : Type 0 where
  pub judging : Judging p walk i u counts
  pub more : i < length walk
  pub is : step ≡ cond (ltb (get_or walk i 0) p.vertex_count) (step_of p judging.history (get_or walk i 0)) 0

-- What a step's number says.
no_step : (known may back : Bool) → ◌≡◌ {A = ℕ} 0 (cond known (cond may (cond back 2 1) 0) 0) → (known && may) ≡ false
no_step true true true e = absurd (omega arith)
no_step true true false e = absurd (omega arith)
no_step true false back e = refl
no_step false may back e = refl

some_step : (known may back : Bool) (step : ℕ) → step ≡ cond known (cond may (cond back 2 1) 0) 0 → (step ≡ 0 → ⊥) →
    ((known && may) ≡ true) × (step ≡ cond back 2 1)
some_step true true back step e some = (refl, e)
some_step true false back step e some = absurd (some e)
some_step false may back step e some = absurd (some e)

-- One entry, judged by its tests.
module _ (p : Problem) (h : List ℕ) (k v : ℕ) (rest : List ℕ) where
  entry_bad : (ltb v p.vertex_count && may_follow p h v) ≡ false → Err (WrongStep k) ≡ judge_walk p h k (v ∷ rest)
  unfolding judge_walk
  entry_bad e = rw e

  module _ (step : (ltb v p.vertex_count && may_follow p h v) ≡ true) where
    entry_past : past_bound p h v ≡ true → Err (BeyondBound k) ≡ judge_walk p h k (v ∷ rest)
    unfolding judge_walk
    entry_past e = rw (step, e)

    pub entry_good : past_bound p h v ≡ false → judge_walk p (v ∷ h) (k + 1) rest ≡ judge_walk p h k (v ∷ rest)
    unfolding judge_walk
    entry_good e = rw (step, e)

latest_near : (n : ℕ) (h : List ℕ) → n ≤ places.most_vertices → Known n h → latest h ≤ start
latest_near n [] few known = omega arith
latest_near n (u ∷ h) few known = omega arith

at_last_lem : (p : Problem) (h : List ℕ) → p.vertex_count ≤ places.most_vertices → Known p.vertex_count h → at_last p h ≡ eqb (latest h + 1) p.vertex_count
unfolding at_last
at_last_lem p [] few known = sym (ne_eqb (start + 1) p.vertex_count (λ e. omega arith))
at_last_lem p (u ∷ h) few known =
    by_bool (eqb (u + 1) p.vertex_count)
    (λ e. eq-eqb u (last_vertex p) (omega (arith, eqb-true (u + 1) p.vertex_count e)) ∙ sym e)
    (λ e. ne_eqb u (last_vertex p) (λ q. eqb-false (u + 1) p.vertex_count e (omega arith)) ∙ sym e)

module _ (l : List ℕ) (checked : Checked l) (walk : List ℕ) where
  pub begin : Judging (problem_of l) walk 0 start (replicate places.most_vertices 0)
  unfolding visits
  begin =
      record {
        history = [];
        within = omega arith;
        rest = refl;
        from = refl;
        known = tt;
        tally = λ o m inside.
            get_or-replicate {A = ℕ} places.most_vertices o.header 0 0 (omega (arith, few_vertices l (facts _ checked), (checked_ranges l checked).header o m, (checked_ranges l checked).last o m));
        counters = record { long = length-replicate {A = ℕ} places.most_vertices 0; small = λ i h. omega (arith, get_or-replicate {A = ℕ} places.most_vertices i 0 0 h) };
      }

  module _ (i u : ℕ) (counts : List ℕ) (judging : Judging (problem_of l) walk i u counts) where
    pub latest_few : u ≤ start
    latest_few = omega (arith, judging.from, latest_near (problem_of l).vertex_count judging.history (few_vertices l (facts _ checked)) judging.known)

    pub stepping : i < length walk → (table : List ℕ) → Steps (problem_of l) table → (n : ℕ) → n ≡ (problem_of l).vertex_count → (step : ℕ) →
        step ≡ cond (ltb (get_or walk i 0) n) (get_or table (places.most_vertices * u + get_or walk i 0) 0) 0 → Stepping (problem_of l) walk i u counts step
    stepping more table steps n n_is step told =
        record {
          judging = judging;
          more = more;
          is =
              by_cond (λ (x : ℕ). step ≡ x) (ltb (get_or walk i 0) (problem_of l).vertex_count)
              (λ e. (rw (n_is, e) at told) ∙ ap (λ (x : ℕ). get_or table (places.most_vertices * x + get_or walk i 0) 0) (sym judging.from) ∙ steps.are judging.history (get_or walk i 0) judging.known (ltb-true _ _ e))
              (λ e. rw (n_is, e) at told);
        }

    module _ (over : length walk ≤ i) where
      ended : judge_walk (problem_of l) [] 0 walk ≡ cond (eqb (u + 1) (problem_of l).vertex_count) (Ok tt) (Err (WrongStep i))
      unfolding judge_walk
      ended =
          sym judging.rest
          ∙ ap (judge_walk (problem_of l) judging.history i) (drop_of_length-le walk over)
          ∙ (rw (at_last_lem (problem_of l) judging.history (few_vertices l (facts _ checked)) judging.known, judging.from))

      pub ends_well : u + 1 ≡ (problem_of l).vertex_count → Ok tt ≡ judge_walk (problem_of l) [] 0 walk
      ends_well e = sym (ended ∙ (rw (eq-eqb (u + 1) (problem_of l).vertex_count e)))

      pub ends_early : (u + 1 ≡ (problem_of l).vertex_count → ⊥) → Err (WrongStep i) ≡ judge_walk (problem_of l) [] 0 walk
      ends_early n = sym (ended ∙ (rw (ne_eqb (u + 1) (problem_of l).vertex_count n)))

  -- What follows for the walk from the step to entry i.
  module _ (i u : ℕ) (counts : List ℕ) (step : ℕ) (stepping : Stepping (problem_of l) walk i u counts step) where
    abbrev v : ℕ
    v = get_or walk i 0

    abbrev h : List ℕ
    h = stepping.judging.history

    onward : (x : Verdict) → x ≡ judge_walk (problem_of l) h i (v ∷ drop (suc i) walk) → x ≡ judge_walk (problem_of l) [] 0 walk
    onward x e = e ∙ ap (judge_walk (problem_of l) h i) (sym (drop-cons walk i 0 stepping.more)) ∙ stepping.judging.rest

    pub bad : step ≡ 0 → Err (WrongStep i) ≡ judge_walk (problem_of l) [] 0 walk
    bad none = onward _ (entry_bad (problem_of l) h i v _ (no_step (ltb v (problem_of l).vertex_count) (may_follow (problem_of l) h v) (goes_back h v) (sym none ∙ stepping.is)))

    module _ (some : step ≡ 0 → ⊥) where
      good_step : ((ltb v (problem_of l).vertex_count && may_follow (problem_of l) h v) ≡ true) × (step ≡ cond (goes_back h v) 2 1)
      good_step = some_step (ltb v (problem_of l).vertex_count) (may_follow (problem_of l) h v) (goes_back h v) step stepping.is some

      both : (ltb v (problem_of l).vertex_count ≡ true) × (may_follow (problem_of l) h v ≡ true)
      both = (and-eq-true_iff (ltb v (problem_of l).vertex_count) _).0 good_step.0

      known : v < (problem_of l).vertex_count
      known = ltb-true _ _ both.0

      inside : v < places.most_vertices
      inside = omega (arith, known, few_vertices l (facts _ checked))

      pub arriving : Arriving counts step v
      arriving =
          record {
            counters = stepping.judging.counters;
            inside = inside;
            step_low = omega arith;
            step_high = rw good_step.1 (by_cond (λ (x : ℕ). x ≤ 2) (goes_back h v) (λ e. omega arith) (λ e. omega arith));
          }

      module _ (bounds : List ℕ) (are : Bounds (problem_of l) bounds) (after : List ℕ) (within : Bool) (arrived : Arrived bounds counts after step v within) where
        pub past : within ≡ false → Err (BeyondBound i) ≡ judge_walk (problem_of l) [] 0 walk
        past e =
            onward _ (entry_past (problem_of l) h i v _ good_step.0
            (past_it l checked h v both.1 counts stepping.judging.tally step good_step.1 bounds are inside (leb-false _ _ (sym arrived.told ∙ e))))

        module _ (e : within ≡ true) where
          fits : count_after counts step v ≤ get_or bounds v 0
          fits = leb-true _ _ (sym arrived.told ∙ e)

          pub good : Judging (problem_of l) walk (i + 1) v after
          good =
              record {
                history = v ∷ h;
                within = omega (arith, stepping.more);
                rest =
                    ap (λ (k : ℕ). judge_walk (problem_of l) (v ∷ h) (i + 1) (drop k walk)) (add-one i)
                    ∙ onward _ (entry_good (problem_of l) h i v _ good_step.0
                    (within_it l checked h v both.1 counts stepping.judging.tally step good_step.1 bounds are inside fits));
                from = refl;
                known = known;
                tally = rw (arrived.counted e) (tally_on l checked h v both.1 counts stepping.judging.tally step good_step.1 stepping.judging.counters.long inside);
                counters =
                    rw (arrived.counted e) (counters_on l checked h v both.1 counts stepping.judging.tally step good_step.1 bounds are inside stepping.judging.counters fits);
              }
