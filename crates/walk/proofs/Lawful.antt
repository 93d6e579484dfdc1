-- A walk that is judged good is a lawful walk in its own order, and every lawful walk is judged good.
use Prim.Native.Nat.{ℕ, zero, suc, ◌+◌, ◌<◌}
use Rattle.std.specs.Prelude.{Ok}
use mathlib.Core.Path.{◌≡◌, refl, sym, ap, ◌∙◌}
use mathlib.Core.List.{List, [], ◌∷◌, reverse, reverse_aux}
use mathlib.Core.Bool.{true, false, ◌&&◌, and-eq-true_iff}
use native.Mathlib.Omega.{arith}
use native.Mathlib.Numerals.{add-one}
use lib.ListN.{length, get_or}
use lib.Dec.{ltb}
use borrow.Author.Tests.{lt-ltb, ltb-true, eq-eqb, eqb-true}
use Rattle.model.specs.declared.Problem.{Problem}
use Rattle.model.specs.Numbers.{problem_of}
use Rattle.model.specs.Graph.{loops_of}
use Rattle.model.specs.Operations.{Checked}
use Rattle.model.specs.Walks.{EdgeOf, last_vertex, Walk, Within, Lawful, LawfulWalk}
use Rattle.model.specs.Walks.Walk.{start, step}
use Rattle.model.specs.Verdicts.{may_follow, past_bound, at_last, judge_walk}
use Rattle.model.proofs.Answers.{refused_not_accepted}
use Rattle.model.proofs.Cases.{by_bool, true_not_false}
use Rattle.greatest.proofs.Checked.{checked_ranges}
use Rattle.steps.proofs.Edges.{follows_edge, edge_follows, stays_within, within_stays}
use Rattle.walk.proofs.Entries.{entry_good}

-- A history that is a walk within its bounds; the empty one is the start.
abbrev Sound : Problem → List ℕ → Type 0
Sound p [] = Unit {0}
Sound p (v ∷ h) = Walk (EdgeOf p) v h × Within (loops_of p) (v ∷ h)

module _ (p : Problem) where
  -- What an accepted entry passed.
  module _ (h : List ℕ) (k v : ℕ) (rest : List ℕ) (ok : judge_walk p h k (v ∷ rest) ≡ Ok tt) where
    passed : (ltb v p.vertex_count && may_follow p h v) ≡ true
    unfolding judge_walk
    passed = by_bool (ltb v p.vertex_count && may_follow p h v) (λ e. e) (λ e. refused_not_accepted (rw e at ok))

    both : (ltb v p.vertex_count ≡ true) × (may_follow p h v ≡ true)
    both = (and-eq-true_iff (ltb v p.vertex_count) _).0 passed

    bounded : past_bound p h v ≡ false
    unfolding judge_walk
    bounded = by_bool (past_bound p h v) (λ e. refused_not_accepted (rw (passed, e) at ok)) (λ e. e)

    onward : judge_walk p (v ∷ h) (k + 1) rest ≡ Ok tt
    onward = entry_good p h k v rest passed bounded ∙ ok

  pub entries_known : (walk : List ℕ) (h : List ℕ) (k : ℕ) → judge_walk p h k walk ≡ Ok tt → (i : ℕ) → i < length walk → get_or walk i 0 < p.vertex_count
  entries_known [] h k ok i less = absurd (omega arith)
  entries_known (v ∷ rest) h k ok zero less = ltb-true v _ (both h k v rest ok).0
  entries_known (v ∷ rest) h k ok (suc i) less = entries_known rest (v ∷ h) (k + 1) (onward h k v rest ok) i (omega arith)

  arrives : (h : List ℕ) (v : ℕ) → may_follow p h v ≡ true → Sound p h → Walk (EdgeOf p) v h
  unfolding may_follow
  arrives [] v may sound = let e : v ≡ 0 = eqb-true v 0 may in rw e start
  arrives (u ∷ h) v may sound = step sound.0 (follows_edge p u v h may)

  within_of : (h : List ℕ) → Sound p h → Within (loops_of p) h
  unfolding Within
  within_of [] sound = tt
  within_of (v ∷ h) sound = sound.1

  sound_more : (h : List ℕ) (v : ℕ) → may_follow p h v ≡ true → past_bound p h v ≡ false → Sound p h → Sound p (v ∷ h)
  unfolding Within
  sound_more h v may bounded sound = (arrives h v may sound, (within_stays p h v bounded, within_of h sound))

  lawful_end : (h : List ℕ) → Sound p h → at_last p h ≡ true → (h' : List ℕ) × (h ≡ last_vertex p ∷ h') × Lawful p h'
  unfolding at_last
  lawful_end [] sound e = true_not_false (sym e)
  lawful_end (v ∷ h) sound e =
      let is : v ≡ last_vertex p = eqb-true v (last_vertex p) e in
      (h, ap (λ (x : ℕ). x ∷ h) is, record { walk = rw is at sound.0; within = rw is at sound.1 })

  judged : (walk : List ℕ) (h : List ℕ) (k : ℕ) → judge_walk p h k walk ≡ Ok tt → Sound p h →
      (h' : List ℕ) × (reverse_aux walk h ≡ last_vertex p ∷ h') × Lawful p h'
  unfolding judge_walk
  judged [] h k ok sound = by_bool (at_last p h) (λ e. lawful_end h sound e) (λ e. refused_not_accepted (rw e at ok))
  judged (v ∷ rest) h k ok sound =
      judged rest (v ∷ h) (k + 1) (onward h k v rest ok) (sound_more h v (both h k v rest ok).1 (bounded h k v rest ok) sound)

  -- A walk that is judged good is lawful.
  pub judged_lawful : (walk : List ℕ) → judge_walk p [] 0 walk ≡ Ok tt → LawfulWalk p walk
  judged_lawful walk ok = judged walk [] 0 ok tt

  within_bounds : (h : List ℕ) (v : ℕ) → Within (loops_of p) (v ∷ h) → past_bound p h v ≡ false
  unfolding Within
  within_bounds h v within = stays_within p h v within.0

  within_before : (h : List ℕ) (v : ℕ) → Within (loops_of p) (v ∷ h) → Within (loops_of p) h
  unfolding Within
  within_before h v within = within.1

module _ (l : List ℕ) (checked : Checked l) where
  -- A vertex that may follow passes the test of an entry.
  passes : (h : List ℕ) (v : ℕ) → v < (problem_of l).vertex_count → may_follow (problem_of l) h v ≡ true →
      (ltb v (problem_of l).vertex_count && may_follow (problem_of l) h v) ≡ true
  passes h v known may = rw (lt-ltb v (problem_of l).vertex_count known, may)

  -- A walk within its bounds is judged good as far as it goes.
  good_so_far : {v : ℕ} {h : List ℕ} → Walk (EdgeOf (problem_of l)) v h → Within (loops_of (problem_of l)) (v ∷ h) → (rest : List ℕ) →
      judge_walk (problem_of l) [] 0 (reverse_aux (v ∷ h) rest) ≡ judge_walk (problem_of l) (v ∷ h) (suc (length h)) rest
  unfolding may_follow
  good_so_far start within rest =
      sym (entry_good (problem_of l) [] 0 0 rest (passes [] 0 (checked_ranges l checked).some_vertex refl) (within_bounds (problem_of l) [] 0 within))
  good_so_far (step {u} {v} {h} w e) within rest =
      good_so_far w (within_before (problem_of l) (u ∷ h) v within) (v ∷ rest)
      ∙ sym (entry_good (problem_of l) (u ∷ h) (suc (length h)) v rest (passes (u ∷ h) v ((checked_ranges l checked).to _ e) (edge_follows (problem_of l) u v h e)) (within_bounds (problem_of l) (u ∷ h) v within))
      ∙ ap (λ (k : ℕ). judge_walk (problem_of l) (v ∷ u ∷ h) k rest) (add-one (suc (length h)))

  -- Every lawful walk is judged good.
  pub lawful_judged : (h : List ℕ) → Lawful (problem_of l) h → judge_walk (problem_of l) [] 0 (reverse (last_vertex (problem_of l) ∷ h)) ≡ Ok tt
  unfolding judge_walk at_last
  lawful_judged h lawful =
      good_so_far lawful.walk lawful.within []
      ∙ (rw (eq-eqb (last_vertex (problem_of l)) (last_vertex (problem_of l)) refl))
