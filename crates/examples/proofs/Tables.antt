-- Where the search is settled, what it shows are the interference sets and the first reach, over all walks.
use Prim.Native.Nat.{ℕ, ◌<◌}
use mathlib.Core.Path.{◌≡◌, refl}
use mathlib.Core.List.{List, [], ◌∷◌}
use mathlib.Core.Bool.{Bool, true, false, cond, not, ◌&&◌}
use lib.Dec.{eqb, ltb}
use borrow.Author.Tests.{eqb-true, eq-eqb, ltb-true, ne_eqb, not-true}
use Rattle.model.specs.declared.Problem.{Problem}
use Rattle.model.specs.Graph.{edges_of}
use Rattle.model.specs.Costs.{function_of}
use Rattle.model.specs.Walks.{EdgeOf, Walk, start, step}
use Rattle.model.specs.Layouts.{region_of}
use Rattle.model.specs.Interference.{since, occurs, Interferes, Fresh, Contested}
use Rattle.model.proofs.Cases.{and_left, and_right}
use Rattle.model.proofs.Search.{some_below, exists_at}
use Rattle.sound.specs.Decide.{early_test}
use Rattle.sound.proofs.Flow.{since_ne, complete, fresh_complete}
use Rattle.sound.proofs.Tests.{and_both}
use Rattle.sound.proofs.Decide.{Tables}
use Rattle.examples.specs.Tests.{all, has, shown, member, fresh, hands_on, settled, own_member, own_fresh, rival, shared, early, early_of, cold}
use Rattle.examples.proofs.Passed.{each, all_at, has_is, every_below_lem}
use Rattle.examples.proofs.Search.{Free, Found, found}

module _ (p : Problem) where
  unstopped : (h : List ℕ) → Free (λ h v. false) h
  unstopped [] = tt
  unstopped (v ∷ h) = (refl, unstopped h)

  shows : (test : ℕ → List ℕ → Bool) → shown p test ≡ true → Found p (λ h v. false) test
  shows test e = found p (λ h v. false) test p.vertex_count 0 [] e start (unstopped (0 ∷ []))

  pub member_below : (f v g : ℕ) → member p f v g ≡ true → g < p.function_count
  unfolding member
  member_below f v g e = ltb-true g p.function_count (and_left (ltb g p.function_count) _ e)

  pub member_is : (f v g : ℕ) → member p f v g ≡ true → Interferes (function_of p) (EdgeOf p) v f g
  unfolding member
  member_is f v g e =
      let r = shows (λ w h. eqb w v && has (since (function_of p) f h) g) (and_right (ltb g p.function_count) _ e) in
      let is : r.at ≡ v = eqb-true r.at v (and_left (eqb r.at v) _ r.passes) in
      let m = has_is (since (function_of p) f r.before) g (and_right (eqb r.at v) _ r.passes) in
      (since_ne (function_of p) f g r.before m, (r.before, rw is at r.walk, m))

  fresh_is : (f v : ℕ) → fresh p f v ≡ true → Fresh (function_of p) (EdgeOf p) f v
  unfolding fresh
  fresh_is f v e =
      let r = shows (λ w h. eqb w v && not (occurs (function_of p) f h)) e in
      let is : r.at ≡ v = eqb-true r.at v (and_left (eqb r.at v) _ r.passes) in
      (r.before, rw is at r.walk, not-true _ (and_right (eqb r.at v) _ r.passes))

  module _ (ok : settled p ≡ true) where
    some_vertex : 0 < p.vertex_count
    unfolding settled
    some_vertex = ltb-true 0 p.vertex_count (each _ ok).0

    walk_below : {v : ℕ} {h : List ℕ} → Walk (EdgeOf p) v h → v < p.vertex_count
    unfolding settled
    walk_below start = some_vertex
    walk_below (step {u} {v} walk edge) =
        ltb-true v p.vertex_count (all_at (λ e. ltb e.to p.vertex_count) (edges_of p) (each _ ok).1.0 edge)

    pub function_below : (v : ℕ) → v < p.vertex_count → function_of p v < p.function_count
    unfolding settled
    function_below v l =
        ltb-true (function_of p v) p.function_count
        (every_below_lem p.vertex_count (λ v. ltb (function_of p v) p.function_count) (each _ ok).1.1.0 v l)

    module _ (f : ℕ) (known : f < p.function_count) where
      closed : (fresh p f 0 && all (hands_on p f) (edges_of p)) ≡ true
      unfolding settled
      closed = every_below_lem p.function_count (λ f. fresh p f 0 && all (hands_on p f) (edges_of p)) (each _ ok).1.1.1.0 f known

      handed : (u v : ℕ) → EdgeOf p u v → (function_of p u ≡ f → ⊥) →
          (member p f v (function_of p u) ≡ true) × ((g : ℕ) → member p f u g ≡ true → member p f v g ≡ true)
          × (fresh p f u ≡ true → fresh p f v ≡ true)
      unfolding hands_on
      handed u v edge ne =
          let e = all_at (hands_on p f) (edges_of p) (and_right (fresh p f 0) _ closed) edge in
          let (own, (others, (first, _))) = each _ (rw (ne_eqb (function_of p u) f ne) at e) in (
            own,
            (λ g t. rw t at (every_below_lem p.function_count (λ g. cond (member p f u g) (member p f v g) true) others g (member_below f u g t))),
            (λ t. rw t at first),
          )

      pub member_all : (v g : ℕ) → Interferes (function_of p) (EdgeOf p) v f g → member p f v g ≡ true
      member_all v g (ne, (h, walk, m)) =
          complete (function_of p) (EdgeOf p) (λ w x. member p f w x ≡ true) f
          (λ u w edge ne. let r = handed u w edge ne in (r.0, r.1)) g walk m

      fresh_all : (v : ℕ) → Fresh (function_of p) (EdgeOf p) f v → fresh p f v ≡ true
      fresh_all v (h, walk, o) =
          fresh_complete (function_of p) (EdgeOf p) (λ w. fresh p f w ≡ true) f (and_left (fresh p f 0) _ closed)
          (λ u w edge ne. (handed u w edge ne).2) walk o

    module _ (layout : List ℕ) where
      shared_is : (v : ℕ) → shared p layout v ≡ true → Contested (function_of p) (EdgeOf p) (region_of layout) v
      shared_is v e =
          let (g, l, x) = some_below p.function_count (rival p layout v) e in (
            g,
            member_is (function_of p v) v g (and_left (own_member p v g) _ x),
            eqb-true (region_of layout g) (region_of layout (function_of p v)) (and_right (own_member p v g) _ x),
          )

      shared_all : (v : ℕ) → v < p.vertex_count → Contested (function_of p) (EdgeOf p) (region_of layout) v → shared p layout v ≡ true
      shared_all v below (g, interferes, e) =
          let m = member_all (function_of p v) (function_below v below) v g interferes in
          exists_at p.function_count (rival p layout v) g (member_below (function_of p v) v g m)
          (and_both _ _ m (eq-eqb (region_of layout g) (region_of layout (function_of p v)) e))

      cold_is : (f : ℕ) → cold p layout f ≡ true → (v : ℕ) × (function_of p v ≡ f) × (early p layout v ≡ true)
      cold_is f e =
          let (v, l, x) = some_below p.vertex_count (early_of p layout f) e in (
            v,
            eqb-true (function_of p v) f (and_left (eqb (function_of p v) f) _ x),
            and_right (eqb (function_of p v) f) _ x,
          )

      early_below : (v : ℕ) → early p layout v ≡ true → v < p.vertex_count
      unfolding early_test
      early_below v e = ltb-true v p.vertex_count (and_left (ltb v p.vertex_count) _ e)

      cold_all : (f v : ℕ) → function_of p v ≡ f → early p layout v ≡ true → cold p layout f ≡ true
      cold_all f v of_f e = exists_at p.vertex_count (early_of p layout f) v (early_below v e) (and_both _ _ (eq-eqb (function_of p v) f of_f) e)

      pub tables : Tables p layout (shared p layout) (own_fresh p) (cold p layout)
      tables =
          record {
            vertex = λ v h walk. walk_below walk;
            contested = λ v l. (shared_is v, shared_all v l);
            reached = λ v l. (fresh_is (function_of p v) v, fresh_all (function_of p v) (function_below v l) v);
            coldest = λ f. (cold_is f, (λ (v, of_f, e). cold_all f v of_f e));
          }
