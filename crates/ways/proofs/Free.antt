-- Numbers of steps where no vertex is of g: phase 1 is left for good at f, so they tell which vertices lead to v past no vertex of f. Those functions are the
-- interference set of v and f, and v can be reached without f if vertex 0 is one.
use Prim.Native.Nat.{ℕ, zero, suc, ◌<◌}
use mathlib.Core.Path.{◌≡◌, refl, sym, ap, subst}
use mathlib.Core.List.{List}
use mathlib.Core.Logic.{◌↔◌}
use native.Mathlib.Omega.{arith}
use Rattle.model.specs.declared.Problem.{Problem}
use Rattle.model.specs.Costs.{function_of}
use Rattle.model.specs.Places.{most_vertices}
use Rattle.model.specs.Walks.{EdgeOf, Walk}
use Rattle.model.specs.Interference.{Interferes, Fresh}
use Rattle.model.proofs.Cases.{by_same}
use Rattle.sound.proofs.Flow.{complete, first, further, fresh_complete, fresh_start, fresh_further}
use Rattle.ways.specs.Ways.{no_way, steps, turn, Distances}
use Rattle.ways.proofs.Turns.{at_f, elsewhere}
use Rattle.ways.proofs.Exact.{EdgesSmall, back, way_before}

module _ (p : Problem) (g v : ℕ) (d : List ℕ) (small : EdgesSmall p) (none : (u w : ℕ) → EdgeOf p u w → function_of p u ≡ g → ⊥)
    (D : Distances p (function_of p v) g v d) where
  abbrev f : ℕ
  f = function_of p v

  -- From u a way leads to v past no vertex of f.
  abbrev pub Free : ℕ → Type 0
  Free u = steps d u 1 < no_way

  keeps : (s u w : ℕ) → EdgeOf p u w → (function_of p u ≡ f → ⊥) → turn p f g s u ≡ s
  keeps s u w edge other = sym (elsewhere f g (function_of p u) s other (none u w edge))

  ends : (s u : ℕ) → function_of p u ≡ f → turn p f g s u ≡ 0
  ends s u is = sym (at_f f g (function_of p u) s is)

  stays_ended : (u w : ℕ) → EdgeOf p u w → turn p f g 0 u ≡ 0
  stays_ended u w edge = by_same (function_of p u) f (ends 0 u) (keeps 0 u w edge)

  -- No way leads on from phase 0.
  ended : (k u : ℕ) → u < most_vertices → steps d u 0 ≡ k → k < no_way → ⊥
  ended zero u there is less = omega (arith, (D.nearing.goal u 0 there (omega arith) is).1)
  ended (suc k) u there is less =
      let (w, edge, near) = back p f g v d small D u 0 k there (omega arith) is less in
      ended k w (small u w edge).1 (subst (λ (s : ℕ). steps d w s ≡ k) (stays_ended u w edge) near) (omega arith)

  -- The next vertex of a way past no vertex of f.
  onward : (u k : ℕ) → u < most_vertices → steps d u 1 ≡ suc k → suc k < no_way → (w : ℕ) × EdgeOf p u w × (function_of p u ≡ f → ⊥) × (steps d w 1 ≡ k)
  onward u k there is less =
      let (w, edge, near) = back p f g v d small D u 1 k there (omega arith) is less in
      let other : function_of p u ≡ f → ⊥ = λ e. ended k w (small u w edge).1 (subst (λ (s : ℕ). steps d w s ≡ k) (ends 1 u e) near) (omega arith) in
      (w, edge, other, subst (λ (s : ℕ). steps d w s ≡ k) (keeps 1 u w edge other) near)

  -- What goes on over every edge from a vertex that is not of f comes to v along such a way.
  module _ (P : ℕ → Type 0) (goes : (u w : ℕ) → EdgeOf p u w → (function_of p u ≡ f → ⊥) → P u → P w) where
    carried_by : (k u : ℕ) → u < most_vertices → steps d u 1 ≡ k → k < no_way → P u → P v
    carried_by zero u there is less has = subst P (D.nearing.goal u 1 there (omega arith) is).0 has
    carried_by (suc k) u there is less has =
        let (w, edge, other, near) = onward u k there is less in
        carried_by k w (small u w edge).1 near (omega arith) (goes u w edge other has)

    carried : (u : ℕ) → u < most_vertices → Free u → P u → P v
    carried u there free = carried_by (steps d u 1) u there refl free

  free_before : (u w : ℕ) → EdgeOf p u w → (function_of p u ≡ f → ⊥) → Free w → Free u
  free_before u w edge other free =
      way_before p f g v d small D u 1 w (omega arith) edge (subst (λ (s : ℕ). steps d w s < no_way) (sym (keeps 1 u w edge other)) free)

  free_goal : Free v
  free_goal = omega (arith, D.nearing.reached)

  -- A function that a free vertex has, other than f, is in the set of v and f.
  pub free_interferes : (u : ℕ) → u < most_vertices → (h : List ℕ) → Walk (EdgeOf p) u h → Free u → (function_of p u ≡ f → ⊥) →
      Interferes (function_of p) (EdgeOf p) v f (function_of p u)
  free_interferes u there h walk free other = at (steps d u 1) refl
    where
      at : (k : ℕ) → steps d u 1 ≡ k → Interferes (function_of p) (EdgeOf p) v f (function_of p u)
      at zero is = absurd (other (ap (function_of p) (D.nearing.goal u 1 there (omega arith) is).0))
      at (suc k) is =
          let (w, edge, also, near) = onward u k there is (omega arith) in
          carried (λ x. Interferes (function_of p) (EdgeOf p) x f (function_of p u))
          (λ x y e o i. further (function_of p) (EdgeOf p) x y f (function_of p u) i e o) w (small u w edge).1 (omega arith)
          (first (function_of p) (EdgeOf p) u w f h walk edge other)

  -- And every function of the set is that of a free vertex.
  abbrev FreeOf : ℕ → Type 0
  FreeOf k = (u : ℕ) × ((w : ℕ) × EdgeOf p u w) × (function_of p u ≡ k) × Free u

  pub interferes_free : (k : ℕ) → Interferes (function_of p) (EdgeOf p) v f k → FreeOf k
  interferes_free k (other, (h, walk, member)) =
      complete (function_of p) (EdgeOf p) (λ w x. Free w → FreeOf x) f
      (λ u w edge ne. (
        λ free. (u, (w, edge), refl, free_before u w edge ne free),
        λ x found free. found (free_before u w edge ne free),
      ))
      k walk member free_goal

  -- v can be reached without f exactly if vertex 0 is free.
  pub fresh_free : 0 < most_vertices → Free 0 ↔ Fresh (function_of p) (EdgeOf p) f v
  fresh_free there = (
    λ free.
        carried (Fresh (function_of p) (EdgeOf p) f) (λ u w edge other fresh. fresh_further (function_of p) (EdgeOf p) u w f fresh edge other) 0 there free
        (fresh_start (function_of p) (EdgeOf p) f),
    λ (h, walk, apart).
        fresh_complete (function_of p) (EdgeOf p) (λ u. Free u → Free 0) f (λ free. free)
        (λ u w edge other on free. on (free_before u w edge other free)) walk apart free_goal,
  )
