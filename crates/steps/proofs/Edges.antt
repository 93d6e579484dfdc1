-- What may follow a history is what an edge leads to, and a header is past its bound where a stay says so.
use Prim.Native.Nat.{ℕ, ◌≤◌, ◌<◌}
use mathlib.Core.Path.{◌≡◌, sym, ap, ◌∙◌}
use mathlib.Core.List.{List, ◌∷◌, Memᴰ}
use mathlib.Core.Bool.{Bool, true, false, ◌&&◌, and-eq-true_iff}
use native.Mathlib.Omega.{arith}
use lib.ListN.{length}
use lib.Dec.{ltb, eqb}
use borrow.Author.Tests.{lt-ltb, ltb-true, ltb-false, eq-eqb, eqb-true}
use Rattle.model.specs.declared.Edge.{Edge}
use Rattle.model.specs.declared.Loop.{Loop}
use Rattle.model.specs.declared.Problem.{Problem}
use Rattle.model.specs.Search.{exists_below}
use Rattle.model.specs.Zero.{zero_edge, zero_loop}
use Rattle.model.specs.Graph.{edge, loop, edges_of, loops_of}
use Rattle.model.specs.Walks.{EdgeOf, visits}
use Rattle.model.specs.Verdicts.{may_follow, past_bound}
use Rattle.model.proofs.Cases.{by_bool}
use Rattle.model.proofs.Lists.{mem-get_or, index_of}
use Rattle.model.proofs.Search.{some_below, none_below, exists_at}

module _ (p : Problem) where
  -- Whether edge i leads from u to v.
  abbrev leads : ℕ → ℕ → ℕ → Bool
  leads u v i = eqb (edge (edges_of p) i).from u && eqb (edge (edges_of p) i).to v

  pub led : (u v i : ℕ) → i < length (edges_of p) → (edge (edges_of p) i).from ≡ u → (edge (edges_of p) i).to ≡ v → EdgeOf p u v
  led u v i less f o = rw (← f, ← o) (mem-get_or (edges_of p) i zero_edge less)

  pub follows_edge : (u v : ℕ) (h : List ℕ) → may_follow p (u ∷ h) v ≡ true → EdgeOf p u v
  unfolding may_follow
  follows_edge u v h may =
      let (i, less, e) = some_below (length (edges_of p)) (leads u v) may in
      let (f, o) = (and-eq-true_iff (eqb (edge (edges_of p) i).from u) _).0 e in
      led u v i less (eqb-true _ u f) (eqb-true _ v o)

  pub edge_follows : (u v : ℕ) (h : List ℕ) → EdgeOf p u v → may_follow p (u ∷ h) v ≡ true
  unfolding may_follow
  edge_follows u v h m =
      let (i, less, e) = index_of zero_edge m in
      exists_at (length (edges_of p)) (leads u v) i less
      ((and-eq-true_iff (eqb (edge (edges_of p) i).from u) _).1 (eq-eqb _ u (ap (λ (x : Edge). x.from) e), eq-eqb _ v (ap (λ (x : Edge). x.to) e)))

  module _ (h : List ℕ) (v : ℕ) where
    -- Whether v is the header of a loop, and past its bound.
    abbrev beyond : Loop → Bool
    beyond o = eqb o.header v && ltb o.bound (visits o (v ∷ h))

    pub goes_past : (o : Loop) → Memᴰ o (loops_of p) → o.header ≡ v → o.bound < visits o (v ∷ h) → past_bound p h v ≡ true
    unfolding past_bound
    goes_past o m q over =
        let (i, less, e) = index_of zero_loop m in
        exists_at (length (loops_of p)) (λ j. beyond (loop (loops_of p) j)) i less
        (ap beyond e ∙ (and-eq-true_iff (eqb o.header v) _).1 (eq-eqb _ v q, lt-ltb _ _ over))

    pub stays_within : ((o : Loop) → Memᴰ o (loops_of p) → o.header ≡ v → visits o (v ∷ h) ≤ o.bound) → past_bound p h v ≡ false
    unfolding past_bound
    stays_within all =
        by_bool (exists_below (length (loops_of p)) (λ j. beyond (loop (loops_of p) j)))
        (λ e.
        let (i, less, t) = some_below (length (loops_of p)) (λ j. beyond (loop (loops_of p) j)) e in
        let o : Loop = loop (loops_of p) i in
        let (q, over) = (and-eq-true_iff (eqb o.header v) _).0 t in
        absurd (omega (arith, ltb-true o.bound _ over, all o (mem-get_or (loops_of p) i zero_loop less) (eqb-true _ v q))))
        (λ e. e)

    pub within_stays : past_bound p h v ≡ false → (o : Loop) → Memᴰ o (loops_of p) → o.header ≡ v → visits o (v ∷ h) ≤ o.bound
    unfolding past_bound
    within_stays bounded o m q =
        let (i, less, e) = index_of zero_loop m in
        let test : beyond o ≡ false = ap beyond (sym e) ∙ none_below (length (loops_of p)) (λ j. beyond (loop (loops_of p) j)) bounded i less in
        ltb-false o.bound (visits o (v ∷ h)) (rw (eq-eqb o.header v q) at test)
