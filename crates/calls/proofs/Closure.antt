-- Which functions a function can reach by calls, as a relation, and that letting through ever more functions between (`via`) finds them.
use Prim.Native.Nat.{ℕ, zero, suc, ◌<◌}
use mathlib.Core.Path.{◌≡◌, refl, sym, ap, subst}
use mathlib.Core.List.{List}
use mathlib.Core.Bool.{Bool, true, ◌&&◌}
use Rattle.std.specs.Prelude.{Option, Some, None}
use mathlib.Core.Logic.{◌⊎◌, inl, inr, ◌↔◌}
use native.Mathlib.Omega.{arith}
use borrow.Author.Tests.{eqb-true, eq-eqb}
use Rattle.model.specs.Drawings.{drawn_functions, drawn_count, called_by}
use Rattle.model.specs.Inlined as inlined
use Rattle.model.specs.Inlined.{via, calls_the, reaches_itself}
use Rattle.model.proofs.Cases.{by_bool, by_order, and_left, and_right, true_not_false}
use Rattle.model.proofs.Search.{some_below, exists_at}
use Rattle.drawings.specs.Facts.{DrawingFacts}

-- f can reach g by calls, one or more.
pub data Reaches (calls : ℕ → ℕ → Bool) : ℕ → ℕ → Type 0 where
  once : {f g : ℕ} → calls f g ≡ true → Reaches calls f g
  more : {f g h : ℕ} → calls f g ≡ true → Reaches calls g h → Reaches calls f h

module _ (calls : ℕ → ℕ → Bool) where
  -- A chain of calls from f to g, with no function between but those below k.
  abbrev Chain : ℕ → ℕ → ℕ → Type 0
  Chain k f g = via calls k f g ≡ true

  -- It goes by way of k or does not.
  abbrev ByWayOf : ℕ → ℕ → ℕ → Type 0
  ByWayOf k f g = Chain k f g ⊎ (Chain k f k × Chain k k g)

  taken : (k f g : ℕ) → Chain (suc k) f g → ByWayOf k f g
  unfolding via
  taken k f g e =
      by_bool (via calls k f g) inl
      (λ q. let both : via calls k f k && via calls k k g ≡ true = rw q at e in inr (and_left (via calls k f k) _ both, and_right (via calls k f k) _ both))

  made : (k f g : ℕ) → ByWayOf k f g → Chain (suc k) f g
  unfolding via
  made k f g (inl a) = rw a
  made k f g (inr b) = by_bool (via calls k f g) (λ e. rw e) (λ e. rw (e, b.0, b.1))

  -- Two chains are one, where they meet below k.
  joined : (k f m g : ℕ) → m < k → Chain k f m → Chain k m g → Chain k f g
  joined zero f m g h a b = let z : ⊥ = omega arith in elim z [ ]
  joined (suc k) f m g h a b = by_order m k (λ low. four (λ x y. joined k x m y low) (taken k f m a) (taken k m g b)) (λ high. at_k (omega arith))
    where
      into : (x : ℕ) → ByWayOf k x k → Chain k x k
      into x (inl p) = p
      into x (inr p) = p.0

      from : (x : ℕ) → ByWayOf k k x → Chain k k x
      from x (inl p) = p
      from x (inr p) = p.1

      at_k : m ≡ k → Chain (suc k) f g
      at_k e =
          made k f g
          (inr (into f (subst (λ (z : ℕ). ByWayOf k f z) e (taken k f m a)), from g (subst (λ (z : ℕ). ByWayOf k z g) e (taken k m g b))))

      four : ((x y : ℕ) → Chain k x m → Chain k m y → Chain k x y) → ByWayOf k f m → ByWayOf k m g → Chain (suc k) f g
      four r (inl p) (inl q) = made k f g (inl (r f g p q))
      four r (inl p) (inr q) = made k f g (inr (r f k p q.0, q.1))
      four r (inr p) (inl q) = made k f g (inr (p.0, r k g p.1 q))
      four r (inr p) (inr q) = made k f g (inr (p.0, q.1))

  kept : (k f g : ℕ) → calls f g ≡ true → Chain k f g
  unfolding via
  kept zero f g e = e
  kept (suc k) f g e = made k f g (inl (kept k f g e))

  -- Where calls stay below n, reaching is a chain by way of functions below n.
  pub reaches_via : (n : ℕ) → ((f g : ℕ) → f < n → calls f g ≡ true → g < n) → {f g : ℕ} → f < n → Reaches calls f g → via calls n f g ≡ true
  reaches_via n known h (once {f} {g} e) = kept n f g e
  reaches_via n known h (more {f} {g} {h = last} e r) = let low = known f g h e in joined n f g last low (kept n f g e) (reaches_via n known low r)

  chained : {f g h : ℕ} → Reaches calls f g → Reaches calls g h → Reaches calls f h
  chained (once e) r = more e r
  chained (more e q) r = more e (chained q r)

  pub via_reaches : (k f g : ℕ) → via calls k f g ≡ true → Reaches calls f g
  unfolding via
  via_reaches zero f g e = once e
  via_reaches (suc k) f g e = go (taken k f g e) (via_reaches k)
    where
      go : ByWayOf k f g → ((x y : ℕ) → via calls k x y ≡ true → Reaches calls x y) → Reaches calls f g
      go (inl a) r = r f g a
      go (inr b) r = chained (r f k b.0) (r k g b.1)

the_callee : (o : Option ℕ) (g : ℕ) → calls_the o g ≡ true → o ≡ Some g
the_callee None g e = true_not_false (sym e)
the_callee (Some h) g e = ap Some (eqb-true h g e)

module _ (d : List ℕ) where
  -- A call is made at a vertex.
  pub call_made : (f g : ℕ) → inlined.calls d f g ≡ true → (v : ℕ) × (v < drawn_count d f) × (called_by d f v ≡ Some g)
  unfolding inlined.calls
  call_made f g e =
      let (v, low, made) = some_below (drawn_count d f) (λ v. calls_the (called_by d f v) g) e in
      (v, low, the_callee (called_by d f v) g made)

  pub call_found : (f v g : ℕ) → v < drawn_count d f → called_by d f v ≡ Some g → inlined.calls d f g ≡ true
  unfolding inlined.calls
  call_found f v g low e = exists_at (drawn_count d f) (λ w. calls_the (called_by d f w) g) v low (rw e (eq-eqb g g refl))

  module _ (facts : DrawingFacts d) where
    pub callee_known : (f g : ℕ) → f < drawn_functions d → inlined.calls d f g ≡ true → g < drawn_functions d
    callee_known f g h e = let (v, low, made) = call_made f g e in (facts.drawn f h).known v g low made

    pub reached : (f g : ℕ) → f < drawn_functions d → Reaches (inlined.calls d) f g → via (inlined.calls d) (drawn_functions d) f g ≡ true
    reached f g h = reaches_via (inlined.calls d) (drawn_functions d) callee_known h

    -- 18's test: a function can reach itself.
    pub reached_itself : (f : ℕ) → f < drawn_functions d → (reaches_itself d f ≡ true) ↔ Reaches (inlined.calls d) f f
    reached_itself f h = (via_reaches (inlined.calls d) (drawn_functions d) f f, reached f f h)
