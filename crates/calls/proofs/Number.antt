-- The states of the call stack and the vertices of the one problem match one for one.
use Prim.Native.Nat.{ℕ, zero, suc, ◌+◌, ◌-◌, ◌≤◌, ◌<◌}
use mathlib.Core.Path.{◌≡◌, refl, sym, ap, ◌∙◌}
use mathlib.Core.List.{List}
use Rattle.std.specs.Prelude.{Option, Some, None}
use mathlib.Core.Logic.{◌⊎◌, inl, inr}
use native.Mathlib.Omega.{arith}
use borrow.Author.Tests.{le-leb, lt-leb}
use Rattle.model.specs.Drawings.{drawn_functions, drawn_count, called_by}
use Rattle.model.proofs.Cases.{by_order}
use Rattle.calls.proofs.States.{Callers, nobody, from, State, spot, Fits, Valid, next, pop, at, pos, base, number, Drawn}

-- A vertex that calls is not one that calls nothing.
pub calls_not : {P : Type 0} {o : Option ℕ} {g : ℕ} → o ≡ Some g → o ≡ None → P
calls_not {g = g} e q = let z : ◌≡◌ {A = ℕ} 0 1 = cc (e, q) in let w : ⊥ = omega arith in elim w [ ]

module _ (d : List ℕ) where
  pub next_call : (f v g : ℕ) (c : Callers) → called_by d f v ≡ Some g → next d (spot f v c) ≡ spot g 0 (from f v c)
  unfolding next
  next_call f v g c e = rw e

  pub next_on : (f v : ℕ) (c : Callers) → called_by d f v ≡ None → suc v < drawn_count d f → next d (spot f v c) ≡ spot f (suc v) c
  unfolding next
  next_on f v c e l = rw (e, lt-leb (drawn_count d f) (suc v) l)

  pub next_pop : (f v : ℕ) (c : Callers) → called_by d f v ≡ None → drawn_count d f ≤ suc v → next d (spot f v c) ≡ pop (spot f v c) c
  unfolding next
  next_pop f v c e l = rw (e, le-leb (drawn_count d f) (suc v) l)

  pub at_zero : at d 0 ≡ spot 0 0 nobody
  unfolding at
  at_zero = refl

  pub at_suc : (i : ℕ) → at d (suc i) ≡ next d (at d i)
  unfolding at
  at_suc i = refl

module _ (d : List ℕ) (size : ℕ → ℕ) where
  pub pos_none : (f v : ℕ) → called_by d f v ≡ None → pos d size f (suc v) ≡ suc (pos d size f v)
  unfolding pos
  pos_none f v e = rw e (omega arith)

  pub pos_some : (f v g : ℕ) → called_by d f v ≡ Some g → pos d size f (suc v) ≡ pos d size f v + 1 + size g
  unfolding pos
  pos_some f v g e = rw e

  pub is_number : (f v : ℕ) (c : Callers) → number d size (spot f v c) ≡ base d size c + pos d size f v
  unfolding number
  is_number f v c = refl

  pub number_first : number d size (spot 0 0 nobody) ≡ 0
  unfolding number base pos
  number_first = omega arith

module _ (d : List ℕ) (size : ℕ → ℕ) (D : Drawn d size) where
  pub fits_known : (f : ℕ) (c : Callers) → Fits d f c → f < drawn_functions d
  fits_known f nobody e = omega (arith, D.first)
  fits_known f (from g u c) e = D.known g u f (fits_known g c e.2) e.1 e.0

  -- A call vertex is not its graph's last vertex.
  pub not_last : (g u f : ℕ) → g < drawn_functions d → u < drawn_count d g → called_by d g u ≡ Some f → suc u < drawn_count d g
  not_last g u f k l e =
      by_order (suc u) (drawn_count d g) (λ p. p)
      (λ p. calls_not e (D.quiet g u k (omega arith)))

  -- A copy's last vertex ends it.
  pub size_last : (f v : ℕ) → f < drawn_functions d → suc v ≡ drawn_count d f → size f ≡ suc (pos d size f v)
  size_last f v k e = D.sized f k ∙ ap (pos d size f) (sym e) ∙ pos_none d size f v (D.quiet f v k e)

  -- The last vertex of a drawn graph.
  pub last_of : (f : ℕ) → f < drawn_functions d → (v : ℕ) × (suc v ≡ drawn_count d f)
  last_of f k = (drawn_count d f - 1, omega (arith, D.some_vertex f k))

  -- Every state but the first follows another.
  pub record Before (s : State) : Type 0 where
    pub prior : State
    pub valid : Valid d prior
    pub follows : next d prior ≡ s
    pub counted : number d size s ≡ suc (number d size prior)

  pub before : (s : State) → Valid d s → (s ≡ spot 0 0 nobody) ⊎ Before s
  unfolding number base pos
  before (spot f zero nobody) p = inl (ap (λ (x : ℕ). spot x 0 nobody) p.1)
  before (spot f zero (from g u c)) p =
      inr (record { prior = spot g u c; valid = (p.1.1, p.1.2); follows = next_call d g u f c p.1.0; counted = omega arith })
  before (spot f (suc v) c) p = inr (by_call (called_by d f v) refl)
    where
      by_call : (o : Option ℕ) → called_by d f v ≡ o → Before (spot f (suc v) c)
      by_call None e =
          record { prior = spot f v c; valid = (omega (arith, p.0), p.1); follows = next_on d f v c e p.0; counted = omega (arith, pos_none d size f v e) }
      by_call (Some g) e =
          let k = D.known f v g (fits_known f c p.1) (omega (arith, p.0)) e in
          let w = last_of g k in
          record {
            prior = spot g w.0 (from f v c);
            valid = (omega (arith, w.1), (e, omega (arith, p.0), p.1));
            follows = next_pop d g w.0 (from f v c) (D.quiet g w.0 k w.1) (omega (arith, w.1));
            counted = omega (arith, pos_some d size f v g e, size_last g w.0 k w.1);
          }

  -- The vertex with a state's number is that state.
  at_number_is : (n : ℕ) (s : State) → Valid d s → number d size s ≡ n → at d n ≡ s
  at_number_is zero s p e = by_before (before s p)
    where
      by_before : (s ≡ spot 0 0 nobody) ⊎ Before s → at d 0 ≡ s
      by_before (inl q) = at_zero d ∙ sym q
      by_before (inr b) = let z : ⊥ = omega (arith, b.counted) in elim z [ ]
  at_number_is (suc n) s p e = by_before (at_number_is n) (before s p)
    where
      by_before : ((t : State) → Valid d t → number d size t ≡ n → at d n ≡ t) → (s ≡ spot 0 0 nobody) ⊎ Before s → at d (suc n) ≡ s
      by_before lower (inl q) = let z : ⊥ = omega (arith, number_first d size, ap (number d size) q) in elim z [ ]
      by_before lower (inr b) = at_suc d n ∙ ap (next d) (lower b.prior b.valid (omega (arith, b.counted))) ∙ b.follows

  pub at_number : (s : State) → Valid d s → at d (number d size s) ≡ s
  at_number s p = at_number_is (number d size s) s p refl

  -- Two states with one number are one state.
  pub one_state : (s t : State) → Valid d s → Valid d t → number d size s ≡ number d size t → s ≡ t
  one_state s t p q e = sym (at_number s p) ∙ ap (at d) e ∙ at_number t q

  -- A vertex is a state with its number.
  pub record Spotted (i : ℕ) (s : State) : Type 0 where
    pub valid : Valid d s
    pub counted : number d size s ≡ i

  -- Behind the last vertex of a copy that is not the whole, the caller goes on.
  leaves :
      (i f v : ℕ) (c : Callers) → suc i < size 0 → suc v ≡ drawn_count d f → Fits d f c → base d size c + pos d size f v ≡ i →
      Spotted (suc i) (pop (spot f v c) c)
  unfolding number base
  leaves i f v nobody l q fits e = let z : ⊥ = omega (arith, size_last f v (fits_known f nobody fits) q, ap size fits) in elim z [ ]
  leaves i f v (from g u c) l q fits e =
      record {
        valid = (not_last g u f (fits_known g c fits.2) fits.1 fits.0, fits.2);
        counted = omega (arith, pos_some d size g u f fits.0, size_last f v (fits_known f (from g u c) fits) q);
      }

  pub next_spotted : (i : ℕ) (s : State) → Spotted i s → suc i < size 0 → Spotted (suc i) (next d s)
  unfolding number base pos
  next_spotted i (spot f v c) p l = by_call (called_by d f v) refl
    where
      by_call : (o : Option ℕ) → called_by d f v ≡ o → Spotted (suc i) (next d (spot f v c))
      by_call (Some g) e =
          rw (next_call d f v g c e)
          (record {
            valid = (D.some_vertex g (D.known f v g (fits_known f c p.valid.1) p.valid.0 e), (e, p.valid.0, p.valid.1));
            counted = omega (arith, p.counted);
          })
      by_call None e =
          by_order (suc v) (drawn_count d f)
          (λ t. rw (next_on d f v c e t) (record { valid = (t, p.valid.1); counted = omega (arith, p.counted, pos_none d size f v e) }))
          (λ t. rw (next_pop d f v c e t) (leaves i f v c l (omega (arith, p.valid.0)) p.valid.1 p.counted))

  pub spotted : (i : ℕ) → i < size 0 → Spotted i (at d i)
  spotted zero l = rw (at_zero d) (record { valid = (D.some_vertex 0 D.first, refl); counted = number_first d size })
  spotted (suc i) l = rw (at_suc d i) (next_spotted i (at d i) (spotted i (omega arith)) l)

  -- The call vertex is the one before its copy.
  pub caller_at : (g u : ℕ) (c : Callers) → Fits d g c → u < drawn_count d g → at d (base d size (from g u c) - 1) ≡ spot g u c
  unfolding base number
  caller_at g u c p l =
      let e : base d size c + pos d size g u + 1 - 1 ≡ base d size c + pos d size g u = omega arith in
      ap (at d) e ∙ at_number (spot g u c) (l, p)
