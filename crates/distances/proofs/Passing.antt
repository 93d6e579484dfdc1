-- States before the one whose turn it is get a number one after the other.
use Prim.Native.Nat.{ℕ, ◌+◌, ◌*◌, ◌<◌}
use mathlib.Core.Path.{◌≡◌}
use mathlib.Core.List.{List}
use mathlib.Core.Logic.{◌⊎◌, ⊎_elim}
use native.Mathlib.Omega.{arith}
use lib.Dec.{eqb}
use borrow.Author.Tests.{eq-eqb, eqb-true}
use Rattle.model.specs.declared.Problem.{Problem}
use Rattle.model.specs.Numbers.{problem_of}
use Rattle.model.specs.Places.{most_vertices}
use Rattle.model.specs.Walks.{EdgeOf}
use Rattle.ways.specs.Ways.{turn}
use Rattle.distances.specs.Searching.{Entered, kept, new, Before, Turning, Passing, Arriving}
use Rattle.distances.proofs.Queued.{its_number, no_higher}
use Rattle.distances.proofs.Searching.{had_low, ready, entered}

-- u, met in phase s, if its visit leads to phase t.
abbrev pub InPhase : Problem → ℕ → ℕ → ℕ → ℕ → ℕ → ℕ → ℕ → Type 0
InPhase p f g t u s x r = (x ≡ u) × (r ≡ s) × (turn p f g r x ≡ t)

module _ {p : Problem} {f g w t number : ℕ} where
  pub pass_none : {P : ℕ → ℕ → Type 0} {d queue : List ℕ} {end : ℕ} → ((u s : ℕ) → P u s → ⊥) → Passing p f g w t number P d queue end d queue end
  pass_none none = record { still = λ v first now. now; lower = λ j. omega arith; passed = λ u s is. absurd (none u s is) }

  pub pass_more : {P Q R : ℕ → ℕ → Type 0} {d queue mid between d' queue' : List ℕ} {end part end' : ℕ} →
      Passing p f g w t number P d queue end mid between part → Passing p f g w t number Q mid between part d' queue' end' →
      ((u s : ℕ) → R u s → P u s ⊎ Q u s) → Passing p f g w t number R d queue end d' queue' end'
  pass_more first second parts = record {
    still = λ v k now. second.still v k (first.still v k now);
    lower = λ j. omega (arith, first.lower j, second.lower j);
    passed = λ u s is. ⊎_elim (λ l. omega (arith, first.passed u s l, second.lower (2 * u + s))) (second.passed u s) (parts u s is);
  }

  -- What is said of more states is said of fewer.
  pub pass_less : {P R : ℕ → ℕ → Type 0} {d queue d' queue' : List ℕ} {end end' : ℕ} → Passing p f g w t number P d queue end d' queue' end' →
      ((u s : ℕ) → R u s → P u s) → Passing p f g w t number R d queue end d' queue' end'
  pass_less pass part = record { still = pass.still; lower = pass.lower; passed = λ u s is. pass.passed u s (part u s is) }

  -- One state.
  pub pass_one : {v first : ℕ} {d queue : List ℕ} {end : ℕ} {u s : ℕ} {d' queue' : List ℕ} {end' : ℕ} → Turning p f g w t number v first d queue end →
      u < most_vertices → EdgeOf p u w → s < 2 → Entered (eqb (turn p f g s u) t) (2 * u + s) number d queue end d' queue' end' →
      Passing p f g w t number (InPhase p f g t u s) d queue end d' queue' end'
  pass_one {u = u} {s = s} now there edge low (kept has) = record {
    still = λ v first now. now;
    lower = λ j. omega arith;
    passed = λ x r (e, q, turns).
        rw (e, q) (had_low now (2 * u + s) (omega arith) (has (eq-eqb (turn p f g s u) t (rw (e, q) at turns))));
  }
  pass_one {u = u} {s = s} now there edge low (new leads none) =
      let before : Before p f g w t u s = record { edge = edge; low = low; turns = eqb-true (turn p f g s u) t leads } in
      record {
        still = λ v first now. entered now there before none;
        lower = no_higher (ready now there before none);
        passed = λ x r (e, q, turns). rw (e, q) (omega (arith, its_number (ready now there before none)));
      }

-- It stays the turn of w.
pub arrives_still : {l : List ℕ} {f g w t number : ℕ} {P : ℕ → ℕ → Type 0} {d queue : List ℕ} {end : ℕ} {d' queue' : List ℕ} {end' : ℕ} →
    Arriving l f g w t number d queue end → Passing (problem_of l) f g w t number P d queue end d' queue' end' →
    Arriving l f g w t number d' queue' end'
arrives_still now pass =
    record { checked = now.checked; goal = now.goal; first = now.first; turning = pass.still now.goal now.first now.turning }
