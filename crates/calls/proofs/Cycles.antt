-- A run with a call stack takes as many cycles as its walk of the one problem, for every layout.
use Prim.Native.Nat.{ℕ, ◌+◌, ◌<◌}
use mathlib.Core.Path.{◌≡◌, refl, sym, ap, ap₂, ◌∙◌}
use mathlib.Core.List.{List, ◌∷◌, map}
use mathlib.Core.Bool.{Bool, cond}
use lib.Dec.{eqb}
use Rattle.model.specs.declared.Problem.{Problem}
use Rattle.model.specs.Costs.{function_of, own_cost, load_cost, check_cost}
use Rattle.model.specs.Layouts.{region_of}
use Rattle.model.specs.Runs.{held, hit, check_at, cycles}
use Rattle.model.specs.Drawings.{drawn_functions}
use Rattle.model.specs.CallStack.{Stack, stack, Run, begin, then, running, own_of, load_of, check_of, stack_cycles}
use Rattle.calls.proofs.States.{State, Valid, Drawn}
use Rattle.calls.proofs.Number.{fits_known}
use Rattle.calls.proofs.Runs.{below}
use Rattle.calls.proofs.Frames.{callers, spot_of}
use Rattle.calls.proofs.Costs.{shown, label}
use Rattle.calls.proofs.Stacks.{number_of, stack_valid, stack_at}

-- A problem whose vertices show what the states show, and whose functions have the drawn load costs and check costs.
pub record Labelled (d : List ℕ) (size : ℕ → ℕ) (p : Problem) : Type 0 where
  pub function : (i : ℕ) → i < size 0 → function_of p i ≡ (label d i).function
  pub own : (i : ℕ) → i < size 0 → own_cost p i ≡ (label d i).own
  pub load : (f : ℕ) → f < drawn_functions d → load_cost p f ≡ load_of d f
  pub check : (f : ℕ) → f < drawn_functions d → check_cost p f ≡ check_of d f

module _ (d : List ℕ) where
  running_shown : (s : Stack) → (shown d (spot_of s)).function ≡ running s
  running_shown (stack a s) = refl

  own_shown : (s : Stack) → (shown d (spot_of s)).own ≡ own_of d s
  own_shown (stack a s) = refl

module _ (d : List ℕ) (size : ℕ → ℕ) (D : Drawn d size) (p : Problem) (M : Labelled d size p) where
  pub same_function : {s : Stack} {h : List Stack} → Run d s h → function_of p (number_of d size s) ≡ running s
  same_function {s} r =
      M.function (number_of d size s) (below d size D (spot_of s) (stack_valid d size D r))
      ∙ ap (λ (x : State). (shown d x).function) (stack_at d size D r)
      ∙ running_shown d s

  pub same_own : {s : Stack} {h : List Stack} → Run d s h → own_cost p (number_of d size s) ≡ own_of d s
  same_own {s} r =
      M.own (number_of d size s) (below d size D (spot_of s) (stack_valid d size D r))
      ∙ ap (λ (x : State). (shown d x).own) (stack_at d size D r)
      ∙ own_shown d s

  running_known : (s : Stack) → Valid d (spot_of s) → running s < drawn_functions d
  running_known (stack a s) v = fits_known d size D a.function (callers s) v.1

  -- A function's costs are the drawn ones.
  same_cost :
      (cost drawn : ℕ → ℕ) → ((f : ℕ) → f < drawn_functions d → cost f ≡ drawn f) →
      {s : Stack} {h : List Stack} → Run d s h → cost (function_of p (number_of d size s)) ≡ drawn (running s)
  same_cost cost drawn same {s} r = ap cost (same_function r) ∙ same (running s) (running_known s (stack_valid d size D r))

  same_load : {s : Stack} {h : List Stack} → Run d s h → load_cost p (function_of p (number_of d size s)) ≡ load_of d (running s)
  same_load r = same_cost (load_cost p) (load_of d) M.load r

  -- A visit comes from another function in both, or in neither.
  same_check :
      {s : Stack} {h : List Stack} → Run d s h →
      check_at (function_of p) (check_cost p) (number_of d size s) (map (number_of d size) h) ≡ check_at (λ f. f) (check_of d) (running s) (map (running) h)
  unfolding check_at
  same_check begin = same_cost (check_cost p) (check_of d) M.check begin
  same_check (then r x) =
      ap₂ (λ (t : Bool) (n : ℕ). cond t 0 n) (ap₂ eqb (same_function r) (same_function (then r x))) (same_cost (check_cost p) (check_of d) M.check (then r x))

  -- The regions hold the same functions all along.
  same_held :
      (region : ℕ → ℕ) (r : ℕ) {s : Stack} {h : List Stack} → Run d s h →
      held (function_of p) region r (map (number_of d size) h) ≡ held (λ f. f) region r (map (running) h)
  unfolding held
  same_held region r begin = refl
  same_held region r (then t x) = rw (same_function t, same_held region r t)

  same_hit :
      (region : ℕ → ℕ) {s : Stack} {h : List Stack} → Run d s h →
      hit (function_of p) region (number_of d size s) (map (number_of d size) h) ≡ hit (λ f. f) region (running s) (map (running) h)
  same_hit region {s} r = rw (same_function r, same_held region (region (running s)) r)

  same_visit :
      (layout : List ℕ) {s : Stack} {h : List Stack} → Run d s h →
      own_cost p (number_of d size s)
      + check_at (function_of p) (check_cost p) (number_of d size s) (map (number_of d size) h)
      + cond (hit (function_of p) (region_of layout) (number_of d size s) (map (number_of d size) h)) 0 (load_cost p (function_of p (number_of d size s)))
      ≡ own_of d s + check_at (λ f. f) (check_of d) (running s) (map (running) h) + cond (hit (λ f. f) (region_of layout) (running s) (map (running) h)) 0 (load_of d (running s))
  same_visit layout {s} r = ap₂ ◌+◌ (ap₂ ◌+◌ (same_own r) (same_check r)) (ap₂ (λ (t : Bool) (n : ℕ). cond t 0 n) (same_hit (region_of layout) r) (same_load r))

  pub same_cycles :
      (layout : List ℕ) {s : Stack} {h : List Stack} → Run d s h → stack_cycles d layout (s ∷ h) ≡ cycles p layout (map (number_of d size) (s ∷ h))
  unfolding stack_cycles cycles
  same_cycles layout begin = ap (λ (n : ℕ). 0 + n) (sym (same_visit layout begin))
  same_cycles layout (then r x) = ap₂ ◌+◌ (same_cycles layout r) (sym (same_visit layout (then r x)))
