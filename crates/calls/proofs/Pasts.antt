-- The walks of the activations in progress, told from the states of a run alone.
use Prim.Native.Nat.{ℕ, zero, suc, ◌+◌, ◌-◌}
use mathlib.Core.Path.{◌≡◌, refl}
use mathlib.Core.Bool.{cond}
use mathlib.Core.List.{List, [], ◌∷◌}
use native.Mathlib.Omega.{arith}
use lib.Dec.{leb}
use borrow.Author.Tests.{le-leb, lt-leb}
use Rattle.calls.proofs.States.{Callers, nobody, from, State, spot}

unfoldable pub depth : Callers → ℕ
depth nobody = 0
depth (from f v c) = suc (depth c)

-- How many activations are in progress.
unfoldable pub level : List State → ℕ
level [] = 0
level (spot f v c ∷ h) = suc (depth c)

unfoldable pub append : ℕ → List (List ℕ) → List (List ℕ)
append v [] = []
append v (p ∷ ps) = (v ∷ p) ∷ ps

unfoldable pub shed : ℕ → List (List ℕ) → List (List ℕ)
shed zero ps = ps
shed (suc k) [] = []
shed (suc k) (p ∷ ps) = shed k ps

-- Each activation's walk goes through its own graph, the running one's first: a call begins one, a return ends one.
unfoldable pub pasts : List State → List (List ℕ)
pasts [] = []
pasts (spot f v c ∷ h) = cond (leb (suc (depth c)) (level h)) (append v (shed (level h - suc (depth c)) (pasts h))) ((v ∷ []) ∷ pasts h)

abbrev pub top : List (List ℕ) → List ℕ
top [] = []
top (p ∷ ps) = p

begins : (f v : ℕ) (c : Callers) (h : List State) → level h ≡ depth c → pasts (spot f v c ∷ h) ≡ (v ∷ []) ∷ pasts h
unfolding pasts
begins f v c h e = rw (lt-leb (suc (depth c)) (level h) (omega arith))

-- A step that ends k activations.
goes_on :
    (f v : ℕ) (c : Callers) (h : List State) (k : ℕ) (ps : List (List ℕ)) → level h ≡ suc (depth c) + k → pasts h ≡ ps →
    pasts (spot f v c ∷ h) ≡ append v (shed k ps)
unfolding pasts
goes_on f v c h k ps e q =
    let m : level h - suc (depth c) ≡ k = omega arith in
    rw (le-leb (suc (depth c)) (level h) (omega arith), m, q)

-- What each kind of step does to the walks in progress.
pub pasts_begin : pasts (spot 0 0 nobody ∷ []) ≡ (0 ∷ []) ∷ []
unfolding pasts level depth
pasts_begin = refl

pub pasts_call : (g f v : ℕ) (c : Callers) (h : List State) → pasts (spot g 0 (from f v c) ∷ spot f v c ∷ h) ≡ (0 ∷ []) ∷ pasts (spot f v c ∷ h)
unfolding level depth
pasts_call g f v c h = begins g 0 (from f v c) (spot f v c ∷ h) refl

pub pasts_go :
    (f w v : ℕ) (c : Callers) (h : List State) (p : List ℕ) (rest : List (List ℕ)) → pasts (spot f v c ∷ h) ≡ (v ∷ p) ∷ rest →
    pasts (spot f w c ∷ spot f v c ∷ h) ≡ (w ∷ v ∷ p) ∷ rest
unfolding level append shed
pasts_go f w v c h p rest e = goes_on f w c (spot f v c ∷ h) 0 ((v ∷ p) ∷ rest) (omega arith) e

pub pasts_back :
    (f w g v u : ℕ) (c : Callers) (h : List State) (q p : List ℕ) (rest : List (List ℕ)) →
    pasts (spot g v (from f u c) ∷ h) ≡ (v ∷ q) ∷ (u ∷ p) ∷ rest → pasts (spot f w c ∷ spot g v (from f u c) ∷ h) ≡ (w ∷ u ∷ p) ∷ rest
unfolding level depth append shed
pasts_back f w g v u c h q p rest e = goes_on f w c (spot g v (from f u c) ∷ h) 1 ((v ∷ q) ∷ (u ∷ p) ∷ rest) (omega arith) e
