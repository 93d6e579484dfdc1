-- Laws of a loop's terms: what its iterations so far add where it holds the walk's vertex, compared over one edge with what leaving it adds.
use Prim.Native.Nat.{ℕ, suc, ◌+◌, ◌-◌, ◌*◌, ◌≤◌}
use mathlib.Core.Path.{◌≡◌, refl, sym}
use mathlib.Core.List.{List, ◌∷◌}
use mathlib.Core.Bool.{Bool, true, false, cond, true≢false}
use native.Mathlib.Omega.{arith}
use native.Mathlib.Nat.{mul-le-mul_right}
use lib.Dec.{leb}
use borrow.Author.Tests.{le-leb, lt-leb, ne_eqb}
use Rattle.model.specs.declared.Loop.{Loop}
use Rattle.model.specs.Graph.{holds}
use Rattle.model.specs.Walks.{visits}
use Rattle.model.proofs.Cases.{by_bool}
use Rattle.greatest.specs.Numbers.{left}
use Rattle.greatest.proofs.Loops.{holds_from}
use Rattle.greatest.proofs.Counts.{prev}

-- What a loop that holds v adds, if its header has been visited k times in the present stay and it lies behind s.
unfoldable pub stay : ℕ → (E T k : Loop → ℕ) → ℕ → Loop → ℕ
stay s E T k v l = cond (leb s l.header) (cond (holds l v) (E l + (k l - 1) * T l) 0) 0

-- The same after the history v ∷ h.
abbrev pub stay_at : ℕ → (E T : Loop → ℕ) → ℕ → List ℕ → Loop → ℕ
stay_at s E T v h = stay s E T (λ l. visits l (v ∷ h)) v

module _ (s : ℕ) (E T k : Loop → ℕ) (v : ℕ) (l : Loop) where
  pub stay_out : holds l v ≡ false → stay s E T k v l ≡ 0
  unfolding stay
  stay_out e = go (leb s l.header)
    where
      go : (i : Bool) → cond i (cond (holds l v) (E l + (k l - 1) * T l) 0) 0 ≡ 0
      go true = rw e
      go false = refl

  pub stay_in : s ≤ l.header → holds l v ≡ true → stay s E T k v l ≡ E l + (k l - 1) * T l
  unfolding stay
  stay_in p e = rw (le-leb s l.header p, e)

  -- A loop that lies behind v does not hold it.
  pub stay_behind : s ≡ suc v → stay s E T k v l ≡ 0
  unfolding stay
  stay_behind q = by_bool (holds l v) (λ e. let x = holds_from l v e in rw (lt-leb s l.header (omega arith))) stay_out

-- One turn more, and one less.
pub turn_more : (n t e : ℕ) → 1 ≤ n → e + (n - 1) * t + t ≤ e + (n + 1 - 1) * t
turn_more n t e p = go (n - 1) (n + 1 - 1) (omega arith)
  where
    go : (a b : ℕ) → b ≡ suc a → e + a * t + t ≤ e + b * t
    go a b q = rw q (omega arith)

pub turn_less : (y x t e : ℕ) → y ≡ suc x → e + y * t + 0 ≤ e + x * t + t
turn_less y x t e q = rw q (omega arith)

module _ (E T : Loop → ℕ) (u v : ℕ) (l : Loop) where
  pub left_in : holds l v ≡ true → left E T u v l ≡ 0
  unfolding left
  left_in e = go (holds l u)
    where
      go : (x : Bool) → cond x (cond (holds l v) 0 (E l + (l.bound - 1) * T l)) 0 ≡ 0
      go true = rw e
      go false = refl

  module _ (s : ℕ) where
    -- Forward: what a loop added is not lost where no count falls.
    pub stay_step : (j k : Loop → ℕ) → j l ≤ l.bound → (holds l u ≡ true → holds l v ≡ true → j l ≤ k l)
        → stay s E T j u l ≤ left E T u v l + stay s E T k v l
    unfolding stay left
    stay_step j k b = go (leb s l.header) (holds l u) (holds l v)
      where
        go : (i x y : Bool) → (x ≡ true → y ≡ true → j l ≤ k l)
            → cond i (cond x (E l + (j l - 1) * T l) 0) 0
            ≤ cond x (cond y 0 (E l + (l.bound - 1) * T l)) 0 + cond i (cond y (E l + (k l - 1) * T l) 0) 0
        go true true true f = let q = f refl refl in omega (arith, mul-le-mul_right {m = j l - 1} {n = k l - 1} (T l) (omega arith))
        go true true false f = omega (arith, mul-le-mul_right {m = j l - 1} {n = l.bound - 1} (T l) (omega arith))
        go true false true f = omega arith
        go true false false f = omega arith
        go false x y f = omega arith

    -- Backward: what a loop that does not start at v adds was there one step before.
    pub stay_back : (k : Loop → ℕ) → (l.header ≡ v → ⊥) → (holds l v ≡ true → holds l u ≡ true)
        → (holds l u ≡ true → holds l v ≡ false → s ≤ l.header) → stay s E T k v l + left E T u v l ≤ stay s E T (prev k v) u l
    unfolding stay left prev
    stay_back k q p r =
        rw (ne_eqb l.header v q) (go (leb s l.header) (holds l u) (holds l v) p (λ a b. le-leb s l.header (r a b)))
      where
        zero_off : k l - 0 ≡ k l
        zero_off = omega arith

        go : (i x y : Bool) → (y ≡ true → x ≡ true) → (x ≡ true → y ≡ false → i ≡ true)
            → cond i (cond y (E l + (k l - 1) * T l) 0) 0 + cond x (cond y 0 (E l + (l.bound - 1) * T l)) 0
            ≤ cond i (cond x (E l + (cond y (k l - 0) l.bound - 1) * T l) 0) 0
        go true true true f o = rw zero_off (omega arith)
        go false true true f o = omega arith
        go i false true f o = absurd (true≢false (sym (f refl)))
        go true true false f o = omega arith
        go false true false f o = absurd (true≢false (sym (o refl refl)))
        go true false false f o = omega arith
        go false false false f o = omega arith
