-- Laws of storing numbers one after another, and of a loop that so stores items, each as its numbers.
use Prim.Native.Nat.{ℕ, suc, ◌+◌, ◌*◌, ◌≤◌, ◌<◌}
use mathlib.Core.Path.{◌≡◌, refl, sym, ap, ◌∙◌}
use mathlib.Core.List.{List, [], ◌∷◌, ◌++◌, flat_map, append-nil}
use native.Mathlib.Omega.{arith}
use native.Mathlib.Nat.{mul-suc, suc-add}
use lib.ListN.{length, get_or, set, take, drop, length-append}
use lib.Seq.{sets, sets-eq, take_all, length-take-le, drop-length}
use Rattle.model.proofs.Lists.{stored_behind}
use Rattle.model.proofs.Mapped.{flat_map_more}
use Rattle.numbers.specs.Numbered.{Stored}

-- A list that is stored over another as long takes its place.
pub sets_over : (l xs : List ℕ) → length xs ≡ length l → sets l 0 xs ≡ xs
sets_over l xs e =
    let end : 0 + length xs ≡ length l = omega arith in
    sets-eq xs l 0 (omega arith)
    ∙ ap (λ (r : List ℕ). xs ++ r) (ap (λ (k : ℕ). drop k l) end ∙ drop-length l)
    ∙ append-nil xs

module _ {A : Type 0} (f : A → List ℕ) where
  -- The first i of the n items xs are stored from the base on.
  pub record Storing (n base : ℕ) (xs : List A) (l₀ : List ℕ) (i : ℕ) (l : List ℕ) : Type 0 where
    pub within : i ≤ n
    pub long : length xs ≡ n
    pub is : l ≡ sets l₀ base (flat_map f (take i xs))

  module _ (n base : ℕ) (xs : List A) (l₀ : List ℕ) where
    pub stored_none : length xs ≡ n → Storing n base xs l₀ 0 l₀
    unfolding flat_map
    stored_none e = record { within = omega arith; long = e; is = refl }

    pub stored_all : (i : ℕ) (l : List ℕ) → n ≤ i → Storing n base xs l₀ i l → Stored f n base xs l₀ l
    stored_all i l h s =
        record {
          long = s.long;
          is = s.is ∙ ap (λ (r : List A). sets l₀ base (flat_map f r)) (take_all i xs (omega (arith, s.long)));
        }

  -- Where every item has w numbers.
  module _ (w : ℕ) (wide : (a : A) → length (f a) ≡ w) where
    pub length-flat_map : (xs : List A) → length (flat_map f xs) ≡ w * length xs
    unfolding flat_map
    length-flat_map [] = omega arith
    length-flat_map (x ∷ xs) = length-append (f x) (flat_map f xs) ∙ omega (arith, wide x, length-flat_map xs, mul-suc w (length xs))

    module _ (n base : ℕ) (xs : List A) (l₀ : List ℕ) where
      pub stored_more : (i : ℕ) (d : A) (l l' : List ℕ) → i < n → Storing n base xs l₀ i l → l' ≡ sets l (base + w * i) (f (get_or xs i d)) →
          Storing n base xs l₀ (i + 1) l'
      stored_more i d l l' h s e =
          let lt : i < length xs = omega (arith, s.long) in
          let first : length (flat_map f (take i xs)) ≡ w * i = length-flat_map (take i xs) ∙ ap (λ (m : ℕ). w * m) (length-take-le i xs (omega arith)) in
          record {
            within = omega arith;
            long = s.long;
            is =
                stored_behind l₀ l l' base (base + w * i) (flat_map f (take i xs)) (f (get_or xs i d)) s.is (ap (λ (m : ℕ). base + m) first) e
                ∙ ap (λ (r : List ℕ). sets l₀ base r) (sym (flat_map_more f xs i d lt));
          }

-- One turn of a loop that stores an item's two or three numbers at places that follow one another.
module _ {A : Type 0} (first second : A → ℕ) where
  abbrev pub two : A → List ℕ
  two a = first a ∷ second a ∷ []

  two_stores : (l : List ℕ) (base k : ℕ) (a : A) → set (set l (base + k) (first a)) (suc base + k) (second a) ≡ sets l (base + k) (two a)
  two_stores l base k a = ap (λ (m : ℕ). set (set l (base + k) (first a)) m (second a)) (suc-add base k)

  pub stored_two : (n base : ℕ) (xs : List A) (l₀ : List ℕ) (i : ℕ) (d : A) (l : List ℕ) → i < n → Storing two n base xs l₀ i l →
      Storing two n base xs l₀ (i + 1) (set (set l (base + 2 * i) (first (get_or xs i d))) (suc base + 2 * i) (second (get_or xs i d)))
  stored_two n base xs l₀ i d l h s = stored_more two 2 (λ a. refl) n base xs l₀ i d l _ h s (two_stores l base (2 * i) (get_or xs i d))

  module _ (third : A → ℕ) where
    abbrev pub three : A → List ℕ
    three a = first a ∷ second a ∷ third a ∷ []

    pub stored_three : (n base : ℕ) (xs : List A) (l₀ : List ℕ) (i : ℕ) (d : A) (l : List ℕ) → i < n → Storing three n base xs l₀ i l →
        Storing three n base xs l₀ (i + 1)
        (set (set (set l (base + 3 * i) (first (get_or xs i d))) (suc base + 3 * i) (second (get_or xs i d))) (suc (suc base) + 3 * i) (third (get_or xs i d)))
    stored_three n base xs l₀ i d l h s =
        let k : ℕ = 3 * i in
        let a : A = get_or xs i d in
        stored_more three 3 (λ x. refl) n base xs l₀ i d l _ h s
        (ap (λ (r : List ℕ). set r (suc (suc base) + k) (third a)) (two_stores l base k a)
        ∙ ap (λ (m : ℕ). set (sets l (base + k) (two a)) m (third a)) (suc-add (suc base) k ∙ ap suc (suc-add base k)))
