-- One turn of a loop that stores a table's items, each as its numbers.
use Prim.Native.Nat.{ℕ, suc, ◌+◌, ◌*◌, ◌<◌}
use mathlib.Core.Path.{◌≡◌, ap, sym, ◌∙◌}
use mathlib.Core.List.{List}
use lib.ListN.{length, get_or, set}
use lib.Seq.{sets}
use Rattle.model.specs.Numbers.{table}
use Rattle.model.proofs.Lists.{length-table, get_or-table}
use Rattle.numbers.proofs.Places.{Storing, stored_none, stored_more, two, stored_two, three, stored_three}

module _ {A : Type 0} (first second : A → ℕ) (n base : ℕ) (at : ℕ → A) (l₀ : List ℕ) where
  abbrev pub TwoTo : ℕ → List ℕ → Type 0
  TwoTo i l = Storing (two first second) n base (table n at) l₀ i l

  pub two_none : TwoTo 0 l₀
  two_none = stored_none (two first second) n base (table n at) l₀ (length-table n at)

  pub two_more : (i : ℕ) (l : List ℕ) (a b : ℕ) → i < n → TwoTo i l → a ≡ first (at i) → b ≡ second (at i) →
      TwoTo (i + 1) (set (set l (base + 2 * i) a) (suc base + 2 * i) b)
  two_more i l a b h s p q =
      let item : get_or (table n at) i (at 0) ≡ at i = get_or-table n at i (at 0) h in
      let first_is : a ≡ first (get_or (table n at) i (at 0)) = p ∙ ap first (sym item) in
      let second_is : b ≡ second (get_or (table n at) i (at 0)) = q ∙ ap second (sym item) in
      rw (first_is, second_is) (stored_two first second n base (table n at) l₀ i (at 0) l h s)

  module _ (third : A → ℕ) where
    abbrev pub ThreeTo : ℕ → List ℕ → Type 0
    ThreeTo i l = Storing (three first second third) n base (table n at) l₀ i l

    pub three_none : ThreeTo 0 l₀
    three_none = stored_none (three first second third) n base (table n at) l₀ (length-table n at)

    pub three_more : (i : ℕ) (l : List ℕ) (a b c : ℕ) → i < n → ThreeTo i l → a ≡ first (at i) → b ≡ second (at i) → c ≡ third (at i) →
        ThreeTo (i + 1) (set (set (set l (base + 3 * i) a) (suc base + 3 * i) b) (suc (suc base) + 3 * i) c)
    three_more i l a b c h s p q r =
        let item : get_or (table n at) i (at 0) ≡ at i = get_or-table n at i (at 0) h in
        let first_is : a ≡ first (get_or (table n at) i (at 0)) = p ∙ ap first (sym item) in
        let second_is : b ≡ second (get_or (table n at) i (at 0)) = q ∙ ap second (sym item) in
        let third_is : c ≡ third (get_or (table n at) i (at 0)) = r ∙ ap third (sym item) in
        rw (first_is, second_is, third_is) (stored_three first second third n base (table n at) l₀ i (at 0) l h s)

-- The same where the items are stored by their type's own `put`.
module _ {A : Type 0} (numbers : A → List ℕ) (w : ℕ) (wide : (a : A) → length (numbers a) ≡ w) (n base : ℕ) (at : ℕ → A) (l₀ : List ℕ) where
  pub table_none : Storing numbers n base (table n at) l₀ 0 l₀
  table_none = stored_none numbers n base (table n at) l₀ (length-table n at)

  pub table_more : (i : ℕ) (a : A) (l l' : List ℕ) → i < n → Storing numbers n base (table n at) l₀ i l → a ≡ at i → l' ≡ sets l (base + w * i) (numbers a) → Storing numbers n base (table n at) l₀ (i + 1) l'
  table_more i a l l' h s is put =
      stored_more numbers w wide n base (table n at) l₀ i a l l' h s
      (put ∙ ap (λ x. sets l (base + w * i) (numbers x)) (is ∙ sym (get_or-table n at i a h)))
