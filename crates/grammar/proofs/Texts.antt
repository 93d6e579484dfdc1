-- The parts of a grammar: the texts that each allows, and that every turn of it leads to some text.
use Prim.Native.Nat.{ℕ, ◌≤◌}
use native.Mathlib.Omega.{arith}
use mathlib.Core.Path.{◌≡◌, refl, ap, ap₂, ◌∙◌}
use mathlib.Core.Bool.{false}
use mathlib.Core.List.{List, [], ◌∷◌, ◌++◌, append-nil}
use mathlib.Core.Logic.{◌⊎◌, inl, inr}
use Rattle.model.specs.Decimals.{decimal}
use Rattle.grammar.specs.Numerals.{digit}
use Rattle.grammar.specs.Grammar.{Grammar, done, value, texts, either, Spells, Alive, Differs, Plain, Good}

module _ {A : Type 0} where
  -- Fixed words, and what follows them.
  pub texts_spell : (w : List ℕ) (g : Grammar A) (t : List ℕ) (a : A) → Spells g t a → Spells (texts w g) (w ++ t) a
  unfolding Spells
  texts_spell [] g t a x = x
  texts_spell (b ∷ w) g t a x = inl (refl, texts_spell w g t a x)

  pub spell_texts : (w : List ℕ) (g : Grammar A) (s : List ℕ) (a : A) → Spells (texts w g) s a → (t : List ℕ) × (s ≡ w ++ t) × Spells g t a
  unfolding Spells
  spell_texts [] g s a x = (s, refl, x)
  spell_texts (b ∷ w) g [] a x = absurd x
  spell_texts (b ∷ w) g (c ∷ s) a (inl (e, x)) = let (t, p, y) = spell_texts w g s a x in (t, ap₂ ◌∷◌ e p, y)
  spell_texts (b ∷ w) g (c ∷ s) a (inr (e, x)) = absurd x

  pub texts_plain : (b : ℕ) (w : List ℕ) (g : Grammar A) → digit b ≡ false → Plain (texts (b ∷ w) g)
  unfolding Spells
  texts_plain b w g e [] a x = absurd x
  texts_plain b w g e (c ∷ s) a (inl (p, x)) = ap digit p ∙ e
  texts_plain b w g e (c ∷ s) a (inr (p, x)) = absurd x

  -- Words that end a text.
  pub whole_spell : (w : List ℕ) (a : A) → Spells (texts w (done a)) w a
  unfolding Spells
  whole_spell [] a = refl
  whole_spell (b ∷ w) a = inl (refl, whole_spell w a)

  pub spell_end : (w : List ℕ) (a b : A) (s t : List ℕ) → s ≡ w ++ t → Spells (done b) t a → (s ≡ w) × (b ≡ a)
  unfolding Spells
  spell_end w a b s [] e x = (e ∙ append-nil w, x)
  spell_end w a b s (c ∷ t) e x = absurd x

  pub spell_whole : (w : List ℕ) (a b : A) (s : List ℕ) → Spells (texts w (done b)) s a → (s ≡ w) × (b ≡ a)
  spell_whole w a b s x = let (t, e, y) = spell_texts w (done b) s a x in spell_end w a b s t e y

  -- A number, and what follows it.
  pub value_spell : (l m : ℕ) (k : ℕ → Grammar A) (n : ℕ) (t : List ℕ) (a : A) → l ≤ n → n ≤ m → Spells (k n) t a → Spells (value l m k) (decimal n ++ t) a
  unfolding Spells
  value_spell l m k n t a lo hi x = (n, lo, hi, (t, refl, x))

  pub spell_value : (l m : ℕ) (k : ℕ → Grammar A) (s : List ℕ) (a : A) → Spells (value l m k) s a → (n : ℕ) × (l ≤ n) × (n ≤ m) × ((t : List ℕ) × (s ≡ decimal n ++ t) × Spells (k n) t a)
  unfolding Spells
  spell_value l m k s a x = x

  -- Words or what has another first byte.
  pub first_spell : (w : List ℕ) (g h : Grammar A) (t : List ℕ) (a : A) → Spells g t a → Spells (either w g h) (w ++ t) a
  unfolding Spells
  first_spell [] g h t a x = x
  first_spell (b ∷ w) g h t a x = inl (refl, texts_spell w g t a x)

  pub whole_first : (w : List ℕ) (a : A) (h : Grammar A) → Spells (either w (done a) h) w a
  unfolding Spells
  whole_first [] a h = refl
  whole_first (b ∷ w) a h = inl (refl, whole_spell w a)

  pub other_spell : (w : List ℕ) (g h : Grammar A) (s : List ℕ) (a : A) → Differs w s → Spells h s a → Spells (either w g h) s a
  unfolding Spells
  other_spell [] g h s a d x = absurd d
  other_spell (b ∷ w) g h [] a d x = absurd d
  other_spell (b ∷ w) g h (c ∷ s) a d x = inr (d, x)

  -- The words and what follows them, or the other.
  abbrev pub Split : List ℕ → Grammar A → Grammar A → List ℕ → A → Type 0
  Split w g h s a = ((t : List ℕ) × (s ≡ w ++ t) × Spells g t a) ⊎ Spells h s a

  pub spell_either : (w : List ℕ) (g h : Grammar A) (s : List ℕ) (a : A) → Spells (either w g h) s a → Split w g h s a
  unfolding Spells
  spell_either [] g h s a x = inl (s, refl, x)
  spell_either (b ∷ w) g h [] a x = absurd x
  spell_either (b ∷ w) g h (c ∷ s) a (inl (e, x)) = let (t, p, y) = spell_texts w g s a x in inl (t, ap₂ ◌∷◌ e p, y)
  spell_either (b ∷ w) g h (c ∷ s) a (inr (e, x)) = inr x

  -- Every turn leads to some text, and some text is allowed.
  pub record Live (g : Grammar A) : Type 0 where
    pub good : Good g
    pub alive : Alive g

  pub done_live : (a : A) → Live (done a)
  unfolding Good Spells
  done_live a = record { good = tt; alive = ([], (a, refl)) }

  pub texts_live : (w : List ℕ) (g : Grammar A) → Live g → Live (texts w g)
  unfolding Good
  texts_live [] g l = l
  texts_live (b ∷ w) g l =
      let rest = texts_live w g l in
      let (t, (a, x)) = l.alive in
      record { good = (rest.good, tt, rest.alive); alive = (b ∷ w ++ t, (a, texts_spell (b ∷ w) g t a x)) }

  pub value_live : (l m : ℕ) (k : ℕ → Grammar A) → l ≤ 1 → l ≤ m → ((n : ℕ) → Live (k n) × Plain (k n)) → Live (value l m k)
  unfolding Good
  value_live l m k low some each =
      let (t, (a, x)) = (each l).0.alive in
      record {
        good = (low, λ n. ((each n).0.good, (each n).1, (each n).0.alive));
        alive = (decimal l ++ t, (a, value_spell l m k l t a (omega arith) some x));
      }

  pub either_live : (w : List ℕ) (g h : Grammar A) → Live g → Good h → Live (either w g h)
  unfolding Good
  either_live [] g h l ok = l
  either_live (b ∷ w) g h l ok =
      let words = texts_live w g l in
      let (t, (a, x)) = l.alive in
      record { good = (words.good, ok, words.alive); alive = (b ∷ w ++ t, (a, first_spell (b ∷ w) g h t a x)) }
