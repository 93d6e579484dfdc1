-- A grammar: what may come next in a text. Reading by it, and the texts that it allows with what they mean.
use Rattle.std.specs.Prelude.{ℕ, suc, ◌+◌, ◌≤◌, ◌<◌, ◌≡◌, cond, List, [], ◌∷◌, ◌++◌, ◌⊎◌, length, take, eqb}
use Rattle.model.specs.Decimals.{decimal}
use Rattle.grammar.specs.Numerals.{numeral, ended}

-- Nothing fits; the end of a text that means a; after byte b the first, and otherwise the second; a decimal number, at least the first and at most the
-- second, and what follows it.
pub data Grammar (A : Type 0) : Type 0 where
  dead : Grammar A
  done : A → Grammar A
  branch : ℕ → Grammar A → Grammar A → Grammar A
  value : ℕ → ℕ → (ℕ → Grammar A) → Grammar A

-- What a text means, or the first byte that fits no continuation, or the length where it ends too early.
pub data Out (A : Type 0) : Type 0 where
  Meant : A → Out A
  Stuck : ℕ → Out A

-- Fixed words, and what follows them.
abbrev pub texts : {A : Type 0} → List ℕ → Grammar A → Grammar A
texts [] g = g
texts (b ∷ w) g = branch b (texts w g) dead

-- The same, or what has another first byte.
abbrev pub either : {A : Type 0} → List ℕ → Grammar A → Grammar A → Grammar A
either [] g h = g
either (b ∷ w) g h = branch b (texts w g) h

-- A text has another first byte than the words.
abbrev pub Differs : List ℕ → List ℕ → Type 0
Differs [] s = ⊥
Differs (b ∷ w) [] = ⊥
Differs (b ∷ w) (c ∷ s) = c ≡ b → ⊥

module _ {A : Type 0} where
  -- Reading, at a position.
  unfoldable pub read_by : Grammar A → List ℕ → ℕ → Out A
  read_by dead s at = Stuck at
  read_by (done a) [] at = Meant a
  read_by (done a) (c ∷ s) at = Stuck at
  read_by (branch b g h) [] at = Stuck at
  read_by (branch b g h) (c ∷ s) at = cond (eqb c b) (read_by g s (at + 1)) (read_by h (c ∷ s) at)
  read_by (value l m k) s at = numeral l m s at Stuck (λ n. read_by (k n))

  -- A text and what it means.
  unfoldable pub Spells : Grammar A → List ℕ → A → Type 0
  Spells dead s a = ⊥
  Spells (done b) [] a = b ≡ a
  Spells (done b) (c ∷ s) a = ⊥
  Spells (branch b g h) [] a = ⊥
  Spells (branch b g h) (c ∷ s) a = ((c ≡ b) × Spells g s a) ⊎ ((c ≡ b → ⊥) × Spells h (c ∷ s) a)
  Spells (value l m k) s a = (n : ℕ) × (l ≤ n) × (n ≤ m) × ((t : List ℕ) × (s ≡ decimal n ++ t) × Spells (k n) t a)

  -- Some text is allowed; some text begins so.
  abbrev pub Alive : Grammar A → Type 0
  Alive g = (s : List ℕ) × ((a : A) × Spells g s a)

  abbrev pub Starts : Grammar A → List ℕ → Type 0
  Starts g t = (rest : List ℕ) × ((a : A) × Spells g (t ++ rest) a)

  -- No text begins with a digit.
  abbrev pub Plain : Grammar A → Type 0
  Plain g = (s : List ℕ) (a : A) → Spells g s a → ended s

  -- Every turn leads to some text, and what follows a number does not begin with a digit.
  unfoldable pub Good : Grammar A → Type 0
  Good dead = Unit {0}
  Good (done a) = Unit {0}
  Good (branch b g h) = Good g × Good h × Alive g
  Good (value l m k) = (l ≤ 1) × ((n : ℕ) → Good (k n) × Plain (k n) × Alive (k n))

  -- What reading must say.
  abbrev pub Reads : Grammar A → List ℕ → Out A → Type 0
  Reads g s (Meant a) = Spells g s a
  Reads g s (Stuck k) =
      ((a : A) → Spells g s a → ⊥) × (k ≤ length s) × Starts g (take k s) × (k < length s → Starts g (take (suc k) s) → ⊥)
