-- The files of a problem. A number may be padded: it takes as many groups as it needs, or more, up to five; and edition 2 says what edition 1 says, and check
-- costs too. A file differs from another of the same problem in its padding and its edition alone. The one that is written has no padding, and edition 1 if it can.
use Rattle.std.specs.Prelude.{ℕ, zero, suc, ◌≤◌, ◌≡◌, List, [], ◌++◌, true, false, cond, get_or}
use Rattle.model.specs.declared.Field.{Field}
use Rattle.model.specs.declared.Problem.{Problem}
use Rattle.model.specs.Spelling.{most_groups, number_size, groups}
use Rattle.model.specs.Limits.{second_edition}
use Rattle.model.specs.Numbers.{edition_of, numbers_in, numbers_of}
use Rattle.model.specs.File.{number_count, first_field, at_end, next_field, edition_in, unwritten, file_bytes}

-- Bytes of the fields of l from c on, at most n of them.
pub data Padded (l : List ℕ) : ℕ → Field → List ℕ → Type 0 where
  none : {c : Field} → Padded l zero c []
  over : {n : ℕ} {c : Field} → at_end c ≡ true → Padded l (suc n) c []
  skip : {n : ℕ} {c : Field} {rest : List ℕ} → at_end c ≡ false → unwritten (edition_in l) c ≡ true → Padded l n (next_field c (get_or l c.place 0)) rest → Padded l (suc n) c rest
  on : {n : ℕ} {c : Field} {rest : List ℕ} (k : ℕ) → at_end c ≡ false → unwritten (edition_in l) c ≡ false → number_size (get_or l c.place 0) ≤ k → k ≤ most_groups →
      Padded l n (next_field c (get_or l c.place 0)) rest → Padded l (suc n) c (groups k (get_or l c.place 0) ++ rest)

-- The bytes s are a file of the problem, padded or not, of an edition that can say it: no edition below the one that is written can.
pub record FileOf (p : Problem) (s : List ℕ) : Type 0 where
  pub edition : ℕ
  pub enough : edition_of p ≤ edition
  pub known : edition ≤ second_edition
  pub padded : Padded (numbers_in edition p) number_count first_field s

-- The one that is written.
abbrev pub short_file : Problem → List ℕ
short_file p = file_bytes (numbers_of p)

-- The one of a linker that reserves five bytes a number.
abbrev pub wide_bytes : ℕ → Field → ℕ → List ℕ
wide_bytes edition c v = cond (unwritten edition c) [] (groups most_groups v)

unfoldable pub wide_from : ℕ → Field → List ℕ → List ℕ
wide_from zero c l = []
wide_from (suc n) c l = cond (at_end c) [] (wide_bytes (edition_in l) c (get_or l c.place 0) ++ wide_from n (next_field c (get_or l c.place 0)) l)

abbrev pub wide_file : Problem → List ℕ
wide_file p = wide_from number_count first_field (numbers_of p)
