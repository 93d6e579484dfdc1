-- What an edition writes: every number but a check cost of edition 1.
use Prim.Native.Nat.{ℕ}
use Rattle.std.specs.Prelude.{Ok}
use mathlib.Core.Path.{◌≡◌, sym, ◌∙◌}
use mathlib.Core.List.{List, []}
use mathlib.Core.Bool.{true, false}
use lib.Dec.{eqb}
use borrow.Author.Tests.{eq-eqb, ne_eqb}
use Rattle.model.specs.declared.Field.{Field}
use Rattle.model.specs.Spelling.{read_number, number_size, number_bytes}
use Rattle.model.specs.Limits.{first_edition}
use Rattle.model.specs.File.{unwritten, read_field, field_size, field_bytes}
use Rattle.model.specs.Rows as rows

module _ (edition : ℕ) (c : Field) where
  pub other_row : (c.row ≡ rows.check → ⊥) → false ≡ unwritten edition c
  unfolding unwritten
  other_row n = simp (ne_eqb c.row rows.check n)

  pub check_row : c.row ≡ rows.check → eqb edition first_edition ≡ unwritten edition c
  unfolding unwritten
  check_row q = simp (eq-eqb c.row rows.check q)

  pub first_unwritten : c.row ≡ rows.check → edition ≡ first_edition → unwritten edition c ≡ true
  first_unwritten q e = sym (check_row q) ∙ eq-eqb edition first_edition e

  module _ (e : unwritten edition c ≡ false) where
    pub read_written : (s : List ℕ) (at : ℕ) → read_field edition s at c ≡ read_number s at
    unfolding read_field
    read_written s at = simp e

    pub size_written : (v : ℕ) → field_size edition c v ≡ number_size v
    unfolding field_size
    size_written v = simp e

    pub bytes_written : (v : ℕ) → field_bytes edition c v ≡ number_bytes v
    unfolding field_bytes
    bytes_written v = simp e

  -- A number that is no check cost is written in every edition.
  module _ (n : c.row ≡ rows.check → ⊥) where
    pub plainly_read : (s : List ℕ) (at : ℕ) → read_field edition s at c ≡ read_number s at
    plainly_read = read_written (sym (other_row n))

    pub plainly_sized : (v : ℕ) → field_size edition c v ≡ number_size v
    plainly_sized = size_written (sym (other_row n))

  module _ (e : unwritten edition c ≡ true) where
    pub read_unwritten : (s : List ℕ) (at : ℕ) → read_field edition s at c ≡ Ok (0, at)
    unfolding read_field
    read_unwritten s at = simp e

    pub size_unwritten : (v : ℕ) → field_size edition c v ≡ 0
    unfolding field_size
    size_unwritten v = simp e

    pub bytes_unwritten : (v : ℕ) → field_bytes edition c v ≡ []
    unfolding field_bytes
    bytes_unwritten v = simp e
