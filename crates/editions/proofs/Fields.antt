-- What holds of a number wherever it is spelt holds of a field, where there may be no byte for it.
use Prim.Native.Nat.{ℕ, ◌+◌, ◌≤◌}
use Rattle.std.specs.Prelude.{Err, Ok}
use Rattle.model.specs.declared.Misread.TheVariants.{Ended}
use mathlib.Core.Path.{◌≡◌, sym, ◌∙◌}
use mathlib.Core.List.{List}
use mathlib.Core.Bool.{true, false}
use native.Mathlib.Omega.{arith}
use lib.ListN.{length, take}
use Rattle.model.specs.declared.Field.{Field}
use Rattle.model.specs.Spelling.{read_number}
use Rattle.model.specs.File.{unwritten, read_field, field_size, field_bytes}
use Rattle.model.proofs.Cases.{by_bool}
use Rattle.model.proofs.Answers.{ok_pair}
use Rattle.spelling.proofs.Prefix.{number_prefix, number_ends, never_ended}
use Rattle.spelling.proofs.Laws.{size_five, bytes_length}
use Rattle.fields.proofs.Editions.{read_written, read_unwritten, size_written, size_unwritten, bytes_written, bytes_unwritten}

module _ (edition : ℕ) (c : Field) where
  -- It takes at most five bytes, all of them in the file.
  module _ (s : List ℕ) (at v next : ℕ) (e : read_field edition s at c ≡ Ok (v, next)) where
    pub none_read : unwritten edition c ≡ true → (v ≡ 0) × (next ≡ at)
    none_read t = let p = ok_pair (sym (read_unwritten edition c t s at) ∙ e) in (sym p.0, sym p.1)

    pub some_read : unwritten edition c ≡ false → read_number s at ≡ Ok (v, next)
    some_read t = sym (read_written edition c t s at) ∙ e

    pub field_near : next ≤ at + 5
    field_near =
        by_bool (unwritten edition c) (λ t. omega (arith, none_read t)) (λ t. omega (arith, number_ends s at v next (some_read t)))

    pub field_inside : at ≤ length s → next ≤ length s
    field_inside inside =
        by_bool (unwritten edition c) (λ t. omega (arith, none_read t)) (λ t. omega (arith, number_ends s at v next (some_read t)))

  -- Bytes past the next five play no part.
  pub field_prefix : (s : List ℕ) (k at : ℕ) → at + 5 ≤ k → k ≤ length s → read_field edition (take k s) at c ≡ read_field edition s at c
  field_prefix s k at h i =
      by_bool (unwritten edition c)
      (λ t. read_unwritten edition c t (take k s) at ∙ sym (read_unwritten edition c t s at))
      (λ t. read_written edition c t (take k s) at ∙ number_prefix s k at h i ∙ sym (read_written edition c t s at))

  pub field_never_ended : (s : List ℕ) (at : ℕ) → at + 5 ≤ length s → read_field edition s at c ≡ Err Ended → ⊥
  field_never_ended s at h e =
      by_bool (unwritten edition c)
      (λ t. let q : Ok (0, at) ≡ Err Ended = sym (read_unwritten edition c t s at) ∙ e in let z : ◌≡◌ {A = ℕ} 0 1 = cc in omega arith)
      (λ t. never_ended s at h (sym (read_written edition c t s at) ∙ e))

  module _ (v : ℕ) where
    pub field_five : field_size edition c v ≤ 5
    field_five =
        by_bool (unwritten edition c) (λ t. omega (arith, size_unwritten edition c t v)) (λ t. omega (arith, size_written edition c t v, size_five v))

    pub field_length : length (field_bytes edition c v) ≡ field_size edition c v
    field_length =
        by_bool (unwritten edition c)
        (λ t. rw (bytes_unwritten edition c t v, size_unwritten edition c t v))
        (λ t. rw (bytes_written edition c t v, size_written edition c t v) (bytes_length v))
