-- Sets of vertices in two words.
use Rattle.std.specs.Prelude.{ℕ, ◌-◌, ◌^◌, Bool, cond, ◌&&◌, ltb, leb}
use Rattle.std.specs.Int.Bits.{bit_or}
use Rattle.model.specs.Search.{exists_below}
use Rattle.bits.specs.Tests.{has}
use Rattle.ends.specs.declared.Ends.{Ends}

-- How many vertices the low word stands for.
abbrev pub half : ℕ
half = 64

abbrev pub no_ends : Ends
no_ends = record { low = 0; high = 0 }

unfoldable pub with_end : Ends → ℕ → Ends
with_end e v =
    cond (ltb v half)
    (record { low = bit_or e.low (2 ^ v); high = e.high })
    (record { low = e.low; high = bit_or e.high (2 ^ (v - half)) })

unfoldable pub has_end : Ends → ℕ → Bool
has_end e v = cond (ltb v half) (has e.low v) (has e.high (v - half))

-- A vertex of the set lies from `from` on, below `to`.
unfoldable pub ends_between : Ends → ℕ → ℕ → Bool
ends_between e from to = exists_below to (λ v. leb from v && has_end e v)
