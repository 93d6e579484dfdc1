-- Where ranges start and end, as words: bit b of a word stands for loop b.
use Rattle.std.specs.Prelude.{ℕ, zero, suc, ◌+◌, ◌*◌, ◌^◌, List, get_or, set, replicate}
use Rattle.std.specs.Int.Bits.{bit_or}
use Rattle.model.specs.declared.Loop.{Loop}
use Rattle.model.specs.Graph.{loop}
use Rattle.model.specs.Places as places

-- Two words a vertex: word v has the loops whose header is v, and word most_vertices + v those whose last vertex is v.
abbrev pub mark_count : ℕ
mark_count = 2 * places.most_vertices

-- The word gains bit b.
abbrev pub gain : List ℕ → ℕ → ℕ → List ℕ
gain words v b = set words v (bit_or (get_or words v 0) (2 ^ b))

unfoldable pub mark_loop : List ℕ → ℕ → ℕ → ℕ → List ℕ
mark_loop marks header last b = gain (gain marks header b) (places.most_vertices + last) b

unfoldable pub marks_of : List Loop → ℕ → List ℕ
marks_of ls zero = replicate mark_count 0
marks_of ls (suc i) = mark_loop (marks_of ls i) (loop ls i).header (loop ls i).last i
