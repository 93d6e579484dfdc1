-- Rules 8 and 9 by words, of which bit b stands for loop b.
use Rattle.std.specs.Prelude.{ℕ, zero, suc, ◌+◌, ◌<◌, ◌≡◌, List, Bool, cond, not, ◌&&◌, ◌||◌, length, get_or, eqb, ltb, leb, Err, Ok, Result}
use Rattle.std.specs.Int.Bits.{bit_and, bit_or, bit_xor}
use Rattle.model.specs.declared.Edge.{Edge}
use Rattle.model.specs.declared.Loop.{Loop}
use Rattle.model.specs.declared.Refusal.{Refusal}
use Rattle.model.specs.declared.Refusal.TheVariants.{WrongEdge}
use Rattle.model.specs.Search.{lowest_below, exists_below}
use Rattle.model.specs.Graph.{edge, loop, holds, wrong_edge, no_return}
use Rattle.bits.specs.Tests.{has}
use Rattle.model.specs.Places as places

-- The loops whose range holds v: those held over from the vertex before, and those that start here. Those that end here are not held over.
unfoldable pub held_over : List ℕ → ℕ → ℕ
held_over marks zero = 0
held_over marks (suc v) =
    let here = bit_or (held_over marks v) (get_or marks v 0) in
    bit_xor (bit_or here (get_or marks (places.most_vertices + v) 0)) (get_or marks (places.most_vertices + v) 0)

abbrev pub around_at : List ℕ → ℕ → ℕ
around_at marks v = bit_or (held_over marks v) (get_or marks v 0)

-- The words of the first n vertices.
pub record AroundTo (n : ℕ) (marks around : List ℕ) : Type 0 where
  pub word : (v : ℕ) → v < n → get_or around v 0 ≡ around_at marks v

-- Bit b of the word of each of the first n vertices is a test of loop b, one of the first k.
abbrev pub BitsTell : ℕ → ℕ → (ℕ → ℕ → Bool) → (ℕ → ℕ) → Type 0
BitsTell n k test word = (v b : ℕ) → v < n → has (word v) b ≡ (ltb b k && test b v)

pub record Headed (n : ℕ) (ls : List Loop) (marks : List ℕ) : Type 0 where
  pub told : BitsTell n (length ls) (λ b v. eqb (loop ls b).header v) (λ v. get_or marks v 0)

pub record Around (n : ℕ) (ls : List Loop) (around : List ℕ) : Type 0 where
  pub told : BitsTell n (length ls) (λ b v. holds (loop ls b) v) (λ v. get_or around v 0)

-- A wrong edge, told by the loops around its end and its start and those headed by its end.
unfoldable pub wrong_by : ℕ → ℕ → ℕ → ℕ → ℕ → Bool
wrong_by into out heads from to =
    not (eqb (bit_xor (bit_or into (bit_or out heads)) (bit_or out heads)) 0)
    || (leb to from && eqb (bit_and heads out) 0)

-- The loops that one of the first k edges returns to.
unfoldable pub returned_by : List Edge → List ℕ → List ℕ → ℕ → ℕ
returned_by es around marks zero = 0
returned_by es around marks (suc k) =
    bit_or (returned_by es around marks k) (bit_and (get_or marks (edge es k).to 0) (get_or around (edge es k).from 0))

-- The lowest wrong edge, or the loops that the edges return to.
unfoldable pub edges_answer : List Edge → List Loop → List ℕ → List ℕ → Result ℕ Refusal
edges_answer es ls around marks =
    cond (exists_below (length es) (λ i. wrong_edge ls (edge es i)))
    (Err (WrongEdge (lowest_below (length es) (λ i. wrong_edge ls (edge es i)))))
    (Ok (returned_by es around marks (length es)))

pub record Returned (es : List Edge) (ls : List Loop) (word : ℕ) : Type 0 where
  pub told : (j : ℕ) → j < length ls → has word j ≡ not (no_return es (loop ls j))
