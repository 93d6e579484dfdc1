-- The table copied out row by row, and a row at once.
use Prim.Native.Nat.{ℕ, ◌+◌, ◌-◌, ◌*◌, ◌≤◌, ◌<◌}
use mathlib.Core.Path.{◌≡◌, refl, ap, ◌∙◌}
use mathlib.Core.List.{List, ◌++◌}
use native.Mathlib.Nat.{mul-le-mul_right, suc-mul}
use native.Mathlib.Numerals.{add-one}
use native.Mathlib.Omega.{arith}
use lib.ListN.{length, get_or, take, drop, length-append, length-drop, get_or-append}
use lib.Seq.{get_or-take, length-take-le}
use borrow.Rule.Slice.PartMut.{put_mid}
use Rattle.std.proofs.lemmas.List.{get_or-drop, get_or-append_right}
use Rattle.model.proofs.Cases.{by_order}
use Rattle.sets.specs.Sets.{set_words}
use Rattle.interference.specs.Copies.{RowCopied, Copied}
use Rattle.model.specs.Places as places

-- The words of row v: from v × count on, and a row's words come before those of a later row.
next_row : (v count : ℕ) → (v + 1) * count ≡ v * count + count
next_row v count = rw add-one (omega (arith, suc-mul v count))

pub row_fits : (v vertices count room : ℕ) → v < vertices → vertices * count ≤ room → v * count + count ≤ room
row_fits v vertices count room lt fits =
    let le : (v + 1) * count ≤ vertices * count = mul-le-mul_right count (omega arith) in
    omega (arith, next_row v count)

pub few_words : (v count : ℕ) → v ≤ places.most_vertices → count ≤ places.most_functions → v * count ≤ set_words
few_words v count few small =
    let le : v * count ≤ places.most_vertices * count = mul-le-mul_right count few in
    omega arith

module _ (table : List ℕ) (words : List ℕ) where
  -- A row copied at once, from `start` on in the table.
  module _ (v count at start : ℕ) (here : start ≡ places.most_functions * v) (inside : start + count ≤ length table) (room : at + count ≤ length words) where
    abbrev row_there : List ℕ
    row_there = take (start + count - start) (drop start table)

    abbrev behind : List ℕ
    behind = drop (at + count - at) (drop at words)

    row_long : length row_there ≡ count
    row_long = length-take-le (start + count - start) (drop start table) (omega (arith, length-drop start table)) ∙ omega arith

    front_long : length (take at words) ≡ at
    front_long = length-take-le at words (omega arith)

    pub row_copied : {row : List ℕ} → row ≡ row_there → RowCopied table v count at words (put_mid at (at + count - at) words row)
    row_copied is = rw is (record {
      long = length-append (take at words) (row_there ++ behind) ∙ omega (arith, length-append row_there behind, row_long, front_long, length-drop (at + count - at) (drop at words), length-drop at words);
      copied = λ f h.
          let e : at + f - at ≡ f = omega arith in
          get_or-append_right (take at words) (row_there ++ behind) at (at + f) 0 front_long (omega arith)
          ∙ ap (λ (i : ℕ). get_or (row_there ++ behind) i 0) e
          ∙ get_or-append row_there behind 0 f (omega (arith, row_long))
          ∙ get_or-take (start + count - start) (drop start table) f 0 (omega arith)
          ∙ get_or-drop start table f 0
          ∙ ap (λ (i : ℕ). get_or table (i + f) 0) here;
      before = λ k h. get_or-append (take at words) (row_there ++ behind) 0 k (omega (arith, front_long)) ∙ get_or-take at words k 0 h;
      later = λ k h.
          get_or-append_right (take at words) (row_there ++ behind) at k 0 front_long (omega arith)
          ∙ get_or-append_right row_there behind count (k - at) 0 row_long (omega arith)
          ∙ get_or-drop (at + count - at) (drop at words) (k - at - count) 0
          ∙ get_or-drop at words (at + count - at + (k - at - count)) 0
          ∙ (let e : at + (at + count - at + (k - at - count)) ≡ k = omega arith in ap (λ (i : ℕ). get_or words i 0) e);
    })

  module _ (count : ℕ) where
    pub no_row : Copied table 0 count words words
    no_row = record { long = refl; copied = λ v f h. absurd (omega arith); later = λ k _. refl }

    pub one_row : {v : ℕ} {mid after : List ℕ} → Copied table v count words mid → RowCopied table v count (v * count) mid after →
        Copied table (v + 1) count words after
    one_row {v} c r = record {
      long = r.long ∙ c.long;
      copied = λ x f h lt. by_order x v
          (λ low.
          let le : (x + 1) * count ≤ v * count = mul-le-mul_right count (omega arith) in
          r.before (x * count + f) (omega (arith, next_row x count)) ∙ c.copied x f low lt)
          (λ high.
          let e : x ≡ v = omega arith in
          rw e (r.copied f lt));
      later = λ k h. r.later k (omega (arith, next_row v count)) ∙ c.later k (omega (arith, next_row v count));
    }
