-- What one more loop adds: to the ends, which tell bad ranges, and to the marks.
use Prim.Native.Nat.{ℕ, zero, suc, ◌+◌}
use native.Mathlib.Numerals.{add-one}
use mathlib.Core.Path.{◌≡◌, refl, sym, ap, ◌∙◌}
use mathlib.Core.List.{List}
use mathlib.Core.Bool.{Bool, true, false, ◌&&◌, ◌||◌}
use lib.ListN.{replicate}
use lib.Dec.{eqb, ltb, leb}
use borrow.Author.Tests.{lt-ltb, ltb-true, eqb-true, eq-eqb}
use Rattle.model.specs.declared.Loop.{Loop}
use Rattle.model.specs.Search.{exists_below}
use Rattle.model.specs.Graph.{loop, holds, crosses}
use Rattle.model.proofs.Cases.{by_bool, and_left, and_right, true_not_false}
use Rattle.model.proofs.Search.{some_below, none_below, exists_at, exists_first, exists_more, exists_nowhere}
use Rattle.ends.specs.declared.Ends.{Ends}
use Rattle.ends.specs.Sets.{no_ends, with_end, has_end, ends_between}
use Rattle.ends.proofs.Members.{none_ends, one_end}
use Rattle.ranges.specs.Ranges.{bad_at}
use Rattle.ranges.specs.Marks.{mark_count, mark_loop, marks_of}

-- Where the first j loops end.
unfoldable pub ends_of : List Loop → ℕ → Ends
ends_of ls zero = no_ends
ends_of ls (suc j) = with_end (ends_of ls j) (loop ls j).last

module _ (ls : List Loop) where
  pub ends_none : no_ends ≡ ends_of ls 0
  unfolding ends_of
  ends_none = refl

  pub ends_more : (j : ℕ) {before after : Ends} → before ≡ ends_of ls j → after ≡ with_end before (loop ls j).last → after ≡ ends_of ls (j + 1)
  unfolding ends_of
  ends_more j is more = rw add-one (more ∙ ap (λ (ends : Ends). with_end ends (loop ls j).last) is)

  -- The set has the ends of the loops before j.
  ends_told : (j v : ℕ) → has_end (ends_of ls j) v ≡ exists_below j (λ i. eqb v (loop ls i).last)
  unfolding ends_of
  ends_told zero v = none_ends v ∙ sym (exists_first (λ i. eqb v (loop ls i).last))
  ends_told (suc j) v =
      one_end (ends_of ls j) (loop ls j).last v
      ∙ (ap (λ (t : Bool). t || eqb v (loop ls j).last) (ends_told j v) ∙ sym (exists_more j (λ i. eqb v (loop ls i).last)))

  -- Loop j crosses an earlier one exactly if one ends from its header on, before its own end.
  module _ (j : ℕ) where
    abbrev header : ℕ
    header = (loop ls j).header

    abbrev last : ℕ
    last = (loop ls j).last

    abbrev crossed : ℕ → Bool
    crossed i = crosses (loop ls i) (loop ls j)

    abbrev between : ℕ → Bool
    between v = leb header v && has_end (ends_of ls j) v

    crossing_some : exists_below j crossed ≡ true → exists_below last between ≡ true
    crossing_some is =
        let r = some_below j crossed is in
        let at = (loop ls r.0).last in
        let here : has_end (ends_of ls j) at ≡ true = ends_told j at ∙ exists_at j (λ i. eqb at (loop ls i).last) r.0 r.1 (eq-eqb at at refl) in
        exists_at last between at (ltb-true at last (and_right (leb header at) (ltb at last) r.2)) (rw (and_left (leb header at) (ltb at last) r.2) here)

    crossing_none : exists_below j crossed ≡ false → exists_below last between ≡ false
    crossing_none is = exists_nowhere last between (λ v lt. by_bool (leb header v)
        (λ within.
        rw within
        (ends_told j v
        ∙ exists_nowhere j (λ i. eqb v (loop ls i).last) (λ i low. by_bool (eqb v (loop ls i).last)
        (λ same.
        let e : (loop ls i).last ≡ v = sym (eqb-true v (loop ls i).last same) in
        let meets : crossed i ≡ true = rw (e, within) (lt-ltb v last lt) in
        true_not_false (sym meets ∙ none_below j crossed is i low))
        (λ other. other))))
        (λ outside. rw outside))

    pub crossing : ends_between (ends_of ls j) header last ≡ exists_below j crossed
    unfolding ends_between
    crossing = by_bool (exists_below j crossed) (λ is. crossing_some is ∙ sym is) (λ is. crossing_none is ∙ sym is)

  -- What the test by the ends of the loops before j answers of loop j.
  pub bad_told : (end j : ℕ) {ends : Ends} {r b : Bool} → ends ≡ ends_of ls j →
      r ≡ (holds (loop ls j) end || ends_between ends (loop ls j).header (loop ls j).last) → r ≡ b → bad_at ls end j ≡ b
  unfolding bad_at
  bad_told end j e is answer = sym (rw (e, crossing j) at is) ∙ answer

  pub marks_none : replicate mark_count 0 ≡ marks_of ls 0
  unfolding marks_of
  marks_none = refl

  pub marks_more : (i : ℕ) → mark_loop (marks_of ls i) (loop ls i).header (loop ls i).last i ≡ marks_of ls (i + 1)
  unfolding marks_of
  marks_more i = rw add-one
