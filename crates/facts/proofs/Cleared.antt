-- Filling a list with the fields that good numbers have clears their spare places.
use Prim.Native.Nat.{ℕ, zero, suc, ◌<◌}
use mathlib.Core.Path.{◌≡◌, refl, sym, ap, ◌∙◌}
use mathlib.Core.List.{List}
use mathlib.Core.Bool.{Bool, true, cond}
use native.Mathlib.Omega.{arith}
use lib.ListN.{length, get_or, replicate}
use lib.Seq.{ext_get_or}
use Rattle.model.specs.File.{number_count, first_field, in_use, cleared}
use Rattle.model.proofs.Lists.{length-table, get_or-table}
use Rattle.fields.specs.Valid.{field}
use Rattle.fields.specs.Fill.{fill_from}
use Rattle.facts.proofs.Good.{GoodNumbers}
use Rattle.facts.proofs.Reach.{FilledBelow}
use Rattle.facts.proofs.Walk.{finish}
use Rattle.model.specs.Places as places
use Rattle.model.specs.Rows as rows

module _ (l : List ℕ) where
  pub cleared_length : length (cleared l) ≡ places.end
  unfolding cleared
  cleared_length = length-table places.end (λ (k : ℕ). cond (in_use l k) (get_or l k 0) 0)

  pub cleared_at : (k : ℕ) → k < places.end → get_or (cleared l) k 0 ≡ cond (in_use l k) (get_or l k 0) 0
  unfolding cleared
  cleared_at k h = get_or-table places.end (λ (j : ℕ). cond (in_use l j) (get_or l j 0) 0) k 0 h

  pub cleared_used : (k : ℕ) → in_use l k ≡ true → k < places.end → get_or (cleared l) k 0 ≡ get_or l k 0
  cleared_used k u h = cleared_at k h ∙ ap (λ (t : Bool). cond t (get_or l k 0) 0) u

  stops : (n : ℕ) (m : List ℕ) → fill_from n (field rows.end places.end 0) l m ≡ m
  unfolding fill_from
  stops zero m = refl
  stops (suc n) m = refl

  all_filled : (m : List ℕ) → FilledBelow l (field rows.end places.end 0) m → m ≡ cleared l
  all_filled m f =
      ext_get_or 0 m (cleared l) (f.long ∙ sym cleared_length)
      (λ k h. let lt : k < places.end = omega (arith, f.long) in f.below k lt ∙ sym (cleared_at k lt))

  pub fill_cleared : GoodNumbers l → fill_from number_count first_field l (replicate number_count 0) ≡ cleared l
  fill_cleared good =
      let r = finish l good in
      r.filling ∙ stops r.rest r.filled ∙ all_filled r.filled r.state
