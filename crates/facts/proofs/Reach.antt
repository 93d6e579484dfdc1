-- The fields that good numbers have, one after another: what is good at each and from it on, and what filling leaves before it.
use Prim.Native.Nat.{ℕ, suc, ◌+◌, ◌-◌, ◌≤◌, ◌<◌}
use mathlib.Core.Path.{◌≡◌, refl, sym, ap, subst, ◌∙◌}
use mathlib.Core.List.{List}
use mathlib.Core.Bool.{Bool, true, false, cond}
use native.Mathlib.Omega.{arith}
use lib.ListN.{length, get_or, set, replicate, length-set, length-replicate}
use lib.Seq.{get_or-set_same, get_or-set_other}
use lib.Dec.{eqb}
use borrow.Author.Count.{below_none}
use borrow.Author.Tests.{eqb-true, eqb-false, lt-leb}
use Rattle.model.specs.declared.Field.{Field}
use Rattle.model.specs.File.{first_field, number_count, at_end, in_use}
use Rattle.model.proofs.Lists.{get_or-replicate_self}
use Rattle.model.proofs.Cases.{by_bool, by_order}
use Rattle.fields.specs.Valid.{Valid, edition}
use Rattle.fields.specs.Fill.{fill_from}
use Rattle.fields.proofs.Steps.{Later, placed}
use Rattle.fields.proofs.OneField.{Passed, fill_on}
use Rattle.facts.proofs.Good.{Good, GoodNumbers, next, good_first, goes_later}
use Rattle.model.specs.Places as places
use Rattle.model.specs.Rows as rows

module _ (l : List ℕ) where
  -- From a field to the next, d: its place is in use, and the places between are spare.
  pub record Gap (c d : Field) : Type 0 where
    pub used : in_use l c.place ≡ true
    pub spare : (k : ℕ) → c.place < k → k < d.place → in_use l k ≡ false

  -- A list in which the places below a field's are filled.
  pub record FilledBelow (c : Field) (m : List ℕ) : Type 0 where
    pub long : length m ≡ places.end
    pub below : (k : ℕ) → k < c.place → get_or m k 0 ≡ cond (in_use l k) (get_or l k 0) 0
    pub above : (k : ℕ) → c.place ≤ k → get_or m k 0 ≡ 0

  filled_next : (c : Field) (m : List ℕ) → FilledBelow c m → (d : Field) → Gap c d → c.place < places.end → c.place < d.place →
      FilledBelow d (set m c.place (get_or l c.place 0))
  filled_next c m f d g h up =
      record { long = length-set m p v ∙ f.long; below = below; above = λ k q. kept k (omega arith) ∙ f.above k (omega arith) }
    where
      p : ℕ
      p = c.place

      v : ℕ
      v = get_or l p 0

      kept : (k : ℕ) → (k ≡ p → ⊥) → get_or (set m p v) k 0 ≡ get_or m k 0
      kept k n = get_or-set_other m p k v 0 n

      here : get_or (set m p v) p 0 ≡ cond (in_use l p) v 0
      here = get_or-set_same m p v 0 (omega (arith, f.long)) ∙ sym (ap (λ (t : Bool). cond t v 0) g.used)

      unused : (k : ℕ) → p < k → k < d.place → cond (in_use l k) (get_or l k 0) 0 ≡ 0
      unused k h q = ap (λ (t : Bool). cond t (get_or l k 0) 0) (g.spare k h q)

      below : (k : ℕ) → k < d.place → get_or (set m p v) k 0 ≡ cond (in_use l k) (get_or l k 0) 0
      below k q =
          by_order k p (λ lt. kept k (omega arith) ∙ f.below k lt)
          (λ le. by_bool (eqb k p)
          (λ u. subst (λ (j : ℕ). get_or (set m p v) j 0 ≡ cond (in_use l j) (get_or l j 0) 0) (sym (eqb-true k p u)) here)
          (λ u. kept k (eqb-false k p u) ∙ f.above k le ∙ sym (unused k (omega (arith, eqb-false k p u)) q)))

  -- A field of good numbers, with what is left from it on and what filling has left by then.
  pub record Reached (c : Field) : Type 0 where
    pub rest : ℕ
    pub filled : List ℕ
    pub valid : Valid c
    pub enough : places.end ≤ rest + c.place
    pub good : Good l rest c
    pub filling : fill_from number_count first_field l (replicate number_count 0) ≡ fill_from rest c l filled
    pub state : FilledBelow c filled

  pub first : GoodNumbers l → Reached first_field
  first good =
      record {
        rest = places.end;
        filled = replicate places.end 0;
        valid = edition;
        enough = omega arith;
        good = good;
        filling = refl;
        state = record { long = length-replicate {A = ℕ} places.end 0; below = below_none _; above = λ k q. get_or-replicate_self {A = ℕ} places.end k 0 };
      }

  more : {c : Field} (r : Reached c) → c.row < rows.end → r.rest ≡ suc (r.rest - 1)
  more r h = omega (arith, (placed r.valid h).place, r.enough)

  here : {c : Field} (r : Reached c) → c.row < rows.end → Passed l c × Good l (r.rest - 1) (next l c)
  here {c} r h = good_first (subst (λ (n : ℕ). Good l n c) (more r h) r.good) h

  pub passed : {c : Field} → Reached c → c.row < rows.end → Passed l c
  passed r h = (here r h).0

  pub step : {c d : Field} → d ≡ next l c → Reached c → c.row < rows.end → Gap c d → Reached d
  step {c} {d} e r h g =
      let v : ℕ = get_or l c.place 0 in
      let going : at_end c ≡ false = lt-leb rows.end c.row h in
      let later : Later c d = rw e (goes_later l r.valid going v (passed r h).in_range_lem) in
      record {
        rest = r.rest - 1;
        filled = set r.filled c.place v;
        valid = later.valid;
        enough = omega (arith, more r h, r.enough, later.higher);
        good = rw e (here r h).1;
        filling = r.filling ∙ ap (λ (n : ℕ). fill_from n c l r.filled) (more r h) ∙ (rw e (fill_on (r.rest - 1) c l v going refl r.filled));
        state = filled_next c r.filled r.state d g (placed r.valid h).place later.higher;
      }
