-- What `copy_from_slice` leaves is what storing the part's numbers one after the other does.
use Prim.Native.Nat.{ℕ, ◌+◌, ◌-◌, ◌≤◌}
use mathlib.Core.Path.{◌≡◌, refl, sym, ap₂, ◌∙◌}
use mathlib.Core.List.{List, ◌++◌}
use native.Mathlib.Omega.{arith}
use lib.ListN.{length}
use borrow.Rule.Slice.PartMut.{put_mid}
use Rattle.std.proofs.lemmas.List.{take-append-drop}
use Rattle.std.proofs.lemmas.List.Edits.{sets, sets-eq}
use Rattle.std.proofs.lemmas.Slice.{take-put_mid, drop-put_mid}
use Rattle.samples.proofs.put.Goals as goal

stored : (at k : ℕ) (xs ys : List ℕ) → length ys ≡ k → at + length ys ≤ length xs → put_mid at k xs ys ≡ sets xs at ys
stored at k xs ys e fits =
    let n = at + length ys in
    sym (take-append-drop n (put_mid at k xs ys))
    ∙ ap₂ ◌++◌ (take-put_mid at k xs ys n refl (omega arith)) (drop-put_mid at k xs ys n (omega arith) (omega arith) e)
    ∙ sym (sets-eq ys xs at fits)

pub returns : goal.returns
returns c =
    let part = c.args.part.now in
    rw c.copy_from_slice.ensures.after
    (stored c.args.at (c.args.at + length part - c.args.at) c.args.l.now part (omega arith) (omega arith))
