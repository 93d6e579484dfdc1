-- What stands for a callee: none, or the function itself.
use Prim.Native.Nat.{ℕ}
use mathlib.Core.Path.{◌≡◌, sym, ap, ◌∙◌}
use mathlib.Core.Bool.{Bool, true, false, cond, not}
use Rattle.std.specs.Prelude.{Some, None}
use lib.Dec.{eqb}
use Rattle.model.specs.Drawings.{no_callee, callee_of, or_first}
use Rattle.model.specs.Inlined.{calls_some}
use Rattle.model.proofs.Cases.{by_bool, true_not_false}

module _ (n : ℕ) where
  pub callee_told : not (eqb n no_callee) ≡ calls_some (callee_of n)
  callee_told = by_bool (eqb n no_callee) (λ e. rw e) (λ e. rw e)

  module _ (calls : calls_some (callee_of n) ≡ true) where
    pub some_callee : callee_of n ≡ Some n
    some_callee = by_bool (eqb n no_callee) (λ e. true_not_false (sym calls ∙ ap calls_some (ap (λ (b : Bool). cond b None (Some n)) e))) (λ e. rw e)

    pub callee_kept : n ≡ or_first (callee_of n)
    callee_kept = sym (ap or_first some_callee)

  module _ (calls : calls_some (callee_of n) ≡ false) where
    pub no_callee_lem : callee_of n ≡ None
    no_callee_lem = by_bool (eqb n no_callee) (λ e. rw e) (λ e. true_not_false (sym (ap calls_some (ap (λ (b : Bool). cond b None (Some n)) e)) ∙ calls))

    pub callee_first : 0 ≡ or_first (callee_of n)
    callee_first = sym (ap or_first no_callee_lem)
