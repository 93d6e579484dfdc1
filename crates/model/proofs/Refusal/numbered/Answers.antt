use Rattle.std.proofs.Common.{arith, sym, ap, ℕ, ◌≡◌}
use Rattle.model.specs.Refusals.{refusal_of}
use Rattle.model.proofs.Refusal.numbered.Goals as goal

at_number : {n k : ℕ} (at : ℕ) → n ≡ k → refusal_of k at ≡ refusal_of n at
at_number at e = ap (λ (m : ℕ). refusal_of m at) (sym e)

pub returns-in-3 : goal.returns-in-3
returns-in-3 c = at_number _ c.in-3.is

pub returns-in_default : goal.returns-in_default
returns-in_default c = let e : c.args.number ≡ 22 = omega arith in at_number _ e
