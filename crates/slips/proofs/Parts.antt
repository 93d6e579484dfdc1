-- A refusal's line in its two parts, and the slip of an answer that is known.
use Prim.Native.Nat.{ℕ}
use Rattle.std.specs.Prelude.{Result}
use Rattle.model.specs.declared.Bound.{Bound}
use mathlib.Core.Path.{◌≡◌, sym, subst}
use mathlib.Core.List.{List, ◌++◌}
use Rattle.model.specs.declared.Refusal.{Refusal}
use Rattle.model.specs.Refusals.{number, place}
use Rattle.model.specs.Decimals.{text, decimal}
use Rattle.model.specs.Slips.{line, refusal_line, bound_slip}
use Rattle.decimals.specs.Written.{Written}
use Rattle.decimals.proofs.Storing.{written_both}

pub refusal_written : {b c d : List ℕ} {next end : ℕ} (f : Refusal) (n at : ℕ) → n ≡ number f → at ≡ place f →
    Written b 0 (text "refused " ++ decimal n) c next → Written c next (line (text " at ") at) d end → Written b 0 (refusal_line f) d end
unfolding refusal_line
refusal_written f n at e q v w = rw (e, q) at (written_both v w)

pub slip_written : {b c : List ℕ} {next : ℕ} (a known : Result Bound Refusal) → a ≡ known → Written b 0 (bound_slip known) c next → Written b 0 (bound_slip a) c next
slip_written {b} {c} {next} a known e w = subst (λ (x : Result Bound Refusal). Written b 0 (bound_slip x) c next) (sym e) w
