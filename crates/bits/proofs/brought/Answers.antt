-- `brought` gives the members that an edge brings.
use mathlib.Core.Path.{sym}
use Rattle.bits.proofs.Bits.{one_shl, none_in_zero, with_members}
use Rattle.bits.proofs.brought.Goals as goal

pub returns-then-f-g : goal.returns-then-f-g
returns-then-f-g c = λ b. (λ h. absurd (none_in_zero b h), λ a. absurd (a.0 (sym c.if-f-g.true)))

pub returns : goal.returns
returns c = λ b.
    let members = with_members c.args.w c.args.g b in
    rw (one_shl c.args.g c.requires) (λ h. (λ e. c.if-f-g.false (sym e), members.0 h), λ a. members.1 a.1)
