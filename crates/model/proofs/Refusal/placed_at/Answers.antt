-- `placed_at` names the refusal with the same number.
use Rattle.std.proofs.Common.{ap, ◌∙◌, ℕ, arith}
use Rattle.model.specs.Refusals.{refusal_of}
use Rattle.model.proofs.Refusals.{known}
use Rattle.model.proofs.Refusal.placed_at.Goals as goal

pub numbered-requires : goal.numbered-requires
numbered-requires c = let k = known c.args.self in (omega (arith, c.number.ensures, k.low), omega (arith, c.number.ensures, k.high))

pub returns : goal.returns
returns c =
    c.numbered.ensures ∙ ap (λ (n : ℕ). refusal_of n c.args.at) c.number.ensures ∙ (known c.args.self).elsewhere c.args.at
