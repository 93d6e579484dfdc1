use Prim.Native.Nat.{◌-◌}
use mathlib.Core.Path.{◌≡◌}
use native.Mathlib.Omega.{arith}
use Rattle.std.specs.Prelude.{max}
use Rattle.std.proofs.lemmas.Grind.{common_steps}
use Rattle.chains.proofs.Chains.{link_less}
use Rattle.offers.proofs.Offers.{followed_none, followed_more, followed_all}
use Rattle.offers.proofs.best_into.Goals as goal

pub loop-next-init : goal.loop-next-init
loop-next-init c = followed_none _ _ _ _ _ _ c.requires.fact_1.into c.requires.fact_4

pub offer-requires-clause-fact_5 : goal.offer-requires-clause-fact_5
offer-requires-clause-fact_5 c = c.loop-next.invariant.to _ (omega arith)

pub loop-next-smaller : goal.loop-next-smaller
loop-next-smaller c =
    omega (arith, link_less c.requires.fact_1.into (c.loop-next.next - 1) (omega arith))

pub loop-next-preserved : goal.loop-next-preserved
loop-next-preserved c =
    let greater : c.max-best.result.0 ≡ max c.loop-next.best.0 c.offer.result.0 = grind (arith, common_steps) in
    followed_more _ _ _ _ _ _ c.requires.fact_1.into _ (omega arith) c.loop-next.invariant c.offer.ensures greater

pub returns : goal.returns
returns c = followed_all _ _ _ _ _ _ (omega arith) c.loop-next.invariant
