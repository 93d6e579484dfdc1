-- `walk::count_arrival` counts an arrival unless that passes the bound.
use mathlib.Core.Path.{refl, sym}
use native.Mathlib.Omega.{arith}
use borrow.Author.Tests.{le-leb, lt-leb}
use Rattle.model.proofs.Cases.{true_not_false}
use Rattle.walk.proofs.Arrivals.{product_small}
use Rattle.walk.proofs.count_arrival.Goals as goal

pub overflow_mul-visits : goal.overflow_mul-visits
overflow_mul-visits c = omega (arith, product_small _ _ _ c.requires)

pub overflow_add-visits : goal.overflow_add-visits
overflow_add-visits c = omega (arith, product_small _ _ _ c.requires)

pub returns-then-bounds-v : goal.returns-then-bounds-v
returns-then-bounds-v c = record { told = sym (lt-leb _ _ c.if-bounds-v.true); counted = λ e. true_not_false (sym e) }

pub returns : goal.returns
returns c = record { told = sym (le-leb _ _ c.if-bounds-v.false); counted = λ e. refl }
