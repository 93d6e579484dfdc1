-- `enter_start` enters the start of the edge in one phase after the other.
use native.Mathlib.Omega.{arith}
use Rattle.lookup.proofs.Places.{facts, from_below}
use Rattle.distances.proofs.Passing.{arrives_still}
use Rattle.distances.proofs.Starting.{start_small, phase_ready, phase_passed, start_passed}
use Rattle.distances.proofs.enter_start.Goals as goal

both : {A B : Type 0} → A × B → record { fact_1 : A; fact_2 : B }
both p = record { fact_1 = p.0; fact_2 = p.1 }

pub edge_from-u-requires : goal.edge_from-u-requires
edge_from-u-requires c = record { fact_1 = facts _ c.requires.fact_2.checked; fact_2 = c.requires.fact_1 }

pub function_of-k-requires : goal.function_of-k-requires
function_of-k-requires c =
    let ok = facts _ c.requires.fact_2.checked in record { fact_1 = ok; fact_2 = rw c.edge_from-u.ensures (from_below _ ok _ c.requires.fact_1) }

pub overflow_mul-u : goal.overflow_mul-u
overflow_mul-u c = omega (arith, (start_small c.requires.fact_1 c.edge_from-u.ensures c.requires.fact_2))

pub enter-last-requires : goal.enter-last-requires
enter-last-requires c = both (phase_ready c.requires.fact_1 c.edge_from-u.ensures c.requires.fact_2 {s = 0} (omega arith) (omega arith))

pub overflow_mul-u-2 : goal.overflow_mul-u-2
overflow_mul-u-2 c = omega (arith, (start_small c.requires.fact_1 c.edge_from-u.ensures c.requires.fact_2))

pub overflow_add-u : goal.overflow_add-u
overflow_add-u c = omega (arith, (start_small c.requires.fact_1 c.edge_from-u.ensures c.requires.fact_2))

pub enter-requires : goal.enter-requires
enter-requires c =
    let still = arrives_still c.requires.fact_2 (phase_passed c.requires.fact_1 c.edge_from-u.ensures c.requires.fact_2 (omega arith) (omega arith) c.function_of-k.ensures c.turn.ensures c.enter-last.ensures) in both (phase_ready c.requires.fact_1 c.edge_from-u.ensures still {s = 1} (omega arith) (omega arith))

pub returns : goal.returns
returns c =
    start_passed c.requires.fact_1 c.edge_from-u.ensures (phase_passed c.requires.fact_1 c.edge_from-u.ensures c.requires.fact_2 (omega arith) (omega arith) c.function_of-k.ensures c.turn.ensures c.enter-last.ensures)
    (phase_passed c.requires.fact_1 c.edge_from-u.ensures (arrives_still c.requires.fact_2 (phase_passed c.requires.fact_1 c.edge_from-u.ensures c.requires.fact_2 (omega arith) (omega arith) c.function_of-k.ensures c.turn.ensures c.enter-last.ensures)) (omega arith) (omega arith)
    c.function_of-k.ensures c.turn-2.ensures c.enter.ensures)
