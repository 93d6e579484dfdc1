-- First reach satisfies what a flow does: each member that a step adds has a walk.
use Rattle.model.specs.declared.Problem.{Problem}
use Rattle.model.specs.Costs.{function_of}
use Rattle.model.specs.Walks.{EdgeOf}
use Rattle.sound.proofs.Flow.{fresh_further}
use Rattle.flow.specs.Laws.{Laws}
use Rattle.flow.specs.Starts.{from, to}
use Rattle.flow.proofs.Edges.{is_edge}
use Rattle.reach.specs.Fresh.{fresh_flow}

module _ (p : Problem) where
  pub fresh_laws : Laws (fresh_flow p)
  fresh_laws = record {
    apart = λ x v f h lt lt' e. e;
    local = λ ws after u row f b lt (ne, h). (ne, row f b lt h);
    good = λ ws sound i here f b lt (ne, h).
        fresh_further (function_of p) (EdgeOf p) (from p i) (to p i) b (sound (from p i) b h) (is_edge p i here) ne;
  }
