-- What the first stages of a drawing's checks leave to the next: the counts in their limits.
use Prim.Native.Nat.{ℕ}
use Rattle.std.specs.Prelude.{Ok}
use mathlib.Core.Path.{◌≡◌}
use mathlib.Core.List.{List}
use native.Mathlib.Omega.{arith}
use Rattle.model.specs.Inlined.{judge_head, judge_graphs}
use Rattle.drawings.proofs.Numbers.{vertices_are}
use Rattle.drawings.proofs.Opened.{few_functions, graph_checked}
use Rattle.drawn_calls.specs.Counts.{Countable}

module _ (d : List ℕ) (head : judge_head d ≡ Ok tt) where
  pub countable : judge_graphs d ≡ Ok tt → Countable d
  countable graphs =
      record {
        functions = few_functions d head;
        some_vertex = λ f below. omega (arith, (graph_checked d graphs f below).fields.some_vertex, vertices_are d f);
        vertices = λ f below. omega (arith, (graph_checked d graphs f below).fields.vertices, vertices_are d f);
      }
