-- What good numbers satisfy.
use Prim.Native.Nat.{ℕ, ◌+◌, ◌*◌}
use Rattle.std.specs.Prelude.{Ok}
use mathlib.Core.Path.{◌≡◌, refl}
use mathlib.Core.List.{List}
use native.Mathlib.Omega.{arith}
use Rattle.model.specs.Table.{limits, bases, counts}
use Rattle.model.specs.File.{check_fields}
use Rattle.fields.proofs.Editions.{first_unwritten}
use Rattle.facts.specs.Fields.{FieldFacts}
use Rattle.facts.proofs.Good.{GoodNumbers}
use Rattle.facts.proofs.Judging.{checked_good}
use Rattle.facts.proofs.Passed.{in_limits_lem, in_count, not_below_header, unwritten_zero, edge_order, header_order}
use Rattle.facts.proofs.Reach.{passed}
use Rattle.facts.proofs.Walk as walk
use Rattle.model.specs.Places as places

module _ (l : List ℕ) (good : GoodNumbers l) where
  pub good_facts : FieldFacts l
  unfolding limits bases counts
  good_facts =
      let functions = walk.function_items l good in
      let vertices = walk.vertex_items l good in
      let edges = walk.edge_items l good in
      let loops = walk.loop_items l good in
      let edition = in_limits_lem l places.edition refl (passed l (walk.edition l good) (omega arith)) in
      let scratchpad = in_limits_lem l places.scratchpad refl (passed l (walk.scratchpad l good) (omega arith)) in
      record {
        edition_low = edition.0;
        edition_high = edition.1;
        scratchpad_low = scratchpad.0;
        scratchpad_high = scratchpad.1;
        some_function = (in_limits_lem l places.function_count refl (passed l (walk.functions l good) (omega arith))).0;
        functions = walk.few_functions l good;
        some_vertex = (in_limits_lem l places.vertex_count refl (passed l (walk.vertices l good) (omega arith))).0;
        vertices = walk.few_vertices l good;
        edges = walk.few_edges l good;
        loops = (in_limits_lem l places.loop_count refl (passed l (walk.loops l good) (omega arith))).1;
        size = λ i h. in_limits_lem l (places.size + places.function_width * i) (omega arith) (functions i 0 h (omega arith));
        load = λ i h. (in_limits_lem l (places.load + places.function_width * i) (omega arith) (functions i 1 h (omega arith))).1;
        check = λ i h. (in_limits_lem l (places.check + places.function_width * i) (omega arith) (functions i 2 h (omega arith))).1;
        unchecked = λ first i h. unwritten_zero l (places.check + places.function_width * i) (omega arith) (functions i 2 h (omega arith)) (first_unwritten _ _ refl first);
        function = λ i h. in_count l (places.function + places.vertex_width * i) (omega arith) (vertices i 0 h (omega arith)) places.function_count refl (omega arith);
        cost = λ i h. (in_limits_lem l (places.cost + places.vertex_width * i) (omega arith) (vertices i 1 h (omega arith))).1;
        from = λ i h. in_count l (places.from + places.edge_width * i) (omega arith) (edges i 0 h (omega arith)) places.vertex_count refl (omega arith);
        to = λ i h. in_count l (places.to + places.edge_width * i) (omega arith) (edges i 1 h (omega arith)) places.vertex_count refl (omega arith);
        ascend = λ i h.
            edge_order l (places.to + places.edge_width * (i + 1)) (omega arith) (edges (i + 1) 1 h (omega arith)) (omega arith)
            (places.from + places.edge_width * i) (places.to + places.edge_width * i) (places.from + places.edge_width * (i + 1))
            refl (omega arith) (omega arith) (omega arith);
        header = λ i h. not_below_header l (places.last + places.loop_width * i) (omega arith) (loops i 1 h (omega arith)) (places.header + places.loop_width * i) refl (omega arith);
        last = λ i h. in_count l (places.last + places.loop_width * i) (omega arith) (loops i 1 h (omega arith)) places.vertex_count refl (omega arith);
        bound_low = λ i h. (in_limits_lem l (places.bound + places.loop_width * i) (omega arith) (loops i 2 h (omega arith))).0;
        bound_high = λ i h. (in_limits_lem l (places.bound + places.loop_width * i) (omega arith) (loops i 2 h (omega arith))).1;
        headers = λ i h.
            header_order l (places.bound + places.loop_width * (i + 1)) (omega arith) (loops (i + 1) 2 h (omega arith)) (omega arith)
            (places.header + places.loop_width * i) (places.header + places.loop_width * (i + 1))
            refl (omega arith) (omega arith);
      }

-- The same of numbers that pass the checks of writing.
pub field_facts : (l : List ℕ) (end : ℕ) → check_fields l ≡ Ok end → FieldFacts l
field_facts l end ok = good_facts l (checked_good l end ok)
