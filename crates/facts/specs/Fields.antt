-- What a problem's numbers satisfy that passed the checks field by field: every operation that goes on with them asks for no more.
use Rattle.std.specs.Prelude.{ℕ, ◌+◌, ◌*◌, ◌≤◌, ◌<◌, ◌≡◌, List, true, get_or}
use Rattle.model.specs.File.{edge_before}
use Rattle.model.specs.Places as places
use Rattle.model.specs.Limits.{first_edition, second_edition, most_bytes, most_cycles, most_check, most_visits}

pub record FieldFacts (l : List ℕ) : Type 0 where
  pub edition_low : first_edition ≤ get_or l places.edition 0
  pub edition_high : get_or l places.edition 0 ≤ second_edition
  pub scratchpad_low : 1 ≤ get_or l places.scratchpad 0
  pub scratchpad_high : get_or l places.scratchpad 0 ≤ most_bytes
  pub some_function : 1 ≤ get_or l places.function_count 0
  pub functions : get_or l places.function_count 0 ≤ places.most_functions
  pub some_vertex : 1 ≤ get_or l places.vertex_count 0
  pub vertices : get_or l places.vertex_count 0 ≤ places.most_vertices
  pub edges : get_or l places.edge_count 0 ≤ places.most_edges
  pub loops : get_or l places.loop_count 0 ≤ places.most_loops
  pub size : (i : ℕ) → i < get_or l places.function_count 0 → (1 ≤ get_or l (places.size + places.function_width * i) 0) × (get_or l (places.size + places.function_width * i) 0 ≤ most_bytes)
  pub load : (i : ℕ) → i < get_or l places.function_count 0 → get_or l (places.load + places.function_width * i) 0 ≤ most_cycles
  pub check : (i : ℕ) → i < get_or l places.function_count 0 → get_or l (places.check + places.function_width * i) 0 ≤ most_check
  pub unchecked : get_or l places.edition 0 ≡ first_edition → (i : ℕ) → i < get_or l places.function_count 0 → get_or l (places.check + places.function_width * i) 0 ≡ 0
  pub function : (i : ℕ) → i < get_or l places.vertex_count 0 → get_or l (places.function + places.vertex_width * i) 0 < get_or l places.function_count 0
  pub cost : (i : ℕ) → i < get_or l places.vertex_count 0 → get_or l (places.cost + places.vertex_width * i) 0 ≤ most_cycles
  pub from : (i : ℕ) → i < get_or l places.edge_count 0 → get_or l (places.from + places.edge_width * i) 0 < get_or l places.vertex_count 0
  pub to : (i : ℕ) → i < get_or l places.edge_count 0 → get_or l (places.to + places.edge_width * i) 0 < get_or l places.vertex_count 0
  pub ascend :
      (i : ℕ) → i + 1 < get_or l places.edge_count 0 →
      edge_before (get_or l (places.from + places.edge_width * i) 0) (get_or l (places.to + places.edge_width * i) 0) (get_or l (places.from + places.edge_width * (i + 1)) 0) (get_or l (places.to + places.edge_width * (i + 1)) 0) ≡ true
  pub header : (i : ℕ) → i < get_or l places.loop_count 0 → get_or l (places.header + places.loop_width * i) 0 ≤ get_or l (places.last + places.loop_width * i) 0
  pub last : (i : ℕ) → i < get_or l places.loop_count 0 → get_or l (places.last + places.loop_width * i) 0 < get_or l places.vertex_count 0
  pub bound_low : (i : ℕ) → i < get_or l places.loop_count 0 → 1 ≤ get_or l (places.bound + places.loop_width * i) 0
  pub bound_high : (i : ℕ) → i < get_or l places.loop_count 0 → get_or l (places.bound + places.loop_width * i) 0 ≤ most_visits
  pub headers : (i : ℕ) → i + 1 < get_or l places.loop_count 0 → get_or l (places.header + places.loop_width * i) 0 < get_or l (places.header + places.loop_width * (i + 1)) 0
