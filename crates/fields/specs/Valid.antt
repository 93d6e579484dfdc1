-- The fields that a file can have: for each row of the field table, the places of its numbers and how many items may still follow.
use Rattle.std.specs.Prelude.{ℕ, ◌+◌, ◌*◌, ◌≤◌, ◌<◌}
use Rattle.model.specs.declared.Field.{Field}
use Rattle.model.specs.Table.{base}
use Rattle.model.specs.Places as places
use Rattle.model.specs.Rows as rows

abbrev pub field : ℕ → ℕ → ℕ → Field
field row place left = record { row = row; place = place; left = left }

pub data Valid : Field → Type 0 where
  edition : Valid (field rows.edition places.edition 0)
  scratchpad : Valid (field rows.scratchpad places.scratchpad 0)
  functions : Valid (field rows.function_count places.function_count 0)
  size : (i left : ℕ) → i + left < places.most_functions → Valid (field rows.size (places.size + places.function_width * i) left)
  load : (i left : ℕ) → i + left < places.most_functions → Valid (field rows.load (places.load + places.function_width * i) left)
  check : (i left : ℕ) → i + left < places.most_functions → Valid (field rows.check (places.check + places.function_width * i) left)
  vertices : Valid (field rows.vertex_count places.vertex_count 0)
  function : (i left : ℕ) → i + left < places.most_vertices → Valid (field rows.function (places.function + places.vertex_width * i) left)
  cost : (i left : ℕ) → i + left < places.most_vertices → Valid (field rows.cost (places.cost + places.vertex_width * i) left)
  edges : Valid (field rows.edge_count places.edge_count 0)
  from : (i left : ℕ) → i + left < places.most_edges → Valid (field rows.from (places.from + places.edge_width * i) left)
  to : (i left : ℕ) → i + left < places.most_edges → Valid (field rows.to (places.to + places.edge_width * i) left)
  loops : Valid (field rows.loop_count places.loop_count 0)
  header : (i left : ℕ) → i + left < places.most_loops → Valid (field rows.header (places.header + places.loop_width * i) left)
  last : (i left : ℕ) → i + left < places.most_loops → Valid (field rows.last (places.last + places.loop_width * i) left)
  bound : (i left : ℕ) → i + left < places.most_loops → Valid (field rows.bound (places.bound + places.loop_width * i) left)
  end : Valid (field rows.end places.end 0)

-- What the functions on a field ask of it.
pub record Placed (c : Field) : Type 0 where
  pub row : c.row < rows.end
  pub place : c.place < places.end
  pub above : base c.row ≤ c.place
