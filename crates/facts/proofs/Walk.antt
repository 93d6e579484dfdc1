-- Every field that good numbers have, reached in file order.
use Prim.Native.Nat.{ℕ, ◌+◌, ◌-◌, ◌*◌, ◌≤◌, ◌<◌}
use mathlib.Core.Path.{refl}
use mathlib.Core.List.{List}
use native.Mathlib.Omega.{arith}
use lib.ListN.{get_or}
use Rattle.model.specs.declared.Field.{Field}
use Rattle.model.specs.Table.{limits, bases, kinds}
use Rattle.model.specs.File.{next_field}
use Rattle.fields.specs.Valid.{field}
use Rattle.fields.proofs.OneField.{Passed}
use Rattle.facts.proofs.Good.{GoodNumbers}
use Rattle.facts.proofs.Passed.{in_limits_lem}
use Rattle.facts.proofs.Reach.{Reached, first, passed, step}
use Rattle.facts.proofs.Items.{beside, item, following}
use Rattle.facts.proofs.Lists as lists
use Rattle.model.specs.Places as places
use Rattle.model.specs.Rows as rows

-- The j-th number of item i of a list with that count: the count's row and place, and how many numbers an item has.
abbrev pub spot : ℕ → ℕ → ℕ → ℕ → ℕ → ℕ → Field
spot row place width count i j = field (row + 1 + j) (place + 1 + width * i + j) (count - 1 - i)

-- The checks at every number of every item.
abbrev pub Items : List ℕ → ℕ → ℕ → ℕ → ℕ → Type 0
Items l row place width count = (i j : ℕ) → i < count → j < width → Passed l (spot row place width count i j)

module _ (l : List ℕ) (good : GoodNumbers l) where
  pub edition : Reached l (field rows.edition places.edition 0)
  edition = first l good

  pub scratchpad : Reached l (field rows.scratchpad places.scratchpad 0)
  unfolding next_field kinds
  scratchpad = step l refl edition (omega arith) (beside l _ _ (lists.single l places.edition (omega arith)) refl)

  pub functions : Reached l (field rows.function_count places.function_count 0)
  unfolding next_field kinds
  functions = step l refl scratchpad (omega arith) (beside l _ _ (lists.single l places.scratchpad (omega arith)) refl)

  pub few_functions : get_or l places.function_count 0 ≤ places.most_functions
  unfolding limits
  few_functions = (in_limits_lem l places.function_count refl (passed l functions (omega arith))).1

  pub function_items : Items l rows.function_count places.function_count places.function_width (get_or l places.function_count 0)
  unfolding bases
  function_items = item l rows.function_count places.function_width (lists.functions l) functions

  pub vertices : Reached l (field rows.vertex_count places.vertex_count 0)
  unfolding bases
  vertices = following l rows.function_count places.function_width (lists.functions l) functions

  pub few_vertices : get_or l places.vertex_count 0 ≤ places.most_vertices
  unfolding limits
  few_vertices = (in_limits_lem l places.vertex_count refl (passed l vertices (omega arith))).1

  pub vertex_items : Items l rows.vertex_count places.vertex_count places.vertex_width (get_or l places.vertex_count 0)
  unfolding bases
  vertex_items = item l rows.vertex_count places.vertex_width (lists.vertices l few_functions) vertices

  pub edges : Reached l (field rows.edge_count places.edge_count 0)
  unfolding bases
  edges = following l rows.vertex_count places.vertex_width (lists.vertices l few_functions) vertices

  pub few_edges : get_or l places.edge_count 0 ≤ places.most_edges
  unfolding limits
  few_edges = (in_limits_lem l places.edge_count refl (passed l edges (omega arith))).1

  pub edge_items : Items l rows.edge_count places.edge_count places.edge_width (get_or l places.edge_count 0)
  unfolding bases
  edge_items = item l rows.edge_count places.edge_width (lists.edges l few_functions few_vertices) edges

  pub loops : Reached l (field rows.loop_count places.loop_count 0)
  unfolding bases
  loops = following l rows.edge_count places.edge_width (lists.edges l few_functions few_vertices) edges

  pub loop_items : Items l rows.loop_count places.loop_count places.loop_width (get_or l places.loop_count 0)
  unfolding bases
  loop_items = item l rows.loop_count places.loop_width (lists.loops l few_functions few_vertices few_edges) loops

  pub finish : Reached l (field rows.end places.end 0)
  unfolding bases
  finish = following l rows.loop_count places.loop_width (lists.loops l few_functions few_vertices few_edges) loops
