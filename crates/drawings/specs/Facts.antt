-- What a drawing satisfies that passed 3, 4, 6 to 9 and 20: every step that goes on with it asks for no more.
use Rattle.std.specs.Prelude.{ℕ, ◌+◌, ◌-◌, ◌≤◌, ◌<◌, ◌≡◌, List, true, Some, None}
use Rattle.model.specs.Places as places
use Rattle.model.specs.Limits.{most_bytes, most_cycles, most_check, most_visits}
use Rattle.model.specs.File.{edge_before}
use Rattle.model.specs.Drawings.{drawn_scratchpad, drawn_functions, drawn_count, drawn_edges, drawn_loops, called_by, drawn_function, drawn_vertex, drawn_edge, drawn_loop}

-- Function f's numbers.
pub record DrawnFacts (d : List ℕ) (f : ℕ) : Type 0 where
  pub size_low : 1 ≤ (drawn_function d f).size.0
  pub size_high : (drawn_function d f).size.0 ≤ most_bytes
  pub load : (drawn_function d f).load.0 ≤ most_cycles
  pub check : (drawn_function d f).check.0 ≤ most_check
  pub some_vertex : 1 ≤ drawn_count d f
  pub vertices : drawn_count d f ≤ places.most_vertices
  pub edges : drawn_edges d f ≤ places.most_edges
  pub loops : drawn_loops d f ≤ places.most_loops
  pub known : (v g : ℕ) → v < drawn_count d f → called_by d f v ≡ Some g → g < drawn_functions d
  pub cost : (v : ℕ) → v < drawn_count d f → (drawn_vertex d f v).cost.0 ≤ most_cycles
  pub from : (i : ℕ) → i < drawn_edges d f → (drawn_edge d f i).from < drawn_count d f
  pub to : (i : ℕ) → i < drawn_edges d f → (drawn_edge d f i).to < drawn_count d f
  pub ascend :
      (i : ℕ) → i + 1 < drawn_edges d f →
      edge_before (drawn_edge d f i).from (drawn_edge d f i).to (drawn_edge d f (i + 1)).from (drawn_edge d f (i + 1)).to ≡ true
  pub header : (i : ℕ) → i < drawn_loops d f → (drawn_loop d f i).header ≤ (drawn_loop d f i).last
  pub last : (i : ℕ) → i < drawn_loops d f → (drawn_loop d f i).last + 1 < drawn_count d f
  pub bound_low : (i : ℕ) → i < drawn_loops d f → 1 ≤ (drawn_loop d f i).bound
  pub bound_high : (i : ℕ) → i < drawn_loops d f → (drawn_loop d f i).bound ≤ most_visits
  pub headers : (i : ℕ) → i + 1 < drawn_loops d f → (drawn_loop d f i).header < (drawn_loop d f (i + 1)).header
  -- 20: the last vertex calls nothing.
  pub quiet : called_by d f (drawn_count d f - 1) ≡ None

pub record DrawingFacts (d : List ℕ) : Type 0 where
  pub scratchpad_low : 1 ≤ drawn_scratchpad d
  pub scratchpad_high : drawn_scratchpad d ≤ most_bytes
  pub some_function : 1 ≤ drawn_functions d
  pub functions : drawn_functions d ≤ places.most_functions
  pub drawn : (f : ℕ) → f < drawn_functions d → DrawnFacts d f
