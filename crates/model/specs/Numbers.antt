-- The problem file: a problem as its numbers in file order, at the places that `bases` of Table names, and back; and which edition is written.
use Rattle.std.specs.Prelude.{ℕ, zero, suc, ◌+◌, ◌*◌, ◌≡◌, Bool, cond, length, get_or, ltb}
use mathlib.Core.List.{List, [], ◌∷◌, ◌++◌, flat_map}
use Rattle.model.specs.declared.Function.{Function}
use Rattle.model.specs.declared.Vertex.{Vertex}
use Rattle.model.specs.declared.Edge.{Edge}
use Rattle.model.specs.declared.Loop.{Loop}
use Rattle.model.specs.declared.Problem.{Problem}
use Rattle.model.specs.Zero.{bytes, cycles, zero_function}
use Rattle.model.specs.Limits.{first_edition, second_edition}
use Rattle.model.specs.Search.{exists_below}
use Rattle.model.specs.Graph.{functions_of}
use Rattle.model.specs.Places as places

abbrev pub function_numbers : Function → List ℕ
function_numbers f = f.size.0 ∷ f.load.0 ∷ f.check.0 ∷ []

abbrev pub vertex_numbers : Vertex → List ℕ
vertex_numbers v = v.function ∷ v.cost.0 ∷ []

abbrev pub edge_numbers : Edge → List ℕ
edge_numbers e = e.from ∷ e.to ∷ []

abbrev pub loop_numbers : Loop → List ℕ
loop_numbers l = l.header ∷ l.last ∷ l.bound ∷ []

-- In a file of an edition, which is no part of the problem.
unfoldable pub numbers_in : ℕ → Problem → List ℕ
numbers_in edition p =
    edition ∷ p.scratchpad.0
    ∷ p.function_count ∷ flat_map function_numbers p.functions
    ++ (p.vertex_count ∷ flat_map vertex_numbers p.vertices
    ++ (p.edge_count ∷ flat_map edge_numbers p.edges
    ++ (p.loop_count ∷ flat_map loop_numbers p.loops)))

-- The edition that is written (9/14): 2 if a function has a check cost above 0, else 1.
unfoldable pub some_check : List Function → Bool
some_check fs = exists_below (length fs) (λ f. ltb 0 (get_or fs f zero_function).check.0)

unfoldable pub edition_of : Problem → ℕ
edition_of p = cond (some_check (functions_of p)) second_edition first_edition

abbrev pub numbers_of : Problem → List ℕ
numbers_of p = numbers_in (edition_of p) p

-- The values of a function at 0, 1, .., n - 1.
unfoldable pub table_from : {A : Type 0} → ℕ → ℕ → (ℕ → A) → List A
table_from zero i f = []
table_from (suc n) i f = f i ∷ table_from n (i + 1) f

abbrev pub table : {A : Type 0} → ℕ → (ℕ → A) → List A
table n f = table_from n 0 f

-- A list in n places, the spare ones zero.
abbrev pub in_places : {A : Type 0} → ℕ → A → List A → List A
in_places n spare s = table n (λ i. get_or s i spare)

module _ (l : List ℕ) where
  abbrev pub function_at : ℕ → Function
  function_at i =
      record {
        size = bytes (get_or l (places.size + places.function_width * i) 0);
        load = cycles (get_or l (places.load + places.function_width * i) 0);
        check = cycles (get_or l (places.check + places.function_width * i) 0);
      }

  abbrev pub vertex_at : ℕ → Vertex
  vertex_at i = record { function = get_or l (places.function + places.vertex_width * i) 0; cost = cycles (get_or l (places.cost + places.vertex_width * i) 0) }

  abbrev pub edge_at : ℕ → Edge
  edge_at i = record { from = get_or l (places.from + places.edge_width * i) 0; to = get_or l (places.to + places.edge_width * i) 0 }

  abbrev pub loop_at : ℕ → Loop
  loop_at i = record { header = get_or l (places.header + places.loop_width * i) 0; last = get_or l (places.last + places.loop_width * i) 0; bound = get_or l (places.bound + places.loop_width * i) 0 }

  unfoldable pub problem_of : Problem
  problem_of =
      record {
        scratchpad = bytes (get_or l places.scratchpad 0);
        function_count = get_or l places.function_count 0;
        functions = table places.most_functions function_at;
        vertex_count = get_or l places.vertex_count 0;
        vertices = table places.most_vertices vertex_at;
        edge_count = get_or l places.edge_count 0;
        edges = table places.most_edges edge_at;
        loop_count = get_or l places.loop_count 0;
        loops = table places.most_loops loop_at;
      }

-- A problem's arrays have their lengths: true of every value of the type, and told to the laws that need it.
pub record Sized (p : Problem) : Type 0 where
  pub functions : length p.functions ≡ places.most_functions
  pub vertices : length p.vertices ≡ places.most_vertices
  pub edges : length p.edges ≡ places.most_edges
  pub loops : length p.loops ≡ places.most_loops
