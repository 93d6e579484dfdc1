-- Items stored one behind another among a problem's numbers, as many as there is room for; one more is counted, which tells that there are too many.
use Rattle.std.specs.Prelude.{ℕ, ◌+◌, min, ◌≡◌, length, take}
use mathlib.Core.List.{List, ◌++◌, flat_map}
use Rattle.std.proofs.lemmas.List.Edits.{sets}
use Rattle.model.specs.declared.Edge.{Edge}
use Rattle.model.specs.declared.Loop.{Loop}
use Rattle.model.specs.Places as places
use Rattle.model.specs.Numbers.{edge_numbers, loop_numbers}

-- Room for so many items from a place on, each as its numbers.
module _ {A : Type 0} (most place : ℕ) (numbers : A → List ℕ) where
  pub record Put (before : List ℕ) (items : List A) (after : List ℕ) (count : ℕ) : Type 0 where
    pub count_is : count ≡ min (most + 1) (length items)
    pub stored : after ≡ sets before place (flat_map numbers (take most items))

  -- Whatever was put before, then there is more behind it.
  abbrev pub Adds : List ℕ → ℕ → List A → List ℕ → ℕ → Type 0
  Adds l k more l' k' = (before : List ℕ) (items : List A) → Put before items l k → Put before (items ++ more) l' k'

abbrev pub EdgesPut : List ℕ → List Edge → List ℕ → ℕ → Type 0
EdgesPut = Put places.most_edges places.from edge_numbers

abbrev pub AddsEdges : List ℕ → ℕ → List Edge → List ℕ → ℕ → Type 0
AddsEdges = Adds places.most_edges places.from edge_numbers

abbrev pub LoopsPut : List ℕ → List Loop → List ℕ → ℕ → Type 0
LoopsPut = Put places.most_loops places.header loop_numbers

abbrev pub AddsLoops : List ℕ → ℕ → List Loop → List ℕ → ℕ → Type 0
AddsLoops = Adds places.most_loops places.header loop_numbers

abbrev pub edge : ℕ → ℕ → Edge
edge from to = record { from = from; to = to }

abbrev pub range : ℕ → ℕ → ℕ → Loop
range header last bound = record { header = header; last = last; bound = bound }
