-- What checked numbers say of the loops among them.
use Prim.Native.Nat.{ℕ, ◌≤◌, ◌<◌}
use mathlib.Core.Path.{◌≡◌}
use mathlib.Core.List.{List, Memᴰ}
use native.Mathlib.Omega.{arith}
use lib.ListN.{length}
use Rattle.model.specs.declared.Loop.{Loop}
use Rattle.model.specs.Zero.{zero_loop}
use Rattle.model.specs.Graph.{edge, loop}
use Rattle.model.specs.Operations.{Checked}
use Rattle.model.specs.Places as places
use Rattle.model.proofs.Lists.{mem-get_or}
use Rattle.facts.specs.Fields.{FieldFacts}
use Rattle.lookup.specs.Lists.{vertices_in, edges_in, loops_in}
use Rattle.lookup.proofs.Places as lookup
use Rattle.lookup.proofs.Places.{some_vertex, few_vertices, few_edges, few_loops, from_small, to_small, header_small, last_small}
use Rattle.greatest.proofs.Rules.{Rules, Order}
use Rattle.greatest.proofs.Graph.{EdgeIn, ascend_at, rules, order}
use Rattle.greatest.proofs.Checked.{checked_graph, checked_ranges}

module _ {l : List ℕ} (ok : Checked l) where
  pub facts : FieldFacts l
  facts = lookup.facts l ok

  pub rules_of : Rules (EdgeIn (edges_in l)) (loops_in l)
  rules_of = rules (checked_graph l ok) (checked_ranges l ok)

  pub order_of : Order (EdgeIn (edges_in l)) (loops_in l) (vertices_in l)
  order_of = order (checked_graph l ok) (checked_ranges l ok)

  pub headers_ascend : (i j : ℕ) → i < j → j < length (loops_in l) → (loop (loops_in l) i).header < (loop (loops_in l) j).header
  headers_ascend = ascend_at (loops_in l) (checked_ranges l ok).ascend

  pub wide : (k : Loop) → Memᴰ k (loops_in l) → k.header ≤ k.last
  wide = (checked_ranges l ok).header

  pub loop_in : (i : ℕ) → i < length (loops_in l) → Memᴰ (loop (loops_in l) i) (loops_in l)
  loop_in i below = mem-get_or (loops_in l) i zero_loop below

-- Loop i, with its range given by numbers.
pub record LoopRange (l : List ℕ) (i header last : ℕ) : Type 0 where
  pub checked : Checked l
  pub below : i < length (loops_in l)
  pub at_header : header ≡ (loop (loops_in l) i).header
  pub at_last_lem : last ≡ (loop (loops_in l) i).last

pub loop_range : {l : List ℕ} {i header last : ℕ} → Checked l → i < length (loops_in l)
    → header ≡ (loop (loops_in l) i).header → last ≡ (loop (loops_in l) i).last → LoopRange l i header last
loop_range checked below at_header at_last =
    record { checked = checked; below = below; at_header = at_header; at_last_lem = at_last }

module _ {l : List ℕ} {i header last : ℕ} (range : LoopRange l i header last) where
  pub member : Memᴰ (loop (loops_in l) i) (loops_in l)
  member = loop_in range.checked i range.below

  pub range_wide : header ≤ last
  range_wide = omega (arith, wide range.checked _ member)

  pub range_small : (i < places.most_loops) × (header < places.most_vertices) × (last < places.most_vertices)
  range_small =
      let ok = facts range.checked in (
        omega (arith, few_loops l ok),
        omega (arith, header_small l ok i range.below),
        omega (arith, last_small l ok i range.below),
      )

-- What the checks of functions over checked numbers ask, in the form in which `grind` finds it.
pub few_edges_in : (l : List ℕ) → Checked l → length (edges_in l) ≤ places.most_edges
few_edges_in l ok = few_edges l (facts ok)

pub few_loops_in : (l : List ℕ) → Checked l → length (loops_in l) ≤ places.most_loops
few_loops_in l ok = few_loops l (facts ok)

pub some_vertices_in : (l : List ℕ) → Checked l → 1 ≤ vertices_in l
some_vertices_in l ok = some_vertex l (facts ok)

pub few_vertices_in : (l : List ℕ) → Checked l → vertices_in l ≤ places.most_vertices
few_vertices_in l ok = few_vertices l (facts ok)

pub from_inside : (l : List ℕ) (i : ℕ) → Checked l → i < length (edges_in l) → (edge (edges_in l) i).from < places.most_vertices
from_inside l i ok below = from_small l (facts ok) i below

pub to_inside : (l : List ℕ) (i : ℕ) → Checked l → i < length (edges_in l) → (edge (edges_in l) i).to < places.most_vertices
to_inside l i ok below = to_small l (facts ok) i below

pub header_inside : (l : List ℕ) (i : ℕ) → Checked l → i < length (loops_in l) → (loop (loops_in l) i).header < places.most_vertices
header_inside l i ok below = header_small l (facts ok) i below

pub last_inside : (l : List ℕ) (i : ℕ) → Checked l → i < length (loops_in l) → (loop (loops_in l) i).last < places.most_vertices
last_inside l i ok below = last_small l (facts ok) i below

pub header_first : (l : List ℕ) (i : ℕ) → Checked l → i < length (loops_in l) → (loop (loops_in l) i).header ≤ (loop (loops_in l) i).last
header_first l i ok below = wide ok _ (loop_in ok i below)

pub ruleset checked_bounds = (some_vertices_in, few_vertices_in, few_edges_in, few_loops_in, from_inside, to_inside, header_inside, last_inside, header_first)
