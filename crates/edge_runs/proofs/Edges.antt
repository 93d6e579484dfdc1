-- An edge between two others of its list, whose numbers are in range and ascend: what the steps of its two numbers find.
use Prim.Native.Nat.{ℕ, ◌+◌, ◌-◌, ◌≤◌, ◌<◌}
use mathlib.Core.Path.{◌≡◌, refl, sym, ap}
use mathlib.Core.List.{List}
use mathlib.Core.Bool.{Bool, true}
use native.Mathlib.Omega.{arith}
use lib.ListN.{get_or}
use lib.Dec.{eqb}
use borrow.Author.Tests.{le-leb, lt-ltb, ne_eqb}
use Rattle.model.specs.declared.Field.{Field}
use Rattle.model.specs.Table.{limits, bases, kinds, jumps, counts}
use Rattle.model.specs.File.{next_field, after_item, unwritten, below_count, from_header, zero_unwritten, in_range, edge_before, edge_span, ascends}
use Rattle.model.proofs.Cases.{by_cond}
use Rattle.fields.specs.Valid.{Valid, field}
use Rattle.fields.proofs.Laws.{edge_ascends}
use Rattle.fields.proofs.Steps.{placed, next_later}
use Rattle.edge_runs.specs.Edges.{second_edge, Opens, Follows}
use Rattle.model.specs.Places as places
use Rattle.model.specs.Rows as rows

module _ (l : List ℕ) (q left v : ℕ) where
  module _ (h : v < get_or l places.vertex_count 0) (few : get_or l places.vertex_count 0 ≤ places.most_vertices) where
    pub from_ranged : in_range l (field rows.from q left) v ≡ true
    unfolding in_range below_count from_header zero_unwritten unwritten limits counts
    from_ranged = simp (le-leb 0 v (omega arith), le-leb v (places.most_vertices - 1) (omega arith), lt-ltb v (get_or l places.vertex_count 0) h)

    pub to_ranged : in_range l (field rows.to q left) v ≡ true
    unfolding in_range below_count from_header zero_unwritten unwritten limits counts
    to_ranged = simp (le-leb 0 v (omega arith), le-leb v (places.most_vertices - 1) (omega arith), lt-ltb v (get_or l places.vertex_count 0) h)

  pub from_ascends : ascends l (field rows.from q left) ≡ true
  unfolding ascends bases
  from_ascends = by_cond (λ (b : Bool). b ≡ true) (eqb q places.from) (λ e. refl) (λ e. refl)

  pub from_next : next_field (field rows.from q left) v ≡ field rows.to (q + 1) left
  unfolding next_field kinds
  from_next = refl

  pub to_next : 0 < left → next_field (field rows.to q left) v ≡ field rows.from (q + 1) (left - 1)
  unfolding next_field after_item kinds jumps
  to_next h = simp (ne_eqb left 0 (λ e. omega arith))

-- An edge between two others.
pub record Between (l : List ℕ) (q left from to : ℕ) : Type 0 where
  pub late : second_edge ≤ q
  pub more : 0 < left
  pub few : get_or l places.vertex_count 0 ≤ places.most_vertices
  pub follows : Follows l q (get_or l places.vertex_count 0) from to

pub between : {l : List ℕ} {q left vertices from to : ℕ} → second_edge ≤ q → 0 < left → vertices ≡ get_or l places.vertex_count 0 → vertices ≤ places.most_vertices →
    Follows l q vertices from to → Between l q left from to
between late more here few follows = record { late = late; more = more; few = rw here at few; follows = rw here at follows }

pub ordered : (l : List ℕ) (q left : ℕ) → second_edge ≤ q →
    edge_before (get_or l (q - places.edge_width) 0) (get_or l (q - places.edge_width + edge_span) 0) (get_or l q 0) (get_or l (q + 1) 0) ≡ true →
    ascends l (field rows.to (q + 1) left) ≡ true
unfolding bases
ordered l q left late order =
    let a : q + 1 - (places.edge_width + edge_span) ≡ q - places.edge_width = omega arith in
    let b : q + 1 - places.edge_width ≡ q - places.edge_width + edge_span = omega arith in
    let c : q + 1 - edge_span ≡ q = omega arith in
    sym (edge_ascends l (field rows.to (q + 1) left) places.to refl (λ k. omega arith) refl true (sym (rw (a, b, c) order)))

pub edge_room_lem : (q left : ℕ) → Valid (field rows.from q left) → q + edge_span < places.end
unfolding next_field kinds
edge_room_lem q left v = (placed (next_later v 0 (omega arith) (omega arith)).valid (omega arith)).place

pub opened : {c : Field} {vertices : ℕ} → Opens c vertices → c ≡ field rows.from c.place c.left
opened {c} o = ap (λ (row : ℕ). field row c.place c.left) o.row
