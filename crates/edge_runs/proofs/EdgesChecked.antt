-- A run of edges is judged: where an edge stands between two others, the steps of its two numbers come to one turn of the run.
use Prim.Native.Nat.{ℕ, zero, suc, ◌+◌, ◌*◌, ◌-◌, ◌≤◌, ◌<◌}
use mathlib.Core.Path.{◌≡◌, refl, sym, subst, ◌∙◌}
use mathlib.Core.List.{List}
use native.Mathlib.Omega.{arith}
use native.Mathlib.Numerals.{unary_clauses}
use lib.ListN.{get_or}
use borrow.Author.Tests.{lt-ltb}
use Rattle.model.specs.declared.Field.{Field}
use Rattle.model.specs.Table.{kinds}
use Rattle.model.specs.Spelling.{number_size}
use Rattle.model.specs.File.{edition_in, edge_span, item_start, check_from}
use Rattle.fields.specs.Valid.{Valid, field}
use Rattle.fields.proofs.Steps.{ranged_later}
use Rattle.fields.proofs.OneField.{Passed, check_on}
use Rattle.fields.proofs.Editions.{plainly_sized}
use Rattle.edge_runs.specs.Edges.{Opens, Follows, EdgesChecked}
use Rattle.edge_runs.proofs.Edges.{Between, between, from_ranged, to_ranged, from_ascends, from_next, to_next, ordered, edge_room_lem, opened}
use Rattle.model.specs.Places as places
use Rattle.model.specs.Rows as rows

-- Where an item starts, the start of the item before plays no part.
start_free : (n at start start' q left : ℕ) (l : List ℕ) → check_from n at start (field rows.from q left) l ≡ check_from n at start' (field rows.from q left) l
unfolding check_from item_start kinds
start_free zero at start start' q left l = refl
start_free (suc n) at start start' q left l = refl

one_byte_size : (v : ℕ) → v < 128 → number_size v ≡ 1
unfolding number_size
one_byte_size v h = simp (lt-ltb v 128 h)

module _ (l : List ℕ) (q left : ℕ) where
  abbrev from : ℕ
  from = get_or l q 0

  abbrev to : ℕ
  to = get_or l (q + edge_span) 0

  abbrev pub GoodEdge : Type 0
  GoodEdge = Between l q left from to

  module _ (e : GoodEdge) where
    from_passed : Passed l (field rows.from q left)
    from_passed = record { in_range_lem = from_ranged l q left from e.follows.from_vertex e.few; ascending = from_ascends l q left 0 }

    to_passed : Passed l (field rows.to (q + 1) left)
    to_passed = record { in_range_lem = to_ranged l (q + 1) left to e.follows.to_vertex e.few; ascending = ordered l q left e.late e.follows.order }

    two_checked : (n at start : ℕ) → check_from (suc (suc n)) at start (field rows.from q left) l ≡ check_from n (at + 1 + 1) at (field rows.from (q + 1 + 1) (left - 1)) l
    unfolding item_start kinds
    two_checked n at start =
        let from_size = plainly_sized (edition_in l) (field rows.from q left) (λ q. omega arith) from ∙ one_byte_size from (omega (arith, e.follows.from_vertex, e.few)) in
        let to_size = plainly_sized (edition_in l) (field rows.to (q + 1) left) (λ q. omega arith) to ∙ one_byte_size to (omega (arith, e.follows.to_vertex, e.few)) in
        rw (from_size, from_next l q left from) at (check_on l at start (field rows.from q left) (suc n) (omega arith) from_passed)
        ∙ rw (to_size, to_next l (q + 1) left to e.more) at (check_on l (at + 1) at (field rows.to (q + 1) left) n (omega arith) to_passed)

    two_valid : Valid (field rows.from q left) → Valid (field rows.from (q + 1 + 1) (left - 1))
    two_valid v =
        let half_way = ranged_later v (omega arith) l from from_passed.in_range_lem (sym (from_next l q left from)) in
        (ranged_later half_way.valid (omega arith) l to to_passed.in_range_lem (sym (to_next l (q + 1) left to e.more))).valid

-- A run under way: k edges are judged, and there is room for one more.
pub record Running (l : List ℕ) (vertices : ℕ) (c : Field) (k : ℕ) : Type 0 where
  pub opens : Opens c vertices
  pub here : vertices ≡ get_or l places.vertex_count 0
  pub room : c.place + places.edge_width * k + edge_span < places.end
  pub done : EdgesChecked (field rows.from c.place c.left) l k

pub none_checked : {c : Field} (l : List ℕ) → Valid c → EdgesChecked c l 0
none_checked l v = record { few = omega arith; valid = simp unary_clauses v; same = λ n at start. simp unary_clauses }

running : {l : List ℕ} {vertices : ℕ} {c : Field} {k : ℕ} → Opens c vertices → vertices ≡ get_or l places.vertex_count 0 → EdgesChecked (field rows.from c.place c.left) l k →
    Running l vertices c k
running o here done = record { opens = o; here = here; room = edge_room_lem _ _ done.valid; done = done }

pub started : {c : Field} {l : List ℕ} {vertices : ℕ} → Valid c → Opens c vertices → vertices ≡ get_or l places.vertex_count 0 → Running l vertices c 0
started {c} {l} v o here = running o here (rw (opened o) at (none_checked l v))

pub ended : {l : List ℕ} {vertices : ℕ} {c : Field} {k : ℕ} → Running l vertices c k → EdgesChecked c l k
ended r = rw (opened r.opens) r.done

pub all_checked : {l : List ℕ} {vertices : ℕ} {c : Field} {k : ℕ} → Running l vertices c k → c.left ≤ k → EdgesChecked c l c.left
all_checked {l} {vertices} {c} {k} r done = let all : c.left ≡ k = omega (arith, r.done.few) in subst (EdgesChecked c l) (sym all) (ended r)

pub turn : {l : List ℕ} {vertices : ℕ} {c : Field} {k : ℕ} → Running l vertices c k → k < c.left →
    Follows l (c.place + places.edge_width * k) vertices (get_or l (c.place + places.edge_width * k) 0) (get_or l (c.place + places.edge_width * k + edge_span) 0) → Running l vertices c (k + 1)
turn {l} {vertices} {c} {k} r more follows =
    let q : ℕ = c.place + places.edge_width * k in
    let e : GoodEdge l q (c.left - k) = between (omega (arith, r.opens.late)) (omega arith) r.here r.opens.few follows in
    let i : (at : ℕ) → at + places.edge_width * (k + 1) ≡ at + places.edge_width * k + 1 + 1 = λ at. omega arith in
    let j : c.place + places.edge_width * (k + 1) ≡ q + 1 + 1 = omega arith in
    let h : c.left - (k + 1) ≡ c.left - k - 1 = omega arith in
    let later : (n : ℕ) → n + places.edge_width * (k + 1) ≡ suc (suc n) + places.edge_width * k = λ n. omega arith in
    running r.opens r.here (record {
      few = omega (arith, more);
      valid = rw (j, h) (two_valid l q (c.left - k) e r.done.valid);
      same = λ n at start. rw (later n, i at, j, h)
          (r.done.same (suc (suc n)) at start ∙ two_checked l q (c.left - k) e n (at + places.edge_width * k) start ∙ start_free n _ _ start _ _ _);
    })
