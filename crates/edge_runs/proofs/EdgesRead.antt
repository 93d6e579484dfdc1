-- Edges are read: the steps of the two numbers of an edge between two others come to one turn of a run, however they are spelt.
use Prim.Native.Nat.{ℕ, suc, ◌+◌, ◌*◌, ◌-◌, ◌≤◌, ◌<◌}
use Rattle.std.specs.Prelude.{Ok}
use mathlib.Core.Path.{◌≡◌, refl, sym, ap, subst, ◌∙◌}
use mathlib.Core.List.{List}
use mathlib.Core.Bool.{true}
use native.Mathlib.Omega.{arith}
use native.Mathlib.Numerals.{unary_clauses}
use lib.ListN.{length, get_or, set, length-set}
use lib.Seq.{get_or-set_same, get_or-set_other}
use Rattle.model.specs.declared.Field.{Field}
use Rattle.model.specs.Spelling.{read_number}
use Rattle.model.specs.Table.{kinds, kind, first_kind}
use Rattle.model.specs.File.{number_count, edition_in, edge_span, ascends, item_start, in_range, read_from}
use Rattle.spelling.proofs.Laws.{one_byte}
use Rattle.spelling.proofs.Prefix.{number_ends}
use Rattle.fields.specs.Valid.{Valid, field}
use Rattle.fields.proofs.Steps.{ranged_later}
use Rattle.fields.proofs.OneField.{read_on}
use Rattle.fields.proofs.Editions.{plainly_read}
use Rattle.edge_runs.specs.Edges.{Opens, Follows, Readable, PairsRead, AtItem, ItemTaken, EdgesRead}
use Rattle.edge_runs.proofs.Items.{item_read, none_read, two_runs, one_taken}
use Rattle.edge_runs.proofs.Edges.{Between, between, from_ranged, to_ranged, from_ascends, from_next, to_next, ordered, edge_room_lem, opened}
use Rattle.model.specs.Places as places
use Rattle.model.specs.Rows as rows

from_starts : kind rows.from ≡ first_kind
unfolding kinds
from_starts = refl

-- What the tests of an edge found: its two numbers, spelt from a position on, and that it may stand between two others.
pub record EdgeFound (s l : List ℕ) (pos q left : ℕ) : Type 0 where
  pub from : ℕ
  pub middle : ℕ
  pub from_read : read_number s pos ≡ Ok (from, middle)
  pub to : ℕ
  pub next : ℕ
  pub to_read : read_number s middle ≡ Ok (to, next)
  pub room : q + edge_span < length l
  pub between : Between l q left from to

module _ {s l : List ℕ} {pos q left : ℕ} (e : EdgeFound s l pos q left) where
  abbrev half : List ℕ
  half = set l q e.from

  abbrev pub whole : List ℕ
  whole = set half (q + edge_span) e.to

  kept : (j : ℕ) → j < q → get_or whole j 0 ≡ get_or l j 0
  kept j h = get_or-set_other half (q + edge_span) j e.to 0 (λ k. omega arith) ∙ get_or-set_other l q j e.from 0 (λ k. omega arith)

  vertices : get_or half places.vertex_count 0 ≡ get_or l places.vertex_count 0
  vertices = get_or-set_other l q places.vertex_count e.from 0 (λ k. omega (arith, e.between.late))

  from_good : in_range l (field rows.from q left) e.from ≡ true
  from_good = from_ranged l q left e.from e.between.follows.from_vertex e.between.few

  to_good : in_range half (field rows.to (q + 1) left) e.to ≡ true
  to_good = to_ranged half (q + 1) left e.to (omega (arith, e.between.follows.to_vertex, vertices)) (omega (arith, e.between.few, vertices))

  to_ascends : ascends whole (field rows.to (q + 1) left) ≡ true
  to_ascends =
      let late = e.between.late in
      let from : get_or whole q 0 ≡ e.from = get_or-set_other half (q + 1) q e.to 0 (λ k. omega arith) ∙ get_or-set_same l q e.from 0 (omega (arith, e.room)) in
      let to : get_or whole (q + 1) 0 ≡ e.to = get_or-set_same half (q + 1) e.to 0 (omega (arith, e.room, length-set l q e.from)) in
      ordered whole q left late (rw (kept (q - places.edge_width) (omega arith), kept (q - places.edge_width + edge_span) (omega arith), from, to) e.between.follows.order)

  two_read : (n start : ℕ) → read_from (suc (suc n)) s pos start (field rows.from q left) l ≡ read_from n s e.next pos (field rows.from (q + 1 + 1) (left - 1)) whole
  unfolding item_start kinds
  two_read n start =
      read_on s pos start (field rows.from q left) l (suc n) (omega arith) e.from e.middle (plainly_read (edition_in l) (field rows.from q left) (λ h. omega arith) s pos ∙ e.from_read) from_good (from_ascends half q left 0)
      ∙ ap (λ (d : Field). read_from (suc n) s e.middle pos d half) (from_next l q left e.from)
      ∙ read_on s e.middle pos (field rows.to (q + 1) left) half n (omega arith) e.to e.next (plainly_read (edition_in half) (field rows.to (q + 1) left) (λ h. omega arith) s e.middle ∙ e.to_read) to_good to_ascends
      ∙ ap (λ (d : Field). read_from n s e.next pos d whole) (to_next l (q + 1) left e.to e.between.more)

  two_valid : Valid (field rows.from q left) → Valid (field rows.from (q + 1 + 1) (left - 1))
  two_valid v =
      let half_way = ranged_later v (omega arith) l e.from from_good (sym (from_next l q left e.from)) in
      (ranged_later half_way.valid (omega arith) half e.to to_good (sym (to_next l (q + 1) left e.to e.between.more))).valid

  pub edge_read : Valid (field rows.from q left) → length l ≡ number_count → PairsRead s pos (field rows.from q left) l whole 1 e.next
  edge_read valid long = item_read e.between.more (number_ends _ _ _ _ e.to_read).2 (simp length-set long) from_starts (two_valid valid) two_read

-- An edge of two bytes.
abbrev byte_edge : (s l : List ℕ) (pos q left : ℕ) → q + edge_span < length l → pos + edge_span < length s → Between l q left (get_or s pos 0) (get_or s (pos + edge_span) 0) →
    EdgeFound s l pos q left
byte_edge s l pos q left room bytes between =
    record {
      from = get_or s pos 0;
      middle = pos + edge_span;
      from_read = one_byte s pos (omega arith) (omega (arith, between.follows.from_vertex, between.few));
      to = get_or s (pos + edge_span) 0;
      next = pos + edge_span + 1;
      to_read = one_byte s (pos + edge_span) bytes (omega (arith, between.follows.to_vertex, between.few));
      room = room;
      between = between;
    }

-- A run under way: k edges are read, the numbers are m, and there is room for one more.
pub record Running (s l : List ℕ) (at vertices : ℕ) (c : Field) (m : List ℕ) (k : ℕ) : Type 0 where
  pub opens : Opens c vertices
  pub here : vertices ≡ get_or m places.vertex_count 0
  pub room : c.place + places.edge_width * k + edge_span < places.end
  pub done : EdgesRead s at (field rows.from c.place c.left) l m k

pub no_edge_read : {s : List ℕ} {at : ℕ} {c : Field} {l : List ℕ} → Readable s at c l → EdgesRead s at c l l 0
no_edge_read r = simp unary_clauses (none_read r)

running : {s l : List ℕ} {at vertices : ℕ} {c : Field} {m : List ℕ} {k : ℕ} → Opens c vertices → vertices ≡ get_or m places.vertex_count 0 →
    EdgesRead s at (field rows.from c.place c.left) l m k → Running s l at vertices c m k
running o here done = record { opens = o; here = here; room = edge_room_lem _ _ done.valid; done = done }

pub started : {s : List ℕ} {at : ℕ} {c : Field} {l : List ℕ} {vertices : ℕ} → Readable s at c l → Opens c vertices → vertices ≡ get_or l places.vertex_count 0 →
    Running s l at vertices c l 0
started {s} {at} {c} {l} r o here = running o here (rw (opened o) at (no_edge_read r))

module _ {s l : List ℕ} {at vertices : ℕ} {c : Field} {m : List ℕ} {k : ℕ} (r : Running s l at vertices c m k) where
  pub ended : EdgesRead s at c l m k
  ended = rw (opened r.opens) r.done

  pub all_read : c.left ≤ k → EdgesRead s at c l m c.left
  all_read done = let all : c.left ≡ k = omega (arith, r.done.few) in subst (EdgesRead s at c l m) (sym all) ended

  module _ (bytes : at + places.edge_width * k + edge_span < length s) (more : k < c.left)
      (follows : Follows m (c.place + places.edge_width * k) vertices (get_or s (at + places.edge_width * k) 0) (get_or s (at + places.edge_width * k + edge_span) 0)) where
    abbrev found : EdgeFound s m (at + places.edge_width * k) (c.place + places.edge_width * k) (c.left - k)
    found =
        byte_edge s m _ _ _ (omega (arith, r.room, r.done.long)) bytes
        (between (omega (arith, r.opens.late)) (omega (arith, more)) r.here r.opens.few follows)

    pub turn : Running s l at vertices c (whole found) (k + 1)
    turn =
        let end : at + places.edge_width * (k + 1) ≡ at + places.edge_width * k + edge_span + 1 = omega arith in
        running r.opens (r.here ∙ sym (kept found places.vertex_count (omega (arith, r.opens.late))))
        (rw end (two_runs r.done (edge_read found r.done.valid r.done.long)))

-- The edge at a field where a run may start.
module _ {s : List ℕ} {at : ℕ} {c : Field} {l : List ℕ} {vertices : ℕ} (r : AtItem s at c l) (o : Opens c vertices) where
  here_valid : Valid (field rows.from c.place c.left)
  here_valid = rw (opened o) at r.readable.valid

  pub edge_fits : c.place + edge_span < places.end
  edge_fits = edge_room_lem c.place c.left here_valid

  module _ (here : vertices ≡ get_or l places.vertex_count 0) (from middle to next : ℕ) (from_read : read_number s at ≡ Ok (from, middle))
      (to_read : read_number s middle ≡ Ok (to, next)) (follows : Follows l c.place vertices from to) where
    abbrev spelt : EdgeFound s l at c.place c.left
    spelt =
        record {
          from = from;
          middle = middle;
          from_read = from_read;
          to = to;
          next = next;
          to_read = to_read;
          room = omega (arith, edge_fits, r.readable.long);
          between = between o.late r.more here o.few follows;
        }

    pub edge_taken : ItemTaken s at c l (whole spelt) next
    edge_taken = one_taken (omega (arith, number_ends s middle to next to_read)) (rw (opened o) (edge_read spelt here_valid r.readable.long))
