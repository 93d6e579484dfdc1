-- The problem file, field by field: reading it into a problem's numbers, judging numbers as they would be written, and its bytes.
use Rattle.std.specs.Prelude.{ℕ, zero, suc, ◌+◌, ◌*◌, ◌-◌, List, [], ◌++◌, Bool, true, cond, not, ◌&&◌, ◌||◌, length, get_or, set, replicate, eqb, ltb, leb, Err, Ok, Result}
use Rattle.model.specs.declared.Refusal.{Refusal}
use Rattle.model.specs.declared.Misread.{Misread}
use Rattle.model.specs.declared.Misread.TheVariants.{Ended, Misspelt}
use Rattle.model.specs.declared.Refusal.TheVariants as refusal
use Rattle.model.specs.declared.Field.{Field}
use Rattle.model.specs.Spelling.{most_groups, read_number, number_size, number_bytes}
use Rattle.model.specs.Limits.{first_edition}
use Rattle.model.specs.Numbers.{table}
use Rattle.model.specs.Table.{least, greatest, base, kind, jump, count_over, count_kind, first_kind, last_kind}
use Rattle.model.specs.Places as places
use Rattle.model.specs.Rows as rows

-- The most numbers that a file has.
abbrev pub number_count : ℕ
number_count = places.end

-- Read looks at no byte from here on: a number takes at most five bytes.
abbrev pub read_length : ℕ
read_length = most_groups * number_count + 1

-- The file's first field: the edition.
abbrev pub first_field : Field
first_field = record { row = rows.edition; place = places.edition; left = 0 }

abbrev pub at_end : Field → Bool
at_end c = leb rows.end c.row

-- Where a row begins.
abbrev pub row_start : ℕ → Field
row_start row = record { row = row; place = base row; left = 0 }

-- A count opens its list, or passes it by where it is 0.
unfoldable pub after_count : Field → ℕ → Field
after_count c v = cond (eqb v 0) (row_start (jump c.row)) (record { row = c.row + 1; place = c.place + 1; left = v - 1 })

-- An item's last number leads to the next item, or past its list.
unfoldable pub after_item : Field → Field
after_item c =
    cond (eqb c.left 0) (row_start (c.row + 1)) (record { row = jump c.row; place = c.place + 1; left = c.left - 1 })

-- The field after c, at which v stands.
unfoldable pub next_field : Field → ℕ → Field
next_field c v =
    cond (eqb (kind c.row) count_kind) (after_count c v)
    (cond (eqb (kind c.row) last_kind) (after_item c)
    (record { row = c.row + 1; place = c.place + 1; left = c.left }))

-- The edition is a matter of spelling (9/14): an edition 1 file has no byte for a check cost, which is 0 then.
unfoldable pub unwritten : ℕ → Field → Bool
unwritten edition c = eqb c.row rows.check && eqb edition first_edition

-- The number at a field, read at a position, with the position after it; how many bytes its shortest spelling takes, and that spelling.
unfoldable pub read_field : ℕ → List ℕ → ℕ → Field → Result (ℕ × ℕ) Misread
read_field edition s at c = cond (unwritten edition c) (Ok (0, at)) (read_number s at)

unfoldable pub field_size : ℕ → Field → ℕ → ℕ
field_size edition c v = cond (unwritten edition c) 0 (number_size v)

unfoldable pub field_bytes : ℕ → Field → ℕ → List ℕ
field_bytes edition c v = cond (unwritten edition c) [] (number_bytes v)

-- The edition of the numbers l: their first.
abbrev pub edition_in : List ℕ → ℕ
edition_in l = get_or l places.edition 0

-- Where a count read earlier narrows the row: v stays below it.
unfoldable pub below_count : List ℕ → ℕ → ℕ → Bool
below_count l row v = eqb (count_over row) 0 || ltb v (get_or l (count_over row) 0)

-- A loop's last vertex is not below its header.
unfoldable pub from_header : List ℕ → Field → ℕ → Bool
from_header l c v = not (eqb c.row rows.last) || leb (get_or l (c.place - (places.last - places.header)) 0) v

-- What is not written is 0.
unfoldable pub zero_unwritten : List ℕ → Field → ℕ → Bool
zero_unwritten l c v = not (unwritten (edition_in l) c) || eqb v 0

-- Whether v may stand at c, where l has the numbers before it.
unfoldable pub in_range : List ℕ → Field → ℕ → Bool
in_range l c v = leb (least c.row) v && (leb v (greatest c.row) && (below_count l c.row v && (from_header l c v && zero_unwritten l c v)))

-- Edges ascend strictly by (from, to).
unfoldable pub edge_before : ℕ → ℕ → ℕ → ℕ → Bool
edge_before from to from' to' = ltb from from' || (eqb from from' && ltb to to')

-- How far behind an item's first number its last stands.
abbrev pub edge_span : ℕ
edge_span = places.to - places.from

abbrev pub loop_span : ℕ
loop_span = places.bound - places.header

-- Whether the item whose last number stands at c may follow the item before it. Edges ascend, loops ascend by header; other items have no order.
unfoldable pub ascends : List ℕ → Field → Bool
ascends l c =
    cond (eqb c.place (base c.row)) true
    (cond (eqb c.row rows.to)
    (edge_before (get_or l (c.place - (places.edge_width + edge_span)) 0) (get_or l (c.place - places.edge_width) 0) (get_or l (c.place - edge_span) 0) (get_or l c.place 0))
    (cond (eqb c.row rows.bound) (ltb (get_or l (c.place - (places.loop_width + loop_span)) 0) (get_or l (c.place - loop_span) 0)) true))

-- Where the item that c belongs to starts, if c stands at a position and `start` was said of the field before.
unfoldable pub item_start : Field → ℕ → ℕ → ℕ
item_start c at start = cond (eqb (kind c.row) first_kind) at start

-- What reading the fields leaves: the answer, and the numbers as far as they were read.
pub record Scan : Type 0 where
  pub answer : Result ℕ Refusal
  pub numbers : List ℕ

abbrev pub scanned : Result ℕ Refusal → List ℕ → Scan
scanned a l = record { answer = a; numbers = l }

-- 1, the bytes end before a number does; 2, a misspelt number; or what is done with the number.
abbrev pub on_number : Result (ℕ × ℕ) Misread → ℕ → ℕ → List ℕ → (ℕ → ℕ → Scan) → Scan
on_number (Ok (v, next)) size at l go = go v next
on_number (Err Ended) size at l go = scanned (Err (refusal.EndsEarly size)) l
on_number (Err Misspelt) size at l go = scanned (Err (refusal.Misspelt at)) l

-- Reads from the field c on, at most n fields, at a position of the bytes s, into the numbers l. 3, out of range; after an item's last number 4, not ascending.
unfoldable pub read_from : ℕ → List ℕ → ℕ → ℕ → Field → List ℕ → Scan
read_from zero s at start c l = scanned (Ok at) l
read_from (suc n) s at start c l =
    cond (at_end c) (scanned (Ok at) l)
    (on_number (read_field (edition_in l) s at c) (length s) at l (λ v next.
    cond (in_range l c v)
    (cond (ascends (set l c.place v) c)
    (read_from n s next (item_start c at start) (next_field c v) (set l c.place v))
    (scanned (Err (refusal.NotAscending (item_start c at start))) (set l c.place v)))
    (scanned (Err (refusal.OutOfRange at)) l)))

abbrev pub read_fields : List ℕ → Scan
read_fields s = read_from number_count s 0 0 first_field (replicate number_count 0)

-- The same judgement of numbers that are there already, placed by the bytes that they would be written as.
unfoldable pub check_from : ℕ → ℕ → ℕ → Field → List ℕ → Result ℕ Refusal
check_from zero at start c l = Ok at
check_from (suc n) at start c l =
    cond (at_end c) (Ok at)
    (cond (in_range l c (get_or l c.place 0))
    (cond (ascends l c)
    (check_from n (at + field_size (edition_in l) c (get_or l c.place 0)) (item_start c at start) (next_field c (get_or l c.place 0)) l)
    (Err (refusal.NotAscending (item_start c at start))))
    (Err (refusal.OutOfRange at)))

abbrev pub check_fields : List ℕ → Result ℕ Refusal
check_fields l = check_from number_count 0 0 first_field l

-- The bytes of the fields from c on: each number in its shortest spelling.
unfoldable pub bytes_from : ℕ → Field → List ℕ → List ℕ
bytes_from zero c l = []
bytes_from (suc n) c l =
    cond (at_end c) [] (field_bytes (edition_in l) c (get_or l c.place 0) ++ bytes_from n (next_field c (get_or l c.place 0)) l)

-- The file of a problem's numbers.
abbrev pub file_bytes : List ℕ → List ℕ
file_bytes l = bytes_from number_count first_field l

-- Whether a place of a problem's numbers is in use: the other places are spare.
unfoldable pub in_use : List ℕ → ℕ → Bool
in_use l k =
    ltb k (places.size + places.function_width * get_or l places.function_count 0)
    || ((leb places.vertex_count k && ltb k (places.function + places.vertex_width * get_or l places.vertex_count 0))
    || ((leb places.edge_count k && ltb k (places.from + places.edge_width * get_or l places.edge_count 0))
    || (leb places.loop_count k && ltb k (places.header + places.loop_width * get_or l places.loop_count 0))))

-- A problem's numbers with every spare place zero.
unfoldable pub cleared : List ℕ → List ℕ
cleared l = table number_count (λ k. cond (in_use l k) (get_or l k 0) 0)
