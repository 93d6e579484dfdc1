-- The problem file: the field table, in file order. `rows` numbers its rows.
use Rattle.std.specs.Prelude.{ℕ, ◌+◌, ◌-◌, ◌*◌, List, [], ◌∷◌, get_or}
use Rattle.model.specs.Places as places
use Rattle.model.specs.Rows as rows
use Rattle.model.specs.Limits.{first_edition, second_edition, most_bytes, most_cycles, most_check, most_visits}

-- The least and the greatest value of each row. Where a count read earlier narrows a range, `inRange` says so.
unfoldable pub limits : List ℕ
limits =
    first_edition ∷ second_edition
    ∷ 1 ∷ most_bytes
    ∷ 1 ∷ places.most_functions
    ∷ 1 ∷ most_bytes
    ∷ 0 ∷ most_cycles
    ∷ 0 ∷ most_check
    ∷ 1 ∷ places.most_vertices
    ∷ 0 ∷ (places.most_functions - 1)
    ∷ 0 ∷ most_cycles
    ∷ 0 ∷ places.most_edges
    ∷ 0 ∷ (places.most_vertices - 1)
    ∷ 0 ∷ (places.most_vertices - 1)
    ∷ 0 ∷ places.most_loops
    ∷ 0 ∷ (places.most_vertices - 1)
    ∷ 0 ∷ (places.most_vertices - 1)
    ∷ 1 ∷ most_visits ∷ []

abbrev pub least : ℕ → ℕ
least row = get_or limits (2 * row) 0

abbrev pub greatest : ℕ → ℕ
greatest row = get_or limits (2 * row + 1) 0

-- A problem's numbers stand at fixed places in file order, every spare place among them: the place of each row's first number.
unfoldable pub bases : List ℕ
bases =
    places.edition
    ∷ places.scratchpad
    ∷ places.function_count ∷ places.size ∷ places.load ∷ places.check
    ∷ places.vertex_count ∷ places.function ∷ places.cost
    ∷ places.edge_count ∷ places.from ∷ places.to
    ∷ places.loop_count ∷ places.header ∷ places.last ∷ places.bound
    ∷ places.end ∷ []

abbrev pub base : ℕ → ℕ
base row = get_or bases row 0

-- What a row is: a number by itself, the count of a list, or of an item the first number, one between or the last.
abbrev pub alone_kind : ℕ
alone_kind = 0

abbrev pub count_kind : ℕ
count_kind = 1

abbrev pub first_kind : ℕ
first_kind = 2

abbrev pub between_kind : ℕ
between_kind = 3

abbrev pub last_kind : ℕ
last_kind = 4

unfoldable pub kinds : List ℕ
kinds =
    alone_kind ∷ alone_kind
    ∷ count_kind ∷ first_kind ∷ between_kind ∷ last_kind
    ∷ count_kind ∷ first_kind ∷ last_kind
    ∷ count_kind ∷ first_kind ∷ last_kind
    ∷ count_kind ∷ first_kind ∷ between_kind ∷ last_kind ∷ []

abbrev pub kind : ℕ → ℕ
kind row = get_or kinds row 0

-- Where a count leads if its list is empty, and an item's last number if another item follows. (0 at the other rows.)
unfoldable pub jumps : List ℕ
jumps = 0 ∷ 0 ∷ rows.vertex_count ∷ 0 ∷ 0 ∷ rows.size ∷ rows.edge_count ∷ 0 ∷ rows.function ∷ rows.loop_count ∷ 0 ∷ rows.from ∷ rows.end ∷ 0 ∷ 0 ∷ rows.header ∷ []

abbrev pub jump : ℕ → ℕ
jump row = get_or jumps row 0

-- The place of the count that a row's numbers stay below, or 0 for none: functions for a vertex's function, vertices for edges and ranges.
unfoldable pub counts : List ℕ
counts = 0 ∷ 0 ∷ 0 ∷ 0 ∷ 0 ∷ 0 ∷ 0 ∷ places.function_count ∷ 0 ∷ 0 ∷ places.vertex_count ∷ places.vertex_count ∷ 0 ∷ places.vertex_count ∷ places.vertex_count ∷ 0 ∷ []

abbrev pub count_over : ℕ → ℕ
count_over row = get_or counts row 0
