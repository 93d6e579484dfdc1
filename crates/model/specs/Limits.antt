-- The problem file and layouts: the editions, the greatest value of a number that no list's room limits, and the number of regions.
use Rattle.std.specs.Prelude.{ℕ}

-- The editions of the file. The first has no check costs (9/14).
abbrev pub first_edition : ℕ
first_edition = 1

abbrev pub second_edition : ℕ
second_edition = 2

-- A size, and a cost.
abbrev pub most_bytes : ℕ
most_bytes = 16777215

abbrev pub most_cycles : ℕ
most_cycles = 16777215

-- A check cost.
abbrev pub most_check : ℕ
most_check = 65535

-- A loop's bound.
abbrev pub most_visits : ℕ
most_visits = 4096

-- The regions, 0 to 31.
abbrev pub most_regions : ℕ
most_regions = 32

-- The most functions for which Best finds a layout (10/14).
abbrev pub most_grouped : ℕ
most_grouped = 8
