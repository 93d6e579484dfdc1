-- The worked examples M1 to M10 of document 01, in its order; each comment has its words. Where it gives some of Bound's four numbers (bytes needed,
-- contested vertices, first loads, bound), or a run without its loads, the others stand here too. Then two of request 3/14, one for each total, files with
-- padded numbers, of request 6/14, loop bounds at their greatest and past it, of request 7/14, and check costs and editions, of request 9/14.
use Rattle.std.specs.Prelude.{ℕ, ◌+◌, List, [], ◌∷◌, ◌++◌, take}
use Rattle.examples.specs.Problems.{checked_p, P, checked_q, Q, checked_r, R, checked_single, single, one_of_two, met_twice}
use Rattle.examples.specs.Claims.{Claim, sets, bounds, second_totals, bound_refused, runs, run_refused, longest_run, reads, read_refused, prints, prints_refusal}

-- P's only walk.
abbrev chain : List ℕ
chain = 0 ∷ 1 ∷ 2 ∷ 3 ∷ 4 ∷ 5 ∷ 6 ∷ []

-- M10's file.
abbrev whole : List ℕ
whole = 0x01 ∷ 0x08 ∷ 0x01 ∷ 0x08 ∷ 0x05 ∷ 0x01 ∷ 0x00 ∷ 0x0A ∷ 0x00 ∷ 0x00 ∷ []

-- Numbers of one byte, each in five.
abbrev in_five : List ℕ → List ℕ
in_five [] = []
in_five (v ∷ vs) = (0x80 + v) ∷ 0x80 ∷ 0x80 ∷ 0x80 ∷ 0x00 ∷ in_five vs

-- A file with two vertices and the edge 0-1 twice, up to the number of edges, and from there on.
abbrev two_vertices : List ℕ
two_vertices = 0x01 ∷ 0x08 ∷ 0x01 ∷ 0x08 ∷ 0x05 ∷ 0x02 ∷ 0x00 ∷ 0x0A ∷ 0x00 ∷ 0x0A ∷ []

abbrev edge_twice : List ℕ
edge_twice = 0x00 ∷ 0x01 ∷ 0x00 ∷ 0x01 ∷ 0x00 ∷ []

-- M10's file in edition 2, with the bytes of its edition and of its check cost.
abbrev second : List ℕ → List ℕ → List ℕ
second edition check = edition ++ (0x08 ∷ 0x01 ∷ 0x08 ∷ 0x05 ∷ check ++ (0x01 ∷ 0x00 ∷ 0x0A ∷ 0x00 ∷ 0x00 ∷ []))

-- R's file up to its edges, with the number of loops and the loops behind them.
abbrev with_loops : List ℕ → List ℕ
with_loops loops =
    0x01 ∷ 0x02 ∷ 0x02 ∷ 0x01 ∷ 0x05 ∷ 0x01 ∷ 0x03
    ∷ 0x04 ∷ 0x00 ∷ 0x01 ∷ 0x00 ∷ 0x02 ∷ 0x01 ∷ 0x07 ∷ 0x00 ∷ 0x01
    ∷ 0x04 ∷ 0x00 ∷ 0x01 ∷ 0x01 ∷ 0x02 ∷ 0x01 ∷ 0x03 ∷ 0x02 ∷ 0x01 ∷ loops

-- R's file, with the bytes of its loop's bound.
abbrev with_bound : List ℕ → List ℕ
with_bound bound = with_loops (0x01 ∷ 0x01 ∷ 0x02 ∷ bound)

unfoldable pub marks : List Claim
marks =
    -- M1: the sets of each vertex's own function.
    sets (P 14) ([] ∷ (0 ∷ []) ∷ (1 ∷ []) ∷ (0 ∷ 1 ∷ []) ∷ (2 ∷ []) ∷ (0 ∷ 2 ∷ []) ∷ (1 ∷ []) ∷ [])
    -- M2: layout 0 1 1 needs 14; 2 contested, first loads 8, bound 85. The run takes 85 with 4 loads.
    ∷ bounds (P 14) (0 ∷ 1 ∷ 1 ∷ []) 14 2 8 85
    ∷ runs (P 14) (0 ∷ 1 ∷ 1 ∷ []) chain 85 4
    -- M3: layout 0 0 1: bound 95, run 95 with 6 loads.
    ∷ bounds (P 14) (0 ∷ 0 ∷ 1 ∷ []) 14 4 9 95
    ∷ runs (P 14) (0 ∷ 0 ∷ 1 ∷ []) chain 95 6
    -- M4, with zeros by 1/14: layout 0 0 0 needs 8, bound 100.
    ∷ bounds (P 14) (0 ∷ 0 ∷ 0 ∷ []) 8 6 5 100
    -- M5: layout 0 1 2 is refused 13 at 18. With scratchpad 13, M2 is refused 13 at 14.
    ∷ bound_refused (P 14) (0 ∷ 1 ∷ 2 ∷ []) 13 18
    ∷ bound_refused (P 13) (0 ∷ 1 ∷ 1 ∷ []) 13 14
    -- M6: Q, layout 0 1: bound 48, and the walk 0 2 3 runs in 48.
    ∷ bounds Q (0 ∷ 1 ∷ []) 2 0 8 48
    ∷ runs Q (0 ∷ 1 ∷ []) (0 ∷ 2 ∷ 3 ∷ []) 48 2
    -- M7: R, layout 0 1: bound 39.
    ∷ bounds (R 4) (0 ∷ 1 ∷ []) 2 0 8 39
    -- M8, with zeros by 1/14: layout 0 0: bound 65, and its longest run takes 60.
    ∷ bounds (R 4) (0 ∷ 0 ∷ []) 1 2 5 65
    ∷ longest_run (R 4) (0 ∷ 0 ∷ []) 60
    -- M9: a fifth visit to vertex 1 is refused 16 at position 9. With bound 1, M7 becomes 12 and M8 14.
    ∷ run_refused (R 4) (0 ∷ 1 ∷ []) (0 ∷ 1 ∷ 2 ∷ 1 ∷ 2 ∷ 1 ∷ 2 ∷ 1 ∷ 2 ∷ 1 ∷ 3 ∷ []) 16 9
    ∷ bounds (R 1) (0 ∷ 1 ∷ []) 2 0 8 12
    ∷ bounds (R 1) (0 ∷ 0 ∷ []) 1 2 5 14
    -- M10: a whole file. For it and an empty layout `marksheet` prints `need 8`, `charged 0`, `first 5`, `bound 15`, one a line. A refusal prints
    -- `refused 1 at 0`, here for empty input.
    ∷ reads whole single
    ∷ bounds single [] 8 0 5 15
    ∷ prints whole single [] 8 0 5 15 "need 8\ncharged 0\nfirst 5\nbound 15\n"
    ∷ read_refused [] 1 0
    ∷ prints_refusal [] "refused 1 at 0\n"
    -- 3/14, each function in its own region: the second total, 12, is smaller than document 01's, 15, and a run takes it.
    ∷ bounds one_of_two (0 ∷ 1 ∷ 2 ∷ []) 3 0 9 12
    ∷ second_totals one_of_two (0 ∷ 1 ∷ 2 ∷ []) 12
    ∷ longest_run one_of_two (0 ∷ 1 ∷ 2 ∷ []) 12
    -- 3/14: document 01's total, 15, is smaller than the second, 18, and so it is still needed.
    ∷ bounds met_twice (0 ∷ 1 ∷ []) 2 0 8 15
    ∷ second_totals met_twice (0 ∷ 1 ∷ []) 18
    -- 6/14: M10's file with every number in five bytes, or 08 as 88 00, holds the same problem. 88 80 80 80 10 is refused 2.
    ∷ reads (in_five whole) single
    ∷ prints (in_five whole) single [] 8 0 5 15 "need 8\ncharged 0\nfirst 5\nbound 15\n"
    ∷ reads (0x01 ∷ 0x88 ∷ 0x00 ∷ 0x01 ∷ 0x08 ∷ 0x05 ∷ 0x01 ∷ 0x00 ∷ 0x0A ∷ 0x00 ∷ 0x00 ∷ []) single
    ∷ read_refused (0x01 ∷ 0x88 ∷ 0x80 ∷ 0x80 ∷ 0x80 ∷ 0x10 ∷ []) 2 1
    -- Places are positions of the bytes given: of M10 in five bytes a number a byte less is 1 at 49, scratchpad 0 is 3 at 5, and a byte after it 5 at 50.
    ∷ read_refused (take 49 (in_five whole)) 1 49
    ∷ read_refused (in_five (0x01 ∷ 0x00 ∷ [])) 3 5
    ∷ read_refused (in_five whole ++ (0x00 ∷ [])) 5 50
    -- Edge 0-1 twice is 4 at 13, at 65 if all is padded, and at 17 if only the number of edges is.
    ∷ read_refused (two_vertices ++ (0x02 ∷ edge_twice)) 4 13
    ∷ read_refused (in_five (two_vertices ++ (0x02 ∷ edge_twice))) 4 65
    ∷ read_refused (two_vertices ++ (in_five (0x02 ∷ []) ++ edge_twice)) 4 17
    -- 7/14: R's file with bound 4,096 holds that problem, in two bytes or five. 4,097, in either, and 65,535 are 3 at 28, in the file and in the record.
    ∷ reads (with_bound (0x80 ∷ 0x20 ∷ [])) (R 4096)
    ∷ reads (with_bound (0x80 ∷ 0xA0 ∷ 0x80 ∷ 0x80 ∷ 0x00 ∷ [])) (R 4096)
    ∷ read_refused (with_bound (0x81 ∷ 0x20 ∷ [])) 3 28
    ∷ read_refused (with_bound (0x81 ∷ 0xA0 ∷ 0x80 ∷ 0x80 ∷ 0x00 ∷ [])) 3 28
    ∷ read_refused (with_bound (0xFF ∷ 0xFF ∷ 0x03 ∷ [])) 3 28
    ∷ bound_refused (R 4097) (0 ∷ 1 ∷ []) 3 28
    ∷ bound_refused (R 65535) (0 ∷ 1 ∷ []) 3 28
    -- A second loop 1 to 2 is 4 at 29 with bound 5, and 3 at 31 with bound 5,000.
    ∷ read_refused (with_loops (0x02 ∷ 0x01 ∷ 0x02 ∷ 0x04 ∷ 0x01 ∷ 0x02 ∷ 0x05 ∷ [])) 4 29
    ∷ read_refused (with_loops (0x02 ∷ 0x01 ∷ 0x02 ∷ 0x04 ∷ 0x01 ∷ 0x02 ∷ 0x88 ∷ 0x27 ∷ [])) 3 31
    -- 9/14: P with check costs 1 2 3, layout 0 1 1: bound 96, and the run takes 96 with 4 loads.
    ∷ bounds (checked_p 14 (1 ∷ 2 ∷ 3 ∷ [])) (0 ∷ 1 ∷ 1 ∷ []) 14 2 8 96
    ∷ runs (checked_p 14 (1 ∷ 2 ∷ 3 ∷ [])) (0 ∷ 1 ∷ 1 ∷ []) chain 96 4
    -- Q with 2 4, layout 0 1: bound 56. The walk 0 2 3 takes 56, and 0 1 3 takes 46.
    ∷ bounds (checked_q (1 ∷ 1 ∷ []) (2 ∷ 4 ∷ [])) (0 ∷ 1 ∷ []) 2 0 8 56
    ∷ runs (checked_q (1 ∷ 1 ∷ []) (2 ∷ 4 ∷ [])) (0 ∷ 1 ∷ []) (0 ∷ 2 ∷ 3 ∷ []) 56 2
    ∷ runs (checked_q (1 ∷ 1 ∷ []) (2 ∷ 4 ∷ [])) (0 ∷ 1 ∷ []) (0 ∷ 1 ∷ 3 ∷ []) 46 2
    -- R with 2 4: a check is charged by vertex. Layout 0 1: bound 61, and its longest run takes 59, since its first visit to vertex 1 comes from vertex 0, of
    -- the same function. Layout 0 0: 87 and 80.
    ∷ bounds (checked_r 4 (2 ∷ 4 ∷ [])) (0 ∷ 1 ∷ []) 2 0 8 61
    ∷ longest_run (checked_r 4 (2 ∷ 4 ∷ [])) (0 ∷ 1 ∷ []) 59
    ∷ bounds (checked_r 4 (2 ∷ 4 ∷ [])) (0 ∷ 0 ∷ []) 1 2 5 87
    ∷ longest_run (checked_r 4 (2 ∷ 4 ∷ [])) (0 ∷ 0 ∷ []) 80
    -- With bound 1, edge 2-1 cannot be followed and still makes vertex 1 entered: bound 16, and the only lawful walk takes 11.
    ∷ bounds (checked_r 1 (2 ∷ 4 ∷ [])) (0 ∷ 1 ∷ []) 2 0 8 16
    ∷ longest_run (checked_r 1 (2 ∷ 4 ∷ [])) (0 ∷ 1 ∷ []) 11
    -- M10 with check cost 5, in edition 2: bound 20.
    ∷ prints (second (0x02 ∷ []) (0x05 ∷ [])) (checked_single 5) [] 8 0 5 20 "need 8\ncharged 0\nfirst 5\nbound 20\n"
    -- Edition 2 without a check cost holds M10's problem. 82 80 80 80 00 is edition 2.
    ∷ reads (second (0x02 ∷ []) (0x00 ∷ [])) single
    ∷ reads (second (0x82 ∷ 0x80 ∷ 0x80 ∷ 0x80 ∷ 0x00 ∷ []) (0x85 ∷ 0x00 ∷ [])) (checked_single 5)
    ∷ reads (second (0x02 ∷ []) (0xFF ∷ 0xFF ∷ 0x03 ∷ [])) (checked_single 65535)
    -- Editions 0 and 3 are 3 at 0, and check cost 65,536 is 3 at 5.
    ∷ read_refused (0x00 ∷ []) 3 0
    ∷ read_refused (0x03 ∷ []) 3 0
    ∷ read_refused (second (0x02 ∷ []) (0x80 ∷ 0x80 ∷ 0x04 ∷ [])) 3 5
    -- Records are placed by the edition that would be written: of Q, check costs 0 and 70,000 are 3 at 8, and 70,000 and 0 are 3 at 5.
    ∷ bound_refused (checked_q (1 ∷ 1 ∷ []) (0 ∷ 70000 ∷ [])) (0 ∷ 1 ∷ []) 3 8
    ∷ bound_refused (checked_q (1 ∷ 1 ∷ []) (70000 ∷ 0 ∷ [])) (0 ∷ 1 ∷ []) 3 5
    -- A size 0 of function 1 is 3 at 5 with check costs 0 0, at 6 with 0 1, and at 7 with 300 0.
    ∷ bound_refused (checked_q (1 ∷ 0 ∷ []) (0 ∷ 0 ∷ [])) (0 ∷ 1 ∷ []) 3 5
    ∷ bound_refused (checked_q (1 ∷ 0 ∷ []) (0 ∷ 1 ∷ [])) (0 ∷ 1 ∷ []) 3 6
    ∷ bound_refused (checked_q (1 ∷ 0 ∷ []) (300 ∷ 0 ∷ [])) (0 ∷ 1 ∷ []) 3 7
    ∷ []
