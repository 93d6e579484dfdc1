-- The problems of the worked examples: in document 01's words P, Q, R, and the one whose file is M10; two of request 3/14, and P, Q, R and M10's with check costs, of 9/14.
use Rattle.std.specs.Prelude.{ℕ, ◌-◌, length, replicate}
use mathlib.Core.List.{List, [], ◌∷◌, ◌++◌, zip_with}
use Rattle.model.specs.declared.Function.{Function}
use Rattle.model.specs.declared.Edge.{Edge}
use Rattle.model.specs.declared.Loop.{Loop}
use Rattle.model.specs.declared.Problem.{Problem}
use Rattle.model.specs.Zero.{bytes, cycles, zero_function, zero_vertex, zero_edge, zero_loop}
use Rattle.model.specs.Places as places

-- Functions by their sizes, load costs and check costs, vertices by their functions and own costs.
pub record Lists : Type 0 where
  pub sizes : List ℕ
  pub loads : List ℕ
  pub checks : List ℕ
  pub functions : List ℕ
  pub costs : List ℕ
  pub edges : List Edge
  pub loops : List Loop

abbrev pub edge : ℕ → ℕ → Edge
edge from to = record { from = from; to = to }

abbrev pub loop : ℕ → ℕ → ℕ → Loop
loop header last bound = record { header = header; last = last; bound = bound }

-- A list in an array of n places, every spare place zero.
unfoldable pub padded : {A : Type 0} → ℕ → A → List A → List A
padded n none xs = xs ++ replicate (n - length xs) none

abbrev with_check : ℕ → ℕ → ℕ → Function
with_check size load check = record { size = bytes size; load = cycles load; check = cycles check }

unfoldable pub problem : ℕ → Lists → Problem
problem scratchpad l =
    record {
      scratchpad = bytes scratchpad;
      function_count = length l.sizes;
      functions = padded places.most_functions zero_function (zip_with (λ make check. make check) (zip_with with_check l.sizes l.loads) l.checks);
      vertex_count = length l.functions;
      vertices = padded places.most_vertices zero_vertex (zip_with (λ function cost. record { function = function; cost = cycles cost }) l.functions l.costs);
      edge_count = length l.edges;
      edges = padded places.most_edges zero_edge l.edges;
      loop_count = length l.loops;
      loops = padded places.most_loops zero_loop l.loops;
    }

-- P, with its scratchpad size and its check costs, which document 01 has none of.
abbrev pub checked_p : ℕ → List ℕ → Problem
checked_p scratchpad checks =
    problem scratchpad
    (record {
      sizes = 8 ∷ 4 ∷ 6 ∷ [];
      loads = 5 ∷ 3 ∷ 4 ∷ [];
      checks = checks;
      functions = 0 ∷ 1 ∷ 0 ∷ 2 ∷ 0 ∷ 1 ∷ 0 ∷ [];
      costs = 10 ∷ 10 ∷ 10 ∷ 10 ∷ 10 ∷ 10 ∷ 10 ∷ [];
      edges = edge 0 1 ∷ edge 1 2 ∷ edge 2 3 ∷ edge 3 4 ∷ edge 4 5 ∷ edge 5 6 ∷ [];
      loops = [];
    })

abbrev pub P : ℕ → Problem
P scratchpad = checked_p scratchpad (0 ∷ 0 ∷ 0 ∷ [])

-- Q, with its sizes and check costs.
abbrev pub checked_q : List ℕ → List ℕ → Problem
checked_q sizes checks =
    problem 2
    (record {
      sizes = sizes;
      loads = 5 ∷ 3 ∷ [];
      checks = checks;
      functions = 0 ∷ 1 ∷ 1 ∷ 0 ∷ [];
      costs = 10 ∷ 10 ∷ 20 ∷ 10 ∷ [];
      edges = edge 0 1 ∷ edge 0 2 ∷ edge 1 3 ∷ edge 2 3 ∷ [];
      loops = [];
    })

abbrev pub Q : Problem
Q = checked_q (1 ∷ 1 ∷ []) (0 ∷ 0 ∷ [])

-- R, with its loop's bound and its check costs.
abbrev pub checked_r : ℕ → List ℕ → Problem
checked_r bound checks =
    problem 2
    (record {
      sizes = 1 ∷ 1 ∷ [];
      loads = 5 ∷ 3 ∷ [];
      checks = checks;
      functions = 0 ∷ 0 ∷ 1 ∷ 0 ∷ [];
      costs = 1 ∷ 2 ∷ 7 ∷ 1 ∷ [];
      edges = edge 0 1 ∷ edge 1 2 ∷ edge 1 3 ∷ edge 2 1 ∷ [];
      loops = loop 1 2 bound ∷ [];
    })

abbrev pub R : ℕ → Problem
R bound = checked_r bound (0 ∷ 0 ∷ [])

-- M10's: one vertex of one function, with its check cost.
abbrev pub checked_single : ℕ → Problem
checked_single check =
    problem 8
    (record {
      sizes = 8 ∷ [];
      loads = 5 ∷ [];
      checks = check ∷ [];
      functions = 0 ∷ [];
      costs = 10 ∷ [];
      edges = [];
      loops = [];
    })

abbrev pub single : Problem
single = checked_single 0

-- Q's graph with a helper of its own on each branch: a walk calls one of the two, so it loads one of them.
abbrev pub one_of_two : Problem
one_of_two =
    problem 3
    (record {
      sizes = 1 ∷ 1 ∷ 1 ∷ [];
      loads = 5 ∷ 3 ∷ 4 ∷ [];
      checks = 0 ∷ 0 ∷ 0 ∷ [];
      functions = 0 ∷ 1 ∷ 2 ∷ 0 ∷ [];
      costs = 1 ∷ 1 ∷ 1 ∷ 1 ∷ [];
      edges = edge 0 1 ∷ edge 0 2 ∷ edge 1 3 ∷ edge 2 3 ∷ [];
      loops = [];
    })

-- Function 1 may be met first before the loop, at vertex 1, or in it, at vertex 3: the second total charges its load at both.
abbrev pub met_twice : Problem
met_twice =
    problem 2
    (record {
      sizes = 1 ∷ 1 ∷ [];
      loads = 5 ∷ 3 ∷ [];
      checks = 0 ∷ 0 ∷ [];
      functions = 0 ∷ 1 ∷ 0 ∷ 1 ∷ 0 ∷ [];
      costs = 1 ∷ 1 ∷ 1 ∷ 1 ∷ 1 ∷ [];
      edges = edge 0 1 ∷ edge 0 2 ∷ edge 1 2 ∷ edge 2 3 ∷ edge 3 2 ∷ edge 3 4 ∷ [];
      loops = loop 2 3 2 ∷ [];
    })
