-- The four lists of a problem's numbers, as laws on lists of items ask for them: their rows, and the places that they use.
use Prim.Native.Nat.{ℕ, suc, ◌+◌, ◌*◌, ◌≤◌, ◌<◌}
use mathlib.Core.Path.{◌≡◌, refl}
use mathlib.Core.List.{List}
use mathlib.Core.Bool.{Bool, true, false, ◌&&◌, ◌||◌, and-false}
use native.Mathlib.Omega.{arith}
use lib.ListN.{get_or}
use lib.Dec.{ltb, leb}
use borrow.Author.Count.{below_none, below_more}
use borrow.Author.Tests.{lt-ltb, le-ltb, lt-leb, le-leb}
use Rattle.model.specs.Table.{bases, kinds, jumps, kind, count_kind, last_kind}
use Rattle.model.specs.File.{in_use}
use Rattle.facts.proofs.Items.{Listed}
use Rattle.model.specs.Places as places
use Rattle.model.specs.Rows as rows

module _ (low high k : ℕ) where
  abbrev Among : Bool → Type 0
  Among t = (leb low k && ltb k high) ≡ t

  within : low ≤ k → k < high → Among true
  within h q = simp (le-leb low k h, lt-ltb k high q)

  under : k < low → Among false
  under h = simp (lt-leb low k h)

  over : high ≤ k → Among false
  over h = simp (le-ltb k high h, and-false)

-- A row between an item's count and its last number.
abbrev Between : ℕ → ℕ → Type 0
Between row j = (count_kind < kind (row + 1 + j)) × (kind (row + 1 + j) < last_kind)

one_between : (row : ℕ) → Between row 0 → (j : ℕ) → suc j < 2 → Between row j
one_between row h j k = below_more (Between row) 0 (below_none (Between row)) h j (omega arith)

two_between : (row : ℕ) → Between row 0 → Between row 1 → (j : ℕ) → suc j < 3 → Between row j
two_between row h q j k = below_more (Between row) 1 (below_more (Between row) 0 (below_none (Between row)) h) q j (omega arith)

module _ (l : List ℕ) where
  use_is : (k : ℕ) {a b c d : Bool} → ltb k (places.size + places.function_width * get_or l places.function_count 0) ≡ a → Among places.vertex_count (places.function + places.vertex_width * get_or l places.vertex_count 0) k b →
      Among places.edge_count (places.from + places.edge_width * get_or l places.edge_count 0) k c → Among places.loop_count (places.header + places.loop_width * get_or l places.loop_count 0) k d → in_use l k ≡ (a || (b || (c || d)))
  unfolding in_use
  use_is k e f g h = rw (e, f, g, h)

  -- The numbers before the first list, each by itself.
  pub single : (k : ℕ) → k < places.function_count → in_use l k ≡ true
  single k h = use_is k (lt-ltb k _ (omega arith)) refl refl refl

  pub functions : Listed l rows.function_count places.function_width
  unfolding bases kinds jumps
  functions =
      record {
        inside = omega arith;
        some = omega arith;
        counts = refl;
        passes = refl;
        within = two_between rows.function_count (omega arith) (omega arith);
        ends = refl;
        again = refl;
        used = λ k h q. use_is k (lt-ltb k _ (omega arith)) refl refl refl;
        spare = λ k h q. use_is k (le-ltb k _ (omega arith)) (under _ _ k (omega arith)) (under _ _ k (omega arith)) (under _ _ k (omega arith));
      }

  module _ (few_functions : get_or l places.function_count 0 ≤ places.most_functions) where
    pub vertices : Listed l rows.vertex_count places.vertex_width
    unfolding bases kinds jumps
    vertices =
        record {
          inside = omega arith;
          some = omega arith;
          counts = refl;
          passes = refl;
          within = one_between rows.vertex_count (omega arith);
          ends = refl;
          again = refl;
          used = λ k h q. use_is k (le-ltb k _ (omega arith)) (within _ _ k (omega arith) (omega arith)) refl refl;
          spare = λ k h q. use_is k (le-ltb k _ (omega arith)) (over _ _ k (omega arith)) (under _ _ k (omega arith)) (under _ _ k (omega arith));
        }

    module _ (few_vertices : get_or l places.vertex_count 0 ≤ places.most_vertices) where
      pub edges : Listed l rows.edge_count places.edge_width
      unfolding bases kinds jumps
      edges =
          record {
            inside = omega arith;
            some = omega arith;
            counts = refl;
            passes = refl;
            within = one_between rows.edge_count (omega arith);
            ends = refl;
            again = refl;
            used = λ k h q. use_is k (le-ltb k _ (omega arith)) (over _ _ k (omega arith)) (within _ _ k (omega arith) (omega arith)) refl;
            spare = λ k h q. use_is k (le-ltb k _ (omega arith)) (over _ _ k (omega arith)) (over _ _ k (omega arith)) (under _ _ k (omega arith));
          }

      module _ (few_edges : get_or l places.edge_count 0 ≤ places.most_edges) where
        pub loops : Listed l rows.loop_count places.loop_width
        unfolding bases kinds jumps
        loops =
            record {
              inside = omega arith;
              some = omega arith;
              counts = refl;
              passes = refl;
              within = two_between rows.loop_count (omega arith) (omega arith);
              ends = refl;
              again = refl;
              used = λ k h q. use_is k (le-ltb k _ (omega arith)) (over _ _ k (omega arith)) (over _ _ k (omega arith)) (within _ _ k (omega arith) (omega arith));
              spare = λ k h q. use_is k (le-ltb k _ (omega arith)) (over _ _ k (omega arith)) (over _ _ k (omega arith)) (over _ _ k (omega arith));
            }
