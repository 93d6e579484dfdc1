-- What the definitions look at in a problem is the same in records that are the same but for spare places: its lists, and what is read from them.
use Prim.Native.Nat.{ℕ, ◌+◌, ◌-◌, ◌*◌}
use mathlib.Core.Path.{◌≡◌, sym}
use mathlib.Core.List.{List, Memᴰ}
use mathlib.Core.Bool.{Bool, cond, not, ◌&&◌, ◌||◌}
use lib.ListN.{length, get_or}
use lib.Dec.{eqb}
use Rattle.model.specs.declared.Problem.{Problem}
use Rattle.model.specs.Zero.{zero_function, zero_vertex}
use Rattle.model.specs.Search.{exists_below}
use Rattle.model.specs.Graph.{edge, holds}
use Rattle.model.specs.Costs.{size_of, load_cost, check_cost, function_of, own_cost, total, largest}
use Rattle.model.specs.Limits.{most_regions}
use Rattle.model.specs.Layouts.{region_of, largest_in, need_of}
use Rattle.model.specs.Walks.{EdgeOf, last_vertex, weights}
use Rattle.model.specs.Charges.{outside, outermost, entered, visit_charge, first_loads, second_charge, holds_early, entry_charge, second_total}
use Rattle.model.specs.Operations.{SameProblem}
use Rattle.model.specs.Verdicts.{word_count}

pub same_sym : {p q : Problem} → SameProblem p q → SameProblem q p
same_sym same =
    record {
      scratchpad = sym same.scratchpad;
      function_count = sym same.function_count;
      functions = sym same.functions;
      vertex_count = sym same.vertex_count;
      vertices = sym same.vertices;
      edge_count = sym same.edge_count;
      edges = sym same.edges;
      loop_count = sym same.loop_count;
      loops = sym same.loops;
    }

module _ {p q : Problem} (same : SameProblem p q) where
  pub same_size : size_of p ≡ size_of q
  same_size = λ i f. (get_or (same.functions i) f zero_function).size.0

  pub same_load : load_cost p ≡ load_cost q
  same_load = λ i f. (get_or (same.functions i) f zero_function).load.0

  pub same_check : check_cost p ≡ check_cost q
  same_check = λ i f. (get_or (same.functions i) f zero_function).check.0

  pub same_function : function_of p ≡ function_of q
  same_function = λ i v. (get_or (same.vertices i) v zero_vertex).function

  pub same_cost : own_cost p ≡ own_cost q
  same_cost = λ i v. (get_or (same.vertices i) v zero_vertex).cost.0

  pub same_edge : EdgeOf p ≡ EdgeOf q
  same_edge = λ i u v. Memᴰ (record { from = u; to = v }) (same.edges i)

  pub same_last : last_vertex p ≡ last_vertex q
  same_last = λ i. same.vertex_count i - 1

  pub same_words : word_count p ≡ word_count q
  same_words = λ i. same.vertex_count i * same.function_count i

  pub same_need : (layout : List ℕ) → need_of p layout ≡ need_of q layout
  unfolding need_of largest_in
  same_need layout = λ i. total most_regions (λ r. largest (same.function_count i) (λ f. cond (eqb (region_of layout f) r) (same_size i f) 0))

  same_entered : entered p ≡ entered q
  unfolding entered
  same_entered = λ i v.
      eqb v 0
      || exists_below (length (same.edges i)) (λ k.
      eqb (edge (same.edges i) k).to v && not (eqb (same_function i (edge (same.edges i) k).from) (same_function i v)))

  pub same_charge : (contested : ℕ → Bool) → visit_charge p contested ≡ visit_charge q contested
  unfolding visit_charge
  same_charge contested = λ i v.
      same_cost i v
      + cond (same_entered i v) (same_check i (same_function i v)) 0
      + cond (contested v) (same_load i (same_function i v)) 0

  pub same_first : (cold : ℕ → Bool) → first_loads p cold ≡ first_loads q cold
  unfolding first_loads
  same_first cold = λ i. total (same.function_count i) (λ f. cond (cold f) (same_load i f) 0)

  module _ (early : ℕ → Bool) where
    same_early : holds_early p early ≡ holds_early q early
    unfolding holds_early
    same_early = λ i l f. exists_below (same.vertex_count i) (λ v. holds l v && (eqb (same_function i v) f && early v))

    same_entry : entry_charge p early ≡ entry_charge q early
    unfolding entry_charge
    same_entry = λ i l. cond (outermost (same.loops i) l) (same_first (same_early i l) i) 0

    same_second : (contested : ℕ → Bool) → second_charge p contested early ≡ second_charge q contested early
    unfolding second_charge
    same_second contested = λ i v. same_charge contested i v + cond (outside (same.loops i) v && early v) (same_load i (same_function i v)) 0

    pub same_total : (contested : ℕ → Bool) → second_total p contested early ≡ second_total q contested early
    same_total contested = λ i. weights (same.loops i) (same_second contested i) (same_entry i)
