-- The numbers for a vertex lead on where its reason has a walk, and what is then shown explains the vertex.
use Prim.Native.Nat.{ℕ, ◌≤◌, ◌<◌}
use Rattle.std.specs.Prelude.{Ok, Result}
use Rattle.model.specs.declared.Refusal.{Refusal}
use Rattle.model.specs.declared.Eviction.{Eviction}
use mathlib.Core.Path.{◌≡◌, refl, subst}
use mathlib.Core.List.{List, [], ◌∷◌}
use native.Mathlib.Omega.{arith}
use Rattle.model.specs.declared.Reason.TheVariants.{EveryVisit, FirstLoad, Never}
use Rattle.model.specs.Numbers.{problem_of}
use Rattle.model.specs.Costs.{function_of}
use Rattle.model.specs.Places.{most_functions}
use Rattle.flow.specs.Starts.{Starts}
use Rattle.lookup.proofs.Places.{facts, function_below}
use Rattle.ways.specs.Ways.{no_way, steps, Falls, Distances}
use Rattle.following.specs.Following.{Leading}
use Rattle.evicting.specs.Evicting.{Sharing, Lowest}
use Rattle.eviction.specs.Showing.{Lent, Showed, Explainable, Explained}
use Rattle.eviction.proofs.Reasons.{shown_few, every_way, every_visit_lem, first_load, never}

module _ {l regions : List ℕ} {v f : ℕ} (ready : Explainable l regions v) (is_f : f ≡ function_of (problem_of l) v) where
  pub shares : Sharing l regions f
  shares = record {
    checked = ready.checked;
    listed = ready.known.listed;
    known = rw is_f (function_below l (facts l ready.checked) v ready.there);
  }

  -- What is said of f is said of the function of v.
  own_rest : {g : ℕ} {d : List ℕ} → Distances (problem_of l) f g v d → Distances (problem_of l) (function_of (problem_of l) v) g v d
  own_rest {g} {d} = subst (λ (k : ℕ). Distances (problem_of l) k g v d) is_f

  own_falls : (g s : ℕ) (d ws : List ℕ) → Falls (problem_of l) f g d s 0 ws → Falls (problem_of l) (function_of (problem_of l) v) g d s 0 ws
  own_falls g s d ws = subst (λ (k : ℕ). Falls (problem_of l) k g d s 0 ws) is_f

  module _ {free : List ℕ} {g : ℕ} (rest : Distances (problem_of l) f most_functions v free)
      (lowest : Lowest (problem_of l) regions f free (problem_of l).vertex_count g) where
    own_lowest : Lowest (problem_of l) regions (function_of (problem_of l) v) free (problem_of l).vertex_count g
    own_lowest = subst (λ (k : ℕ). Lowest (problem_of l) regions k free (problem_of l).vertex_count g) is_f lowest

    module _ {begins : List ℕ} (starts : Starts (problem_of l) begins) where
      -- 1, a function is named.
      module _ (some : g < most_functions) {d : List ℕ} (by_g : Distances (problem_of l) f g v d) where
        pub every_leads : Leading l begins f g d 0
        every_leads = record {
          checked = ready.checked;
          starts = starts;
          goal = v;
          at_rest = by_g;
          low = omega arith;
          way = every_way ready free (own_rest rest) g own_lowest some d (own_rest by_g);
        }

        pub every_explained : (before after : List ℕ) (r : Result Eviction Refusal) → Showed (problem_of l) f g d 0 (EveryVisit g) before after r →
            Explained (problem_of l) regions v before after r
        every_explained before after r (ws, falls, lent) = (
          EveryVisit g,
          0 ∷ ws,
          every_visit_lem ready free (own_rest rest) g own_lowest some d (own_rest by_g) ws (own_falls g 0 d ws falls),
          shown_few ready g 0 d (own_rest by_g) (omega arith) every_leads.way ws (own_falls g 0 d ws falls),
          lent,
        )

      -- None is.
      module _ (none : most_functions ≤ g) where
        -- 2, vertex 0 leads on.
        module _ (way : steps free 0 1 < no_way) where
          pub first_leads : Leading l begins f most_functions free 1
          first_leads = record { checked = ready.checked; starts = starts; goal = v; at_rest = rest; low = omega arith; way = way }

          pub first_explained : (before after : List ℕ) (r : Result Eviction Refusal) → Showed (problem_of l) f most_functions free 1 FirstLoad before after r →
              Explained (problem_of l) regions v before after r
          first_explained before after r (ws, falls, lent) = (
            FirstLoad,
            0 ∷ ws,
            first_load ready free (own_rest rest) g own_lowest none way ws (own_falls most_functions 1 free ws falls),
            shown_few ready most_functions 1 free (own_rest rest) (omega arith) way ws (own_falls most_functions 1 free ws falls),
            lent,
          )

        -- 3, it does not.
        pub never_explained : no_way ≤ steps free 0 1 → (before : List ℕ) →
            Explained (problem_of l) regions v before before (Ok (record { reason = Never; count = 0 }))
        unfolding Lent
        never_explained way_less before =
            (Never, [], never ready free (own_rest rest) g own_lowest none way_less, omega arith, (refl, refl, omega arith, refl))
