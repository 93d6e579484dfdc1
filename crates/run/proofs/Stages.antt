-- Run's answer is what its definition says for the stage that it stops at.
use Prim.Native.Nat.{ℕ, ◌≤◌, ◌<◌}
use Rattle.std.specs.Prelude.{Err, Ok, Result}
use Rattle.model.specs.Refusals.{Verdict}
use mathlib.Core.Path.{◌≡◌, sym, ap, ◌∙◌}
use mathlib.Core.List.{List, [], reverse}
use mathlib.Core.Bool.{cond}
use lib.ListN.{length}
use lib.Dec.{ltb}
use borrow.Author.Tests.{lt-ltb, le-ltb}
use Rattle.model.specs.declared.Refusal.{Refusal}
use Rattle.model.specs.declared.Refusal.TheVariants.{WalkTooLong}
use Rattle.model.specs.declared.Problem.{Problem}
use Rattle.model.specs.declared.Run.{Run}
use Rattle.model.specs.Limits.{most_regions}
use Rattle.model.specs.Numbers.{table, problem_of}
use Rattle.model.specs.Operations.{Checked}
use Rattle.model.specs.Graph.{and_then}
use Rattle.model.specs.Layouts.{region_of}
use Rattle.model.specs.Verdicts.{walk_limit, judge_bound, judge_walk, judge_run}
use Rattle.model.specs.Results.{run_after, run_walk, regions_after, run_regions}
use Rattle.regions.specs.Regions.{KnownRegions}
use Rattle.layout.proofs.Alike.{alike_cycles, alike_loads, alike_held}
use Rattle.simulation.specs.Running.{Ran, Runnable}

module _ (p : Problem) (layout walk regions : List ℕ) where
  -- What Run answers, and what it leaves in the lent regions.
  abbrev Says : Result Run Refusal → List ℕ → Type 0
  Says a after = (a ≡ run_walk p layout walk) × (after ≡ run_regions p layout walk regions)

  answered : (v : Verdict) → judge_run p layout walk ≡ v → Says (run_after v p layout walk) (regions_after v p layout walk regions)
  unfolding run_walk run_regions
  answered v e = (ap (λ (x : Verdict). run_after x p layout walk) (sym e), ap (λ (x : Verdict). regions_after x p layout walk regions) (sym e))

  pub not_begun : (x : Refusal) → judge_bound p layout ≡ Err x → Says (Err x) regions
  unfolding judge_run
  not_begun x e = answered (Err x) (ap (λ (v : Verdict). and_then v (cond (ltb walk_limit (length walk)) (Err (WalkTooLong walk_limit)) (judge_walk p [] 0 walk))) e)

  module _ (good : judge_bound p layout ≡ Ok tt) where
    then_walk : judge_run p layout walk ≡ cond (ltb walk_limit (length walk)) (Err (WalkTooLong walk_limit)) (judge_walk p [] 0 walk)
    unfolding judge_run
    then_walk = ap (λ (v : Verdict). and_then v (cond (ltb walk_limit (length walk)) (Err (WalkTooLong walk_limit)) (judge_walk p [] 0 walk))) good

    pub too_long_lem : walk_limit < length walk → Says (Err (WalkTooLong walk_limit)) regions
    too_long_lem h = answered (Err (WalkTooLong walk_limit)) (then_walk ∙ (simp (lt-ltb walk_limit (length walk) h)))

    module _ (short : length walk ≤ walk_limit) (v : Verdict) (judged : v ≡ judge_walk p [] 0 walk) where
      pub entries : judge_run p layout walk ≡ v
      entries = then_walk ∙ (simp (le-ltb walk_limit (length walk) short)) ∙ sym judged

      pub bad_entry : (x : Refusal) → v ≡ Err x → Says (Err x) regions
      bad_entry x e = answered (Err x) (entries ∙ e)

      module _ (whole : v ≡ Ok tt) where
        pub ran : (held : List ℕ) (r : Run) → Ran p layout (reverse walk) held r → Says (Ok r) held
        ran held r is =
            let (answer, after) = answered (Ok tt) (entries ∙ whole) in
            ((λ i. Ok (record { cycles = record { 0 = is.cycles_are i }; loads = is.loads_are i })) ∙ answer, is.held_are ∙ after)

-- What is said of one problem is said of its equal.
pub of_same : (p q : Problem) (layout walk regions : List ℕ) → p ≡ q → (a : Result Run Refusal) (after : List ℕ) → Says p layout walk regions a after →
    Says q layout walk regions a after
of_same p q layout walk regions same a after says =
    (says.0 ∙ ap (λ (x : Problem). run_walk x layout walk) same, says.1 ∙ ap (λ (x : Problem). run_regions x layout walk regions) same)

-- A walk that was judged good on checked numbers can be run.
pub runnable : (l regions walk : List ℕ) → Checked l → KnownRegions (problem_of l) regions → length walk ≤ walk_limit →
    (v : Verdict) → v ≡ judge_walk (problem_of l) [] 0 walk → v ≡ Ok tt → Runnable l regions walk
runnable l regions walk checked known short v judged whole =
    record { checked = checked; regions = known; short = short; accepted = sym judged ∙ whole }

-- What it ran by its regions, filled in, it ran by the layout.
pub ran_alike : (p : Problem) (regions layout h held : List ℕ) (r : Run) → region_of regions ≡ region_of layout → Ran p regions h held r → Ran p layout h held r
ran_alike p regions layout h held r same is =
    record {
      cycles_are = is.cycles_are ∙ alike_cycles regions layout same p h;
      loads_are = is.loads_are ∙ alike_loads regions layout same p h;
      held_are = is.held_are ∙ ap (table most_regions) (alike_held regions layout same p h);
    }
