-- Run gives its result for lawful walks and no others, where the problem and the layout pass Bound's checks through 13 and the walk is not too long.
use Prim.Native.Nat.{ℕ, ◌≤◌}
use Rattle.std.specs.Prelude.{Ok}
use Rattle.model.specs.Refusals.{Verdict}
use mathlib.Core.Path.{◌≡◌, refl, sym, ap, subst, ◌∙◌}
use mathlib.Core.List.{List, [], ◌∷◌, reverse, reverse-reverse}
use mathlib.Core.Logic.{◌↔◌}
use lib.ListN.{length}
use Rattle.model.specs.declared.Problem.{Problem}
use Rattle.model.specs.declared.Run.{Run}
use Rattle.model.specs.Numbers.{numbers_of, Sized}
use Rattle.model.specs.Operations.{Checked}
use Rattle.model.specs.Walks.{last_vertex, Lawful, LawfulWalk}
use Rattle.model.specs.Verdicts.{walk_limit, judge_problem, judge_bound, judge_walk, judge_run}
use Rattle.model.specs.Results.{AcceptedWith, run_after, run_walk}
use Rattle.model.proofs.Answers.{accepted_both}
use Rattle.numbers.specs.Numbered.{Numbered}
use Rattle.checks.proofs.Opened.{same_problem, judges_problem, opened}
use Rattle.walk.proofs.Lawful.{judged_lawful, lawful_judged}
use Rattle.run.proofs.Stages.{entries}
use Rattle.run.proofs.Covered.{entries_good, ran_good}

-- Run gives its result.
abbrev pub Runs : Problem → List ℕ → List ℕ → Type 0
Runs p layout walk = (r : Run) × (run_walk p layout walk ≡ Ok r)

module _ (p : Problem) (layout walk : List ℕ) where
  ran_lawful : Runs p layout walk → LawfulWalk p walk
  unfolding run_walk
  ran_lawful (r, e) = judged_lawful p walk (entries_good p layout walk (ran_good p layout walk (judge_run p layout walk) r e).0)

  module _ (sized : Sized p) (good : judge_bound p layout ≡ Ok tt) where
    own : Numbered p (numbers_of p)
    own = record { is = refl; sized = sized }

    checked : Checked (numbers_of p)
    unfolding judge_bound
    checked =
        let passed : judge_problem p ≡ Ok tt = (accepted_both (judge_problem p) _ good).0 in
        opened p (numbers_of p) own _ refl (judges_problem p (numbers_of p) own _ refl ∙ passed)

    judged_good : LawfulWalk p walk → judge_walk p [] 0 walk ≡ Ok tt
    judged_good (h, is, lawful) =
        let all : (k : List ℕ) → Lawful p k → judge_walk p [] 0 (reverse (last_vertex p ∷ k)) ≡ Ok tt =
        subst (λ (q : Problem). (k : List ℕ) → Lawful q k → judge_walk q [] 0 (reverse (last_vertex q ∷ k)) ≡ Ok tt)
        (same_problem p (numbers_of p) own) (lawful_judged (numbers_of p) checked) in
        ap (judge_walk p [] 0) (sym (reverse-reverse walk) ∙ ap reverse is) ∙ all h lawful

    lawful_runs : length walk ≤ walk_limit → LawfulWalk p walk → Runs p layout walk
    unfolding run_walk
    lawful_runs short lawful =
        (_, ap (λ (v : Verdict). run_after v p layout walk) (entries p layout walk [] good short (Ok tt) (sym (judged_good lawful))))

    -- A walk that is not too long runs exactly if it is lawful.
    pub runs_lawful : length walk ≤ walk_limit → Runs p layout walk ↔ LawfulWalk p walk
    runs_lawful short = (ran_lawful, lawful_runs short)

-- So it is with a layout that is accepted with the problem.
pub accepted_runs_lawful : (p : Problem) → Sized p → (layout walk : List ℕ) → AcceptedWith p layout → length walk ≤ walk_limit →
    Runs p layout walk ↔ LawfulWalk p walk
accepted_runs_lawful p sized layout walk accepted = runs_lawful p layout walk sized accepted.0
