-- What an operation on a problem knows once the problem's checks have answered: the refusal is the problem's, or its numbers are checked and are its own.
use Prim.Native.Nat.{ℕ}
use Rattle.std.specs.Prelude.{Err, Ok, Result}
use Rattle.model.specs.Refusals.{Verdict}
use mathlib.Core.Path.{◌≡◌, refl, sym, ap, ◌∙◌}
use mathlib.Core.List.{List}
use lib.ListN.{length}
use Rattle.model.specs.declared.Refusal.{Refusal}
use Rattle.model.specs.declared.Problem.{Problem}
use Rattle.model.specs.Numbers.{edition_of, numbers_of, problem_of}
use Rattle.model.specs.File.{check_fields}
use Rattle.model.specs.Graph.{judge_graph}
use Rattle.model.specs.Operations.{after_graph, after_fields, check_problem, Checked}
use Rattle.model.specs.Verdicts.{as_verdict, judge_problem}
use Rattle.model.proofs.Answers.{refused_not_done, refused_not_accepted}
use Rattle.numbers.specs.Numbered.{Numbered}
use Rattle.numbers.proofs.Inverse.{numbers_length, problem_of_numbers}
use Rattle.facts.proofs.Facts.{field_facts}
use Rattle.roundtrip.proofs.Editions.{settled}
use Rattle.checks.specs.Steps.{check_numbers, judge_numbers}

-- Checks that end well had the fields and the graph end well.
pub record Good (f : Result ℕ Refusal) (p : Problem) (need : ℕ) : Type 0 where
  pub fields : f ≡ Ok need
  pub graph : judge_graph p ≡ Ok tt

pub good : (f : Result ℕ Refusal) (p : Problem) (need : ℕ) → after_fields f p ≡ Ok need → Good f p need
good (Ok n) p need e = at (judge_graph p) refl e
  where
    at : (v : Verdict) → judge_graph p ≡ v → after_graph v n ≡ Ok need → Good (Ok n) p need
    at (Ok tt) g q = record { fields = q; graph = g }
    at (Err r) g q = refused_not_done q
good (Err r) p need e = refused_not_done e

-- An answer whose verdict is a refusal is that refusal.
pub refused_as_lem : (f : Result ℕ Refusal) (x : Refusal) → as_verdict f ≡ Err x → f ≡ Err x
refused_as_lem (Ok n) x e = refused_not_accepted (sym e)
refused_as_lem (Err r) x e = cc

-- One whose verdict is good has a length.
pub accepted_as : (f : Result ℕ Refusal) → as_verdict f ≡ Ok tt → (need : ℕ) × (f ≡ Ok need)
accepted_as (Ok n) e = (n, refl)
accepted_as (Err r) e = refused_not_accepted e

module _ (p : Problem) (l : List ℕ) (numbered : Numbered p l) where
  -- The numbers are the problem's own.
  pub same_problem : problem_of l ≡ p
  same_problem = ap problem_of numbered.is ∙ problem_of_numbers (edition_of p) p numbered.sized

  same_checks : check_numbers l ≡ check_problem p
  unfolding check_numbers check_problem
  same_checks = rw numbered.is (ap (after_fields (check_fields (numbers_of p))) (problem_of_numbers (edition_of p) p numbered.sized))

  pub checks_problem : (f : Result ℕ Refusal) → f ≡ check_numbers l → f ≡ check_problem p
  checks_problem f is = is ∙ same_checks

  module _ (v : Verdict) (is : v ≡ judge_numbers l) where
    pub judges_problem : v ≡ judge_problem p
    unfolding judge_numbers judge_problem
    judges_problem = is ∙ ap as_verdict same_checks

    pub opened : v ≡ Ok tt → Checked l
    unfolding judge_numbers check_numbers
    opened e =
        let (need, done) = accepted_as (check_numbers l) (sym is ∙ e) in
        let g : Good (check_fields l) (problem_of l) need = good (check_fields l) (problem_of l) need done in
        record { size = ap length numbered.is ∙ numbers_length (edition_of p) p numbered.sized; need = need; fields = g.fields; graph = g.graph }

-- Checked numbers are those of a problem that passes its checks, in whatever edition they are.
pub checked_problem : (l : List ℕ) → Checked l → judge_problem (problem_of l) ≡ Ok tt
unfolding judge_problem check_problem
checked_problem l ok =
    let (need, done) = settled l ok.size (field_facts l ok.need ok.fields) in
    ap (λ (f : Result ℕ Refusal). as_verdict (after_fields f (problem_of l))) done
    ∙ ap (λ (v : Verdict). as_verdict (after_graph v need)) ok.graph
