-- How an export's outcome follows from Read's answer: a refusal stands.
use Prim.Native.Nat.{ℕ}
use Rattle.std.specs.Prelude.{Err, Result}
use Rattle.model.specs.Refusals.{Verdict}
use mathlib.Core.Path.{◌≡◌, sym, ap, ◌∙◌, subst}
use mathlib.Core.List.{List}
use Rattle.model.specs.declared.Refusal.{Refusal}
use Rattle.model.specs.declared.Problem.{Problem}
use Rattle.model.specs.Numbers.{problem_of}
use Rattle.model.specs.Operations.{read_verdict, read_file}
use Rattle.file.specs.Steps.{NumbersRead}
use Rattle.outcomes.specs.Outcomes.{ByRead}

-- Read's answer, where the numbers l were read with the verdict v.
module _ (s l : List ℕ) (v : Verdict) (found : NumbersRead s l v) where
  answered : (w : Verdict) → v ≡ w → read_verdict w (problem_of l) ≡ read_file s
  answered w e = ap (λ (x : Verdict). read_verdict x (problem_of l)) (sym e) ∙ found.answer

  -- What is right by Read's answer.
  module _ (Good : Problem → Type 0) (Refused : Refusal → Type 0) where
    pub right_refused : (f : Refusal) → v ≡ Err f → Refused f → ByRead (read_file s) Good Refused
    right_refused f e g = subst (λ (a : Result Problem Refusal). ByRead a Good Refused) (answered _ e) g
