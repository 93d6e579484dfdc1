-- What a good answer of Read, of the problem's checks and of Write tells of the stages before it.
use Prim.Native.Nat.{ℕ, ◌≤◌}
use Rattle.std.specs.Prelude.{Err, Ok, Result}
use Rattle.model.specs.Refusals.{Verdict}
use mathlib.Core.Path.{◌≡◌, refl, ap}
use mathlib.Core.List.{List}
use native.Mathlib.Omega.{arith}
use Rattle.model.specs.declared.Refusal.{Refusal}
use Rattle.model.specs.declared.Problem.{Problem}
use Rattle.model.specs.Numbers.{numbers_of, problem_of}
use Rattle.model.specs.File.{check_fields}
use Rattle.model.specs.Graph.{judge_graph}
use Rattle.model.specs.Operations.{read_verdict, read_rest, after_graph, after_fields, check_problem, write_checked, write_problem}
use Rattle.model.proofs.Cases.{by_less}

-- The fields gave the answer f and the numbers l, and Read accepts p.
pub record Whole (size : ℕ) (f : Result ℕ Refusal) (l : List ℕ) (p : Problem) : Type 0 where
  pub end : ℕ
  pub done : f ≡ Ok end
  pub none_left : size ≤ end
  pub graph : judge_graph (problem_of l) ≡ Ok tt
  pub problem : problem_of l ≡ p

module _ (size : ℕ) (l : List ℕ) (p : Problem) where
  unread_not : {P : Type 0} (r : Refusal) → Err r ≡ Ok p → P
  unread_not r e = let z : ◌≡◌ {A = ℕ} 0 1 = cc in absurd (omega arith)

  at_graph : (end : ℕ) → size ≤ end → (v : Verdict) → judge_graph (problem_of l) ≡ v →
      read_verdict v (problem_of l) ≡ Ok p → Whole size (Ok end) l p
  at_graph end h (Ok tt) g e = record { end = end; done = refl; none_left = h; graph = g; problem = cc }
  at_graph end h (Err r) g e = unread_not r e

  pub whole : (f : Result ℕ Refusal) → read_rest size f l ≡ Ok p → Whole size f l p
  whole (Ok end) =
      by_less (λ (a : Result Problem Refusal). a ≡ Ok p → Whole size (Ok end) l p) end size
      (λ h e. unread_not _ e)
      (λ h e. at_graph end h (judge_graph (problem_of l)) refl e)
  whole (Err r) = unread_not r

-- The checks of p are passed, and its file has `need` bytes.
pub record GoodProblem (p : Problem) (need : ℕ) : Type 0 where
  pub fields : check_fields (numbers_of p) ≡ Ok need
  pub graph : judge_graph p ≡ Ok tt

module _ (p : Problem) (need : ℕ) where
  refused_not : {P : Type 0} (r : Refusal) → Err r ≡ Ok need → P
  refused_not r e = let z : ◌≡◌ {A = ℕ} 0 1 = cc in absurd (omega arith)

  past_graph : (v : Verdict) (n : ℕ) → after_graph v n ≡ Ok need → (◌≡◌ {A = Result ℕ Refusal} (Ok n) (Ok need)) × (v ≡ Ok tt)
  past_graph (Ok tt) n e = (e, refl)
  past_graph (Err r) n e = refused_not r e

  past_fields : (f : Result ℕ Refusal) → after_fields f p ≡ Ok need → (f ≡ Ok need) × (judge_graph p ≡ Ok tt)
  past_fields (Ok n) e = past_graph (judge_graph p) n e
  past_fields (Err r) e = refused_not r e

  pub good_problem : check_problem p ≡ Ok need → GoodProblem p need
  unfolding check_problem
  good_problem e = let r = past_fields (check_fields (numbers_of p)) e in record { fields = r.0; graph = r.1 }

  pub is_checked : GoodProblem p need → check_problem p ≡ Ok need
  unfolding check_problem
  is_checked r = rw (r.fields, r.graph)

-- Write's checks gave f, and it wrote n bytes into the room.
pub record Roomy (f : Result ℕ Refusal) (size n : ℕ) : Type 0 where
  pub checked : f ≡ Ok n
  pub room : n ≤ size

module _ (room n : ℕ) where
  roomy : (f : Result ℕ Refusal) → write_checked f room ≡ Ok n → Roomy f room n
  roomy (Ok need) =
      by_less (λ (a : Result ℕ Refusal). a ≡ Ok n → Roomy (Ok need) room n) room need
      (λ h e. let z : ◌≡◌ {A = ℕ} 0 1 = cc in absurd (omega arith))
      (λ h e. let q : need ≡ n = cc in record { checked = ap Ok q; room = omega arith })
  roomy (Err r) = λ e. let z : ◌≡◌ {A = ℕ} 0 1 = cc in absurd (omega arith)

  pub has_room : (p : Problem) → write_problem p room ≡ Ok n → Roomy (check_problem p) room n
  unfolding write_problem
  has_room p e = roomy (check_problem p) e
