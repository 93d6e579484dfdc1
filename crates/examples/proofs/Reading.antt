-- What Read's answer is, from its parts: a file whose numbers are a problem's holds that problem, and a refusal stands as it is.
use Prim.Native.Nat.{ℕ}
use Rattle.std.specs.Prelude.{Err, Ok, Result}
use mathlib.Core.Path.{◌≡◌, refl, sym, ap}
use mathlib.Core.List.{List, [], ◌∷◌}
use mathlib.Core.Bool.{true, false}
use lib.ListN.{length}
use lib.Dec.{eqb, ltb}
use borrow.Author.Tests.{eqb-true, not-true}
use Rattle.model.specs.declared.Refusal.{Refusal}
use Rattle.model.specs.declared.Problem.{Problem}
use Rattle.model.specs.Numbers.{numbers_in, Sized}
use Rattle.model.specs.File.{edition_in, read_fields}
use Rattle.model.specs.Graph.{judge_graph}
use Rattle.model.specs.Operations.{read_rest, read_file}
use Rattle.model.proofs.Answers.{refused_not_accepted}
use Rattle.model.proofs.Cases.{and_left, and_right, true_not_false}
use Rattle.numbers.proofs.Inverse.{problem_of_numbers}
use Rattle.examples.specs.Tests.{done_at, same, verdict_of}

pub same_is : (xs ys : List ℕ) → same xs ys ≡ true → xs ≡ ys
unfolding same
same_is [] [] e = refl
same_is [] (y ∷ ys) e = true_not_false (sym e)
same_is (x ∷ xs) [] e = true_not_false (sym e)
same_is (x ∷ xs) (y ∷ ys) e = rw (eqb-true x y (and_left (eqb x y) _ e), same_is xs ys (and_right (eqb x y) _ e))

done_is : (size : ℕ) (a : Result ℕ Refusal) → done_at size a ≡ true → (at : ℕ) × (a ≡ Ok at) × (ltb at size ≡ false)
done_is size (Ok at) e = (at, refl, not-true (ltb at size) e)
done_is size (Err f) e = true_not_false (sym e)

module _ (p : Problem) (sized : Sized p) (graph : judge_graph p ≡ Ok tt) where
  rest_accepts : (size at edition : ℕ) (a : Result ℕ Refusal) (l : List ℕ) → a ≡ Ok at → ltb at size ≡ false → l ≡ numbers_in edition p →
      read_rest size a l ≡ Ok p
  rest_accepts size at edition a l done whole numbers = rw (done, numbers, whole, problem_of_numbers edition p sized, graph)

  pub read_accepts : (file : List ℕ) → done_at (length file) (read_fields file).answer ≡ true →
      same (read_fields file).numbers (numbers_in (edition_in (read_fields file).numbers) p) ≡ true → read_file file ≡ Ok p
  unfolding read_file
  read_accepts file ends numbers =
      let (at, done, whole) = done_is (length file) (read_fields file).answer ends in
      let edition = edition_in (read_fields file).numbers in
      rest_accepts (length file) at edition (read_fields file).answer (read_fields file).numbers done whole (same_is (read_fields file).numbers (numbers_in edition p) numbers)

pub read_refuses : (f : Refusal) (r : Result Problem Refusal) → verdict_of r ≡ Err f → r ≡ Err f
read_refuses f (Ok p) e = refused_not_accepted (sym e)
read_refuses f (Err g) e = let q : g ≡ f = cc in ap Err q
