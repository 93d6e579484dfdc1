-- A problem assembled from its lists, and that it is the problem whose numbers they say.
use Prim.Native.Nat.{ℕ}
use mathlib.Core.Path.{◌≡◌, ap, ◌∙◌}
use mathlib.Core.List.{List}
use lib.ListN.{set, replicate}
use lib.Seq.{sets}
use Rattle.model.specs.declared.Problem.{Problem}
use Rattle.model.specs.Numbers.{numbers_in, problem_of, Sized}
use Rattle.model.specs.Limits.{first_edition}
use Rattle.model.specs.File.{number_count}
use Rattle.numbers.proofs.Inverse.{problem_of_numbers}
use Rattle.samples.specs.Listed.{listed}
use Rattle.model.specs.Places as places

-- The four lists stored one after another.
pub assembled : (scratchpad : ℕ) (functions vertices edges loops first second third fourth : List ℕ) (p : Problem) →
    first ≡ sets (set (set (replicate number_count 0) places.edition 1) places.scratchpad scratchpad) places.function_count functions →
    second ≡ sets first places.vertex_count vertices → third ≡ sets second places.edge_count edges → fourth ≡ sets third places.loop_count loops →
    p ≡ problem_of fourth → p ≡ problem_of (listed scratchpad functions vertices edges loops)
unfolding listed
assembled scratchpad functions vertices edges loops first second third fourth p f v e o is =
    is
    ∙ ap problem_of
    (o
    ∙ ap (λ (l : List ℕ). sets l places.loop_count loops)
    (e ∙ ap (λ (l : List ℕ). sets l places.edge_count edges) (v ∙ ap (λ (l : List ℕ). sets l places.vertex_count vertices) f)))

-- In edition 1, which is no part of it.
pub is_problem : (p : Problem) → Sized p → (l : List ℕ) → l ≡ numbers_in first_edition p → problem_of l ≡ p
is_problem p sized l e = ap problem_of e ∙ problem_of_numbers first_edition p sized
