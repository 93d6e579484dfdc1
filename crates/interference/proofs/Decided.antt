-- Interference's contract decides its answer and the lent words: no two meet it for one problem and the same words at first.
use Prim.Native.Nat.{ℕ, zero, suc, ◌+◌, ◌*◌, ◌/◌, ◌%◌, ◌^◌, ◌<◌}
use Rattle.std.specs.Prelude.{Err, Ok, Result}
use Rattle.model.specs.declared.Refusal.{Refusal}
use mathlib.Core.Path.{◌≡◌, sym, ap, ◌∙◌}
use mathlib.Core.List.{List}
use native.Mathlib.Nat.{div-lt_iff_lt-mul, div-add-mod', mod-lt}
use native.Mathlib.Omega.{arith}
use lib.ListN.{get_or}
use lib.Seq.{ext_get_or}
use Rattle.model.specs.declared.Problem.{Problem}
use Rattle.model.specs.Results.{Sets, InterferenceSays}
use Rattle.model.proofs.Answers.{refused_not_accepted}
use Rattle.model.proofs.Cases.{by_order}
use Rattle.bits.proofs.Members.{same_members}

-- A place among the words is that of some vertex and function.
vertex_of_lem : (k vertices count : ℕ) → k < vertices * count → (k / count < vertices) × (k % count < count) × (k / count * count + k % count ≡ k)
vertex_of_lem k vertices zero h = absurd (omega arith)
vertex_of_lem k vertices (suc count) h =
    ((div-lt_iff_lt-mul {k = suc count} {x = k} {y = vertices} (omega arith)).1 h, mod-lt k {m = suc count} (omega arith), div-add-mod' k (suc count))

module _ (p : Problem) (words after after' : List ℕ) (small : (k : ℕ) → get_or after k 0 < 2 ^ 32) (small' : (k : ℕ) → get_or after' k 0 < 2 ^ 32) where
  module _ (n n' : ℕ) (a : Sets p words after n) (b : Sets p words after' n') where
    same_set : (k : ℕ) → k < n → get_or after k 0 ≡ get_or after' k 0
    same_set k h =
        let (low, few, is) = vertex_of_lem k p.vertex_count p.function_count (omega (arith, a.filled)) in
        let v = k / p.function_count in
        let f = k % p.function_count in
        ap (λ (x : ℕ). get_or after x 0) (sym is)
        ∙ same_members 32 (get_or after (v * p.function_count + f) 0) (get_or after' (v * p.function_count + f) 0) (small _) (small' _)
        (λ g. (λ m. (b.member v f g low few).1 ((a.member v f g low few).0 m), λ m. (a.member v f g low few).1 ((b.member v f g low few).0 m)))
        ∙ ap (λ (x : ℕ). get_or after' x 0) is

    same_words : after ≡ after'
    same_words =
        ext_get_or 0 after after' (a.long ∙ sym b.long)
        (λ k lt. by_order k n (same_set k) (λ past. a.later k past ∙ sym (b.later k (omega (arith, a.filled, b.filled)))))

  pub interference_decided : (r s : Result ℕ Refusal) → InterferenceSays p words after r → InterferenceSays p words after' s → (r ≡ s) × (after ≡ after')
  interference_decided (Ok n) (Ok m) a b = (ap Ok (a.1.filled ∙ sym b.1.filled), same_words n m a.1 b.1)
  interference_decided (Ok n) (Err g) a b = refused_not_accepted (sym b.0 ∙ a.0)
  interference_decided (Err f) (Ok m) a b = refused_not_accepted (sym a.0 ∙ b.0)
  interference_decided (Err f) (Err g) a b =
      let same : Err f ≡ Err g = sym a.0 ∙ b.0 in
      let is : f ≡ g = cc in
      (ap Err is, a.1 ∙ sym b.1)
