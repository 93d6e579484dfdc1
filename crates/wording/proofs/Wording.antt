-- A sentence, part by part.
use Prim.Native.Nat.{ℕ, ◌≤◌}
use native.Mathlib.Omega.{arith}
use mathlib.Core.Path.{◌≡◌, sym, ap, ap₂, ◌∙◌, subst}
use mathlib.Core.List.{List, ◌++◌, append_assoc}
use Rattle.model.specs.declared.Refusal.{Refusal}
use Rattle.model.specs.declared.Reason.{Reason}
use Rattle.model.specs.declared.Remark.{Remark}
use Rattle.model.specs.declared.Remark.TheVariants as remark
use Rattle.model.specs.Refusals.{last_refusal, number, place, refusal_of}
use Rattle.model.specs.Decimals.{text, decimal}
use Rattle.model.specs.Sentences.{phrase, sentence}
use Rattle.model.proofs.Refusals.{known, number_is, place_is}
use Rattle.decimals.specs.Written.{Written}
use Rattle.decimals.proofs.Storing.{written_both}

-- A label that is known.
pub label_known : {b c : List ℕ} {at next : ℕ} {xs ys : List ℕ} (n : ℕ) → xs ≡ ys → Written b at (xs ++ decimal n) c next → Written b at (ys ++ decimal n) c next
label_known n e w = rw e at w

-- The sentence of the refusal with a number and a place, part by part.
numbered : (n at : ℕ) → 1 ≤ n → n ≤ last_refusal →
    sentence (remark.Refused (refusal_of n at)) ≡ text "Refused " ++ decimal n ++ text ": " ++ (phrase n ++ decimal at) ++ text "."
unfolding sentence
numbered n at low high =
    ap₂ (λ (m p : ℕ). text "Refused " ++ decimal m ++ text ": " ++ phrase m ++ decimal p ++ text ".") (number_is n at low high) (place_is n at low high)
    ∙ ap (λ (s : List ℕ). s ++ text ".") (append_assoc (text "Refused " ++ decimal n ++ text ": ") (phrase n) (decimal at))

pub numbered_written : {b c d e f : List ℕ} {i j k l : ℕ} (n at : ℕ) → (1 ≤ n) × (n ≤ last_refusal) → Written b 0 (text "Refused " ++ decimal n) c i →
    Written c i (text ": ") d j → Written d j (phrase n ++ decimal at) e k → Written e k (text ".") f l → Written b 0 (sentence (remark.Refused (refusal_of n at))) f l
numbered_written {b} {c} {d} {e} {f} {i} {j} {k} {l} n at (low, high) v w x y =
    subst (λ (s : List ℕ). Written b 0 s f l) (sym (numbered n at low high)) (written_both (written_both (written_both v w) x) y)

pub refusal_written : {b c : List ℕ} {next : ℕ} (f : Refusal) (n at : ℕ) → n ≡ number f → at ≡ place f → Written b 0 (sentence (remark.Refused (refusal_of n at))) c next →
    Written b 0 (sentence (remark.Refused f)) c next
refusal_written {b} {c} {next} f n at e q w =
    subst (λ (r : Refusal). Written b 0 (sentence (remark.Refused r)) c next) (ap₂ refusal_of e q ∙ (known f).is) w

-- The number of a refusal has a phrase.
pub phrased : (f : Refusal) (n : ℕ) → n ≡ number f → (1 ≤ n) × (n ≤ last_refusal)
phrased f n e = let k = known f in (omega (arith, k.low), omega (arith, k.high))

-- A remark's sentence is that of the remark that is known.
pub remark_written : {b c : List ℕ} {next : ℕ} (r q : Remark) → r ≡ q → Written b 0 (sentence q) c next → Written b 0 (sentence r) c next
remark_written r q e w = rw e w

pub reason_written : {b c : List ℕ} {next : ℕ} (r q : Reason) → r ≡ q → Written b 0 (sentence (remark.Explained q)) c next → Written b 0 (sentence (remark.Explained r)) c next
reason_written r q e w = rw e w
