-- Numbers that were read are good, as the graph checks ask.
use Prim.Native.Nat.{ℕ}
use Rattle.std.specs.Prelude.{Ok, Result}
use Rattle.model.specs.declared.Refusal.{Refusal}
use mathlib.Core.Path.{◌≡◌, sym, ◌∙◌, ap}
use mathlib.Core.List.{List}
use lib.ListN.{length, replicate, length-replicate}
use Rattle.model.specs.File.{Scan, scanned, number_count, first_field, read_from, read_fields, check_fields}
use Rattle.facts.proofs.Judging.{good_judged}
use Rattle.facts.proofs.Reading.{ReadInto, fields_read}
use Rattle.facts.specs.Fields.{FieldFacts}
use Rattle.facts.proofs.Facts.{good_facts}

-- Reading into places that are all zero is what Read does.
module _ (z : List ℕ) (zeros : z ≡ replicate number_count 0) where
  pub zeros_long : length z ≡ number_count
  zeros_long = ap length zeros ∙ length-replicate {A = ℕ} number_count 0

  pub from_zeros : (s : List ℕ) (scan : Scan) → scan ≡ read_from number_count s 0 0 first_field z → scan ≡ read_fields s
  from_zeros s scan is = is ∙ ap (read_from number_count s 0 0 first_field) zeros

-- Numbers that were read are good.
module _ (s : List ℕ) (f : Result ℕ Refusal) (l : List ℕ) (is : scanned f l ≡ read_fields s) (end : ℕ) (e : f ≡ Ok end) where
  into : ReadInto number_count first_field (replicate number_count 0) l
  into = fields_read s end l (sym is ∙ ap (λ (x : Result ℕ Refusal). scanned x l) e)

  pub size_read : length l ≡ number_count
  size_read = into.size

  pub checked_read : (need : ℕ) × (check_fields l ≡ Ok need)
  checked_read = good_judged into.good 0 0

  pub facts_read : FieldFacts l
  facts_read = good_facts l into.good
