-- The loops that stand among a problem's numbers, where these passed the fields' checks.
use Prim.Native.Nat.{ℕ}
use mathlib.Core.List.{List}
use Rattle.facts.specs.Fields.{FieldFacts}
use Rattle.lookup.specs.Lists.{loops_in}
use Rattle.lookup.proofs.Places.{few_loops, header_low, last_small}
use Rattle.ranges.specs.Ranges.{Ranged}

pub loops_ranged : (l : List ℕ) → FieldFacts l → Ranged (loops_in l)
loops_ranged l ok = record { few = few_loops l ok; header = header_low l ok; last = last_small l ok }
