-- Tests that tell of one problem and layout tell the same of another with the same functions of vertices, edges and regions: no more than these is looked at.
use Prim.Native.Nat.{ℕ}
use mathlib.Core.Path.{◌≡◌}
use mathlib.Core.List.{List}
use mathlib.Core.Bool.{Bool, true}
use Rattle.model.specs.declared.Problem.{Problem}
use Rattle.model.specs.Costs.{function_of}
use Rattle.model.specs.Walks.{EdgeOf}
use Rattle.model.specs.Layouts.{region_of}
use Rattle.model.specs.Interference.{Contested, Early, Cold}
use Rattle.model.specs.Charges.{Told}

module _ {p q : Problem} {a b : List ℕ} (functions : function_of p ≡ function_of q) (edges : EdgeOf p ≡ EdgeOf q) (regions : region_of a ≡ region_of b) where
  pub told_alike : {contested early cold : ℕ → Bool} → Told p a contested early cold → Told q b contested early cold
  told_alike {contested} {early} {cold} told =
      record {
        contested_is = coe 0 1 (i. (v : ℕ) → contested v ≡ true → Contested (functions i) (edges i) (regions i) v) told.contested_is;
        contested_all = coe 0 1 (i. (v : ℕ) → Contested (functions i) (edges i) (regions i) v → contested v ≡ true) told.contested_all;
        early_is = coe 0 1 (i. (v : ℕ) → early v ≡ true → Early (functions i) (edges i) (regions i) v) told.early_is;
        early_all = coe 0 1 (i. (v : ℕ) → Early (functions i) (edges i) (regions i) v → early v ≡ true) told.early_all;
        cold_is = coe 0 1 (i. (f : ℕ) → cold f ≡ true → Cold (functions i) (edges i) (regions i) f) told.cold_is;
        cold_all = coe 0 1 (i. (f : ℕ) → Cold (functions i) (edges i) (regions i) f → cold f ≡ true) told.cold_all;
      }
