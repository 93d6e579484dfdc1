-- The slip of what was read from the fronts of a problem file and a layout, and that there is no other.
use Prim.Native.Nat.{ℕ, ◌≤◌}
use Rattle.std.specs.Prelude.{Err, Ok, Result}
use Rattle.model.specs.Refusals.{Verdict}
use Rattle.model.specs.declared.Problem.{Problem}
use Rattle.model.specs.declared.Bound.{Bound}
use mathlib.Core.Path.{◌≡◌, sym, ap, ◌∙◌, subst}
use mathlib.Core.List.{List, []}
use native.Mathlib.Omega.{arith}
use lib.ListN.{length}
use Rattle.model.specs.declared.Refusal.{Refusal}
use Rattle.model.specs.Numbers.{problem_of}
use Rattle.model.specs.Operations.{read_verdict, read_file}
use Rattle.model.specs.Results.{BoundSays}
use Rattle.model.specs.Slips.{refusal_line, bound_slip, slip_bytes, BoundAfter, SlipIs}
use Rattle.bound.proofs.Decided.{bound_decided}
use Rattle.decimals.specs.Written.{Written}
use Rattle.decimals.proofs.Storing.{written_front, written_size}
use Rattle.sheet.specs.Fronts.{FrontOf, FrontRead, AcceptedFront, Rendered}

module _ (file layout slip slip' : List ℕ) where
  one_slip : (a : Result Problem Refusal) (r r' : Result Bound Refusal) → BoundAfter a layout r → BoundAfter a layout r' → slip ≡ slip_bytes a r → slip' ≡ slip_bytes a r' → slip ≡ slip'
  one_slip (Ok p) r r' says says' is is' = is ∙ ap bound_slip (bound_decided p layout r r' says says') ∙ sym is'
  one_slip (Err f) r r' says says' is is' = is ∙ sym is'

  -- No two slips are those of one problem file and one layout.
  pub slip_decided : SlipIs file layout slip → SlipIs file layout slip' → slip ≡ slip'
  slip_decided s s' = one_slip (read_file file) s.answer s'.answer s.says s'.says s.bytes s'.bytes

slip_within : {blank slip xs : List ℕ} {size : ℕ} → Written blank 0 xs slip size → size ≤ length slip
slip_within w = omega (arith, w.room, w.behind, written_size w)

module _ {file numbers : List ℕ} {n : ℕ} where
  pub accepted_front : {v : Verdict} → FrontRead file n numbers v → v ≡ Ok tt → AcceptedFront file n numbers
  accepted_front {v} found e =
      record {
        accepted = λ f is. sym (found.answer f is) ∙ ap (λ (w : Verdict). read_verdict w (problem_of numbers)) e;
        checked = found.checked e;
      }

  module _ {blank slip : List ℕ} {size : ℕ} where
    -- A file that Read refuses: whatever the layout is.
    pub refused_rendered : {v : Verdict} (f : Refusal) → FrontRead file n numbers v → v ≡ Err f → Written blank 0 (refusal_line f) slip size →
        Rendered file n [] 0 slip size
    refused_rendered {v} f found e written =
        record {
          within = slip_within written;
          slip_is = λ s l is any.
              let refused : Err f ≡ read_file s = ap (λ (w : Verdict). read_verdict w (problem_of numbers)) (sym e) ∙ found.answer s is in
              record {
                answer = Err f;
                says = subst (λ (a : Result Problem Refusal). BoundAfter a l (Err f)) refused tt;
                bytes = written_front written ∙ ap (λ (a : Result Problem Refusal). slip_bytes a (Err f)) refused;
              };
        }

    pub bounded_rendered : {layout : List ℕ} {m : ℕ} (r : Result Bound Refusal) → AcceptedFront file n numbers →
        ((l : List ℕ) → FrontOf layout m l → BoundSays (problem_of numbers) l r) → Written blank 0 (bound_slip r) slip size → Rendered file n layout m slip size
    bounded_rendered r front says written =
        record {
          within = slip_within written;
          slip_is = λ s l is whole.
              let accepted : Ok (problem_of numbers) ≡ read_file s = sym (front.accepted s is) in
              record {
                answer = r;
                says = subst (λ (a : Result Problem Refusal). BoundAfter a l r) accepted (says l whole);
                bytes = written_front written ∙ ap (λ (a : Result Problem Refusal). slip_bytes a r) accepted;
              };
        }
