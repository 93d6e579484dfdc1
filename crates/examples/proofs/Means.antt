-- A claim that passes its test holds.
use Prim.Native.Nat.{ℕ, ◌+◌, ◌-◌, ◌<◌}
use Rattle.std.specs.Prelude.{Err, Ok, Result}
use Rattle.model.specs.Refusals.{Verdict}
use Prim.Native.String.{String}
use mathlib.Core.Path.{◌≡◌, refl, sym, ap, ◌∙◌, subst}
use mathlib.Core.List.{List, [], reverse, Memᴰ}
use mathlib.Core.Bool.{true, cond}
use mathlib.Core.Logic.{◌↔◌, inl}
use native.Mathlib.Omega.{arith}
use lib.ListN.{length, get_or}
use lib.Dec.{eqb}
use borrow.Author.Tests.{eqb-true, leb-true}
use Rattle.model.specs.declared.Refusal.{Refusal}
use Rattle.model.specs.declared.Problem.{Problem}
use Rattle.model.specs.Refusals.{number, place}
use Rattle.model.specs.Graph.{judge_graph}
use Rattle.model.specs.Costs.{function_of, how_many}
use Rattle.model.specs.Walks.{EdgeOf}
use Rattle.model.specs.Layouts.{need_of}
use Rattle.model.specs.Interference.{Interferes}
use Rattle.model.specs.Charges.{visit_charge, first_loads, second_total, charges}
use Rattle.model.specs.Runs.{cycles, loads}
use Rattle.model.specs.Operations.{read_file}
use Rattle.model.specs.Verdicts.{judge_bound, judge_run}
use Rattle.model.specs.Results.{bound_limit, run_walk}
use Rattle.model.specs.Decimals.{text}
use Rattle.model.specs.Slips.{refusal_line, slip_bytes, BoundAfter, SlipIs}
use Rattle.model.proofs.Cases.{and_left, and_right, true_not_false}
use Rattle.sound.proofs.Decide.{told}
use Rattle.examples.specs.Claims.{Claim, sets, bounds, second_totals, bound_refused, runs, run_refused, longest_run, reads, read_refused, prints, prints_refusal, RefusedAs, given, Means}
use Rattle.examples.specs.Tests.{has, settled, own_member, own_fresh, set_is, shared, contested, early, cold, accepted, verdict_of, refused_as, bounds_are, reads_as, refusal_is, passes}
use Rattle.examples.proofs.Passed.{each, all_at, has_is, every_below_lem}
use Rattle.examples.proofs.Lawful.{at_most, greatest_is_lem, smaller_is_lem}
use Rattle.examples.proofs.Tables.{member_below, member_is, function_below, member_all, tables}
use Rattle.examples.proofs.Reading.{same_is, read_accepts, read_refuses}
use Rattle.model.specs.Places as places

accepted_is : (v : Verdict) → accepted v ≡ true → v ≡ Ok tt
accepted_is (Ok tt) e = refl
accepted_is (Err f) e = true_not_false (sym e)

refused_as_lem : (n at : ℕ) (v : Verdict) (Says : Refusal → Type 0) → ((f : Refusal) → v ≡ Err f → Says f) →
    refused_as n at v ≡ true → RefusedAs n at Says
refused_as_lem n at (Ok tt) Says so e = true_not_false (sym e)
refused_as_lem n at (Err f) Says so e =
    (f, so f refl, eqb-true (number f) n (and_left (eqb (number f) n) _ e), eqb-true (place f) at (and_right (eqb (number f) n) _ e))

set_is_lem : (p : Problem) (xs : List ℕ) (v : ℕ) → settled p ≡ true → set_is p xs v ≡ true → v < p.vertex_count →
    (g : ℕ) → Interferes (function_of p) (EdgeOf p) v (function_of p v) g ↔ Memᴰ g xs
unfolding set_is
set_is_lem p xs v ready is below g =
    let f : ℕ = function_of p v in
    let (members, (others, _)) = each _ is in (
      (λ i.
          let t = member_all p ready f (function_below p ready v below) v g i in
          let e = every_below_lem p.function_count (λ g. cond (own_member p v g) (has xs g) true) others g (member_below p f v g t) in
          has_is xs g (rw t at e)),
      (λ m. member_is p f v g (all_at (own_member p v) xs members m)),
    )

sets_mean : (p : Problem) (lists : List (List ℕ)) → passes (sets p lists) ≡ true → Means (sets p lists)
unfolding passes
sets_mean p lists ok v below =
    let (ready, (are, _)) = each _ ok in
    set_is_lem p (get_or lists v []) v ready (every_below_lem p.vertex_count (λ v. set_is p (get_or lists v []) v) are v below) below

bounds_mean : (p : Problem) (layout : List ℕ) (need tally first most : ℕ) → bounds_are p layout need tally first most ≡ true →
    Means (bounds p layout need tally first most)
unfolding bounds_are
bounds_mean p layout need tally first most ok =
    let (judged, (ready, (need_is, (tally_is, (low, (limit, (greatest, (smaller, (longest, _))))))))) = each _ ok in (
      accepted_is (judge_bound p layout) judged,
      record {
        contested = contested p layout;
        early = early p layout;
        cold = cold p layout;
        told = told p layout (shared p layout) (own_fresh p) (cold p layout) (tables p ready layout);
        need_is = eqb-true need (need_of p layout) need_is;
        contested_are = eqb-true tally (how_many p.vertex_count (contested p layout)) tally_is;
        greatest = most - first;
        greatest_is_lem = greatest_is_lem p (charges (visit_charge p (contested p layout))) (most - first) greatest;
        bound_is = smaller_is_lem p (most - first + first_loads p (cold p layout)) (second_total p (contested p layout) (early p layout)) most smaller;
        first_is = omega (arith, leb-true first most low);
        within_limit = leb-true most bound_limit limit;
        covers = at_most p (cycles p layout) most longest;
      },
    )

second_mean : (p : Problem) (layout : List ℕ) (most : ℕ) → passes (second_totals p layout most) ≡ true → Means (second_totals p layout most)
unfolding passes
second_mean p layout most ok =
    let (ready, (is, _)) = each _ ok in (
      contested p layout,
      early p layout,
      cold p layout,
      told p layout (shared p layout) (own_fresh p) (cold p layout) (tables p ready layout),
      greatest_is_lem p (second_total p (contested p layout) (early p layout)) most is,
    )

runs_mean : (p : Problem) (layout walk : List ℕ) (c n : ℕ) → passes (runs p layout walk c n) ≡ true → Means (runs p layout walk c n)
unfolding passes run_walk
runs_mean p layout walk c n ok =
    let (judged, (cycles_are, (loads_are, _))) = each _ ok in
    rw (
      accepted_is (judge_run p layout walk) judged,
      eqb-true (cycles p layout (reverse walk)) c cycles_are,
      eqb-true (loads p layout (reverse walk)) n loads_are,
    )

run_refuses : (p : Problem) (layout walk : List ℕ) (f : Refusal) → judge_run p layout walk ≡ Err f →
    run_walk p layout walk ≡ Err f
unfolding run_walk
run_refuses p layout walk f e = rw e

reads_mean : (file : List ℕ) (p : Problem) → reads_as file p ≡ true → Means (reads file p)
unfolding reads_as
reads_mean file p ok =
    let (ends, (numbers, (functions, (vertices, (edges, (loops, (graph, _))))))) = each _ ok in
    read_accepts p
    (record {
      functions = eqb-true (length p.functions) places.most_functions functions;
      vertices = eqb-true (length p.vertices) places.most_vertices vertices;
      edges = eqb-true (length p.edges) places.most_edges edges;
      loops = eqb-true (length p.loops) places.most_loops loops;
    })
    (accepted_is (judge_graph p) graph) file ends numbers

-- Read accepts the file, Bound answers these numbers, and the slip is of these.
prints_mean : (file : List ℕ) (p : Problem) (layout : List ℕ) (need tally first most : ℕ) (slip : String) →
    passes (prints file p layout need tally first most slip) ≡ true → SlipIs file layout (text slip)
unfolding passes
prints_mean file p layout need tally first most slip ok =
    let (file_is, (numbers_are, (bytes_are, _))) = each _ ok in
    let accepted : Ok p ≡ read_file file = sym (reads_mean file p file_is) in
    record {
      answer = Ok (given need tally first most);
      says = subst (λ (a : Result Problem Refusal). BoundAfter a layout (Ok (given need tally first most))) accepted (bounds_mean p layout need tally first most numbers_are);
      bytes = same_is (text slip) _ bytes_are ∙ ap (λ (a : Result Problem Refusal). slip_bytes a (Ok (given need tally first most))) accepted;
    }

refusal_prints : (file : List ℕ) (slip : List ℕ) (a : Result Problem Refusal) → read_file file ≡ a → refusal_is slip (verdict_of a) ≡ true →
    (layout : List ℕ) → SlipIs file layout slip
refusal_prints file slip (Ok p) e ok layout = true_not_false (sym ok)
refusal_prints file slip (Err f) e ok layout =
    record {
      answer = Err f;
      says = subst (λ (a : Result Problem Refusal). BoundAfter a layout (Err f)) (sym e) tt;
      bytes = same_is slip (refusal_line f) ok ∙ ap (λ (a : Result Problem Refusal). slip_bytes a (Err f)) (sym e);
    }

pub means : (c : Claim) → passes c ≡ true → Means c
unfolding passes
means (sets p lists) ok = sets_mean p lists ok
means (bounds p layout need tally first most) ok = bounds_mean p layout need tally first most ok
means (second_totals p layout most) ok = second_mean p layout most ok
means (bound_refused p layout n at) ok = refused_as_lem n at (judge_bound p layout) _ (λ f e. inl e) ok
means (runs p layout walk c n) ok = runs_mean p layout walk c n ok
means (run_refused p layout walk n at) ok = refused_as_lem n at (judge_run p layout walk) _ (run_refuses p layout walk) ok
means (longest_run p layout c) ok = greatest_is_lem p (cycles p layout) c ok
means (reads file p) ok = reads_mean file p ok
means (read_refused file n at) ok = refused_as_lem n at (verdict_of (read_file file)) _ (λ f. read_refuses f (read_file file)) ok
means (prints file p layout need tally first most slip) ok = prints_mean file p layout need tally first most slip ok
means (prints_refusal file slip) ok = refusal_prints file (text slip) (read_file file) refl ok
