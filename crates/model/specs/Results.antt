-- Interference, Bound, Run and Eviction: what each gives.
use Rattle.std.specs.Prelude.{ℕ, ◌+◌, ◌*◌, ◌/◌, ◌%◌, ◌^◌, ◌≤◌, ◌<◌, ◌≡◌, List, ◌∷◌, reverse, Bool, ◌⊎◌, ◌↔◌, length, get_or, Err, Ok, Result}
use Rattle.model.specs.Refusals.{Verdict}
use Rattle.model.specs.declared.Refusal.{Refusal}
use Rattle.model.specs.declared.Run.{Run}
use Rattle.model.specs.declared.Eviction.{Eviction}
use Rattle.std.proofs.lemmas.List.Edits.{sets}
use Rattle.model.specs.declared.Refusal.TheVariants.{BufferTooShort, BoundTooLarge}
use Rattle.model.specs.declared.Problem.{Problem}
use Rattle.model.specs.declared.Bound.{Bound}
use Rattle.model.specs.declared.Reason.{Reason}
use Rattle.model.specs.Zero.{cycles as cycles_of}
use Rattle.model.specs.Places.{most_vertices}
use Rattle.model.specs.Limits.{most_regions}
use Rattle.model.specs.Numbers.{table}
use Rattle.model.specs.Costs.{function_of, how_many}
use Rattle.model.specs.Walks.{EdgeOf, last_vertex, Lawful, Greatest, Smaller}
use Rattle.model.specs.Layouts.{need_of}
use Rattle.model.specs.Interference.{Interferes}
use Rattle.model.specs.Charges.{Told, visit_charge, first_loads, second_total, charges}
use Rattle.model.specs.Runs.{cycles, loads, held_after}
use Rattle.model.specs.Evictions.{EvictionIs}
use Rattle.model.specs.Verdicts.{word_count, judge_interference, judge_bound, judge_run, judge_eviction}

-- Bit g of a word is set.
abbrev pub Member : ℕ → ℕ → Type 0
Member word g = word / 2 ^ g % 2 ≡ 1

-- **Interference**: word v × functions + f has bit g set for each member g of the set of v and f, and no other bit. Later words keep their values.
pub record Sets (p : Problem) (words after : List ℕ) (count : ℕ) : Type 0 where
  pub filled : count ≡ word_count p
  pub member : (v f g : ℕ) → v < p.vertex_count → f < p.function_count →
      Member (get_or after (v * p.function_count + f) 0) g ↔ Interferes (function_of p) (EdgeOf p) v f g
  pub later : (k : ℕ) → count ≤ k → get_or after k 0 ≡ get_or words k 0
  pub long : length after ≡ length words

abbrev pub InterferenceSays : Problem → List ℕ → List ℕ → Result ℕ Refusal → Type 0
InterferenceSays p words after (Ok count) = (judge_interference p (length words) ≡ Ok tt) × Sets p words after count
InterferenceSays p words after (Err f) = (judge_interference p (length words) ≡ Err f) × (after ≡ words)

-- The bound's limit.
abbrev pub bound_limit : ℕ
bound_limit = 1000000000000000000

-- **Bound**: the smaller of two totals, the greatest visit charges over all lawful walks plus the first loads, and the greatest second total. What it
-- has above the greatest visit charges is shown as first loads. No lawful walk, of any length, from an empty scratchpad, has more simulated cycles.
pub record BoundIs (p : Problem) (layout : List ℕ) (b : Bound) : Type 0 where
  pub contested : ℕ → Bool
  pub early : ℕ → Bool
  pub cold : ℕ → Bool
  pub told : Told p layout contested early cold
  pub need_is : b.need.0 ≡ need_of p layout
  pub contested_are : b.contested ≡ how_many p.vertex_count contested
  pub greatest : ℕ
  pub greatest_is_lem : Greatest p (charges (visit_charge p contested)) greatest
  pub bound_is : Smaller p (greatest + first_loads p cold) (second_total p contested early) b.bound.0
  pub first_is : greatest + b.first.0 ≡ b.bound.0
  pub within_limit : b.bound.0 ≤ bound_limit
  pub covers : (h : List ℕ) → Lawful p h → cycles p layout (last_vertex p ∷ h) ≤ b.bound.0

-- Some lawful walk's sum passes the bound's limit.
abbrev pub Passes : Problem → (List ℕ → ℕ) → Type 0
Passes p f = (h : List ℕ) × Lawful p h × (bound_limit < f (last_vertex p ∷ h))

-- 14: the bound passes its limit, since both totals do.
pub record PastTheLimit (p : Problem) (layout : List ℕ) : Type 0 where
  pub contested : ℕ → Bool
  pub early : ℕ → Bool
  pub cold : ℕ → Bool
  pub told : Told p layout contested early cold
  pub over : Passes p (λ h. charges (visit_charge p contested) h + first_loads p cold)
  pub second_over : Passes p (second_total p contested early)

-- A layout is *accepted* with a problem if none of Bound's refusals applies.
abbrev pub AcceptedWith : Problem → List ℕ → Type 0
AcceptedWith p layout = (judge_bound p layout ≡ Ok tt) × (PastTheLimit p layout → ⊥)

abbrev pub BoundSays : Problem → List ℕ → Result Bound Refusal → Type 0
BoundSays p layout (Ok b) = (judge_bound p layout ≡ Ok tt) × BoundIs p layout b
BoundSays p layout (Err f) =
    (judge_bound p layout ≡ Err f) ⊎ ((judge_bound p layout ≡ Ok tt) × (f ≡ BoundTooLarge 0) × PastTheLimit p layout)

-- **Run**: cycles, and loads counted as they occur.
abbrev pub run_after : Verdict → Problem → List ℕ → List ℕ → Result Run Refusal
run_after (Ok _) p layout walk = Ok (record { cycles = cycles_of (cycles p layout (reverse walk)); loads = loads p layout (reverse walk) })
run_after (Err f) p layout walk = Err f

unfoldable pub run_walk : Problem → List ℕ → List ℕ → Result Run Refusal
run_walk p layout walk = run_after (judge_run p layout walk) p layout walk

-- What the lent regions hold afterwards: the function held in each, 255 for none; after a refusal what they held.
abbrev pub regions_after : Verdict → Problem → List ℕ → List ℕ → List ℕ → List ℕ
regions_after (Ok _) p layout walk regions = table most_regions (held_after p layout (reverse walk))
regions_after (Err f) p layout walk regions = regions

unfoldable pub run_regions : Problem → List ℕ → List ℕ → List ℕ → List ℕ
run_regions p layout walk regions = regions_after (judge_run p layout walk) p layout walk regions

-- **Eviction**: the reason and the walk's entries, and the walk at the front of the lent buffer. Last 10, the buffer has fewer entries than the walk (entries
-- needed). The buffer's other entries keep their values, after a refusal all of them.
abbrev pub EvictionSays : Problem → List ℕ → ℕ → List ℕ → List ℕ → Result Eviction Refusal → Type 0
EvictionSays p layout v before after (Ok e) =
    (judge_eviction p layout v ≡ Ok tt)
    × ((walk : List ℕ) × EvictionIs p layout v e.reason walk × (e.count ≡ length walk) × (length walk ≤ length before) × (after ≡ sets before 0 walk))
EvictionSays p layout v before after (Err f) =
    (after ≡ before)
    × ((judge_eviction p layout v ≡ Err f)
    ⊎ ((judge_eviction p layout v ≡ Ok tt)
    × ((reason : Reason) × (walk : List ℕ) × EvictionIs p layout v reason walk × (length before < length walk) × (f ≡ BufferTooShort (length walk)))))

-- No walk that Eviction shows is longer, two entries a vertex: with room for as many it never says 10.
abbrev pub most_shown : ℕ
most_shown = 2 * most_vertices

abbrev pub EvictionFits : Problem → List ℕ → ℕ → List ℕ → Result Eviction Refusal → Type 0
EvictionFits p layout v before (Ok e) = e.count ≤ most_shown
EvictionFits p layout v before (Err f) = most_shown ≤ length before → judge_eviction p layout v ≡ Err f
