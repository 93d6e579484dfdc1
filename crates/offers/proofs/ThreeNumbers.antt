-- The three kinds of number, told by what their functions find, and that they are within the cap.
use Prim.Native.Nat.{ℕ, ◌≤◌}
use mathlib.Core.Path.{◌≡◌, sym, ◌∙◌}
use mathlib.Core.List.{List}
use lib.ListN.{get_or}
use lib.Dec.{eqb}
use borrow.Author.Tests.{eq-eqb, ne_eqb}
use Rattle.model.specs.declared.Loop.{Loop}
use Rattle.model.proofs.Cases.{by_cond}
use Rattle.chains.specs.Chains.{edge_count}
use Rattle.offers.specs.declared.Origin.TheVariants.{Anywhere, Outside, Inside}
use Rattle.stays.specs.Tables.{cap, Capped, by_header, by_vertex}
use Rattle.offers.specs.Offers.{best_into, visit_number, entry_number, turn_number}
use Rattle.offers.proofs.Offers.{best_most}

module _ (l charge d w : List ℕ) (v : ℕ) where
  pub visit_first : v ≡ 0 → get_or charge v 0 ≡ visit_number l charge d w v
  unfolding visit_number by_vertex
  visit_first z = rw (eq-eqb v 0 z)

  pub visit_later : {r : ℕ} → (v ≡ 0 → ⊥) → r ≡ best_into l d w v (get_or charge v 0) Anywhere (edge_count l) → r ≡ visit_number l charge d w v
  unfolding visit_number by_vertex
  visit_later some p = rw (ne_eqb v 0 some) p

  pub visit_most : Capped charge → visit_number l charge d w v ≤ cap
  unfolding visit_number by_vertex
  visit_most capped = by_cond (λ (r : ℕ). r ≤ cap) (eqb v 0) (λ q. capped.most v) (λ q. best_most l d w v _ Anywhere _)

module _ (l enter d w : List ℕ) (k : Loop) where
  pub entry_most : Capped enter → entry_number l enter d w k ≤ cap
  unfolding entry_number by_header
  entry_most capped = by_cond (λ (r : ℕ). r ≤ cap) (eqb k.header 0) (λ q. capped.most k.header) (λ q. best_most l d w _ _ _ _)

  -- The loop's header, and then its last vertex, given by numbers.
  module _ {header : ℕ} (at_header : header ≡ k.header) where
    pub entry_first : header ≡ 0 → get_or enter header 0 ≡ entry_number l enter d w k
    unfolding entry_number by_header
    entry_first z = rw (eq-eqb k.header 0 (sym at_header ∙ z), at_header)

    pub entry_later : {last r : ℕ} → last ≡ k.last → (header ≡ 0 → ⊥) → r ≡ best_into l d w header (get_or enter header 0) (Outside header last) (edge_count l)
        → r ≡ entry_number l enter d w k
    unfolding entry_number by_header
    entry_later at_last_lem some p = rw (ne_eqb k.header 0 (λ q. some (at_header ∙ q)), ← at_header, ← at_last_lem) p

pub turn_is : (l d w : List ℕ) (k : Loop) {header last r : ℕ} → header ≡ k.header → last ≡ k.last
    → r ≡ best_into l d w header 0 (Inside header last) (edge_count l) → r ≡ turn_number l d w k
unfolding turn_number
turn_is l d w k at_header at_last_lem p = rw (← at_header, ← at_last_lem) p
