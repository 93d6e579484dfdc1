-- Marking entered vertices edge by edge: what each edge adds.
use Prim.Native.Nat.{ℕ, ◌+◌, ◌<◌}
use mathlib.Core.Path.{◌≡◌, refl, sym, ap, ◌∙◌}
use mathlib.Core.List.{List}
use mathlib.Core.Bool.{Bool, true, false, cond, ◌||◌, or-true, or-false, or_assoc}
use native.Mathlib.Omega.{arith}
use native.Mathlib.Numerals.{add-one}
use lib.ListN.{length, get_or, set, replicate, length-set, length-replicate}
use lib.Dec.{eqb}
use lib.Seq.{get_or-set_same, get_or-set_other}
use borrow.Author.Tests.{eq-eqb, ne_eqb}
use Rattle.model.specs.declared.Problem.{Problem}
use Rattle.model.specs.Places as places
use Rattle.model.specs.Search.{exists_below}
use Rattle.model.specs.Graph.{edge, edges_of}
use Rattle.model.specs.Charges.{from_another, entered}
use Rattle.model.proofs.Cases.{by_same}
use Rattle.model.proofs.Lists.{get_or-replicate_self}
use Rattle.model.proofs.Search.{exists_first, exists_more}
use Rattle.entered.specs.Flags.{FlagsTell}
use Rattle.entered.specs.Entered.{EnteredTold, crosses}

-- No flag is set.
abbrev zeros : List ℕ
zeros = replicate places.most_vertices 0

module _ (p : Problem) where
  -- v is entered by the edges below i.
  unfoldable pub entered_by : ℕ → ℕ → Bool
  entered_by i v = eqb v 0 || exists_below i (from_another p v)

  one_more_lem : (i v : ℕ) → entered_by (i + 1) v ≡ (entered_by i v || from_another p v i)
  unfolding entered_by
  one_more_lem i v = ap (λ (b : Bool). eqb v 0 || b) (ap (λ (k : ℕ). exists_below k (from_another p v)) (add-one i) ∙ exists_more i (from_another p v))
      ∙ sym (or_assoc (eqb v 0) (exists_below i (from_another p v)) (from_another p v i))

  as_before : (i v : ℕ) → from_another p v i ≡ false → entered_by (i + 1) v ≡ entered_by i v
  as_before i v e = one_more_lem i v ∙ ap (λ (b : Bool). entered_by i v || b) e ∙ or-false (entered_by i v)

  now_entered : (i v : ℕ) → from_another p v i ≡ true → entered_by (i + 1) v ≡ true
  now_entered i v e = one_more_lem i v ∙ ap (λ (b : Bool). entered_by i v || b) e ∙ or-true (entered_by i v)

  -- An edge enters its end, if it crosses, and no other vertex.
  at_end_lem : (i v : ℕ) → (edge (edges_of p) i).to ≡ v → from_another p v i ≡ crosses p i
  at_end_lem i v e = rw (eq-eqb (edge (edges_of p) i).to v e, e)

  elsewhere : (i v : ℕ) → ((edge (edges_of p) i).to ≡ v → ⊥) → from_another p v i ≡ false
  elsewhere i v ne = rw (ne_eqb (edge (edges_of p) i).to v ne)

  -- The edges below i are done.
  abbrev pub Marked : ℕ → List ℕ → Type 0
  Marked i flags = FlagsTell p.vertex_count (entered_by i) flags

  pub none_marked : Marked 0 (set zeros 0 1)
  unfolding entered_by
  none_marked =
      record {
        long = length-set zeros 0 1 ∙ length-replicate {A = ℕ} places.most_vertices 0;
        flag = λ v below. by_same v 0 (first v) (other v);
      }
    where
      first : (v : ℕ) → v ≡ 0 → get_or (set zeros 0 1) v 0 ≡ cond (eqb v 0 || exists_below 0 (from_another p v)) 1 0
      first v e = rw e refl

      other : (v : ℕ) → (v ≡ 0 → ⊥) → get_or (set zeros 0 1) v 0 ≡ cond (eqb v 0 || exists_below 0 (from_another p v)) 1 0
      other v ne =
          rw (ne_eqb v 0 ne, exists_first (from_another p v))
          (get_or-set_other zeros 0 v 1 0 ne ∙ get_or-replicate_self {A = ℕ} places.most_vertices v 0)

  -- The end's flag is set by an edge that crosses, and left as it is by one that does not.
  module _ (i : ℕ) (flags : List ℕ) where
    end_flag : (v : ℕ) → (edge (edges_of p) i).to ≡ v → get_or flags v 0 ≡ cond (entered_by i v) 1 0 →
        (crossing : Bool) → crossing ≡ crosses p i → cond crossing 1 (get_or flags v 0) ≡ cond (entered_by (i + 1) v) 1 0
    end_flag v e flag true crossing = rw (now_entered i v (at_end_lem i v e ∙ sym crossing))
    end_flag v e flag false crossing = rw (as_before i v (at_end_lem i v e ∙ sym crossing)) flag

    pub one_marked : (crossing : Bool) {w flag : ℕ} → Marked i flags → crossing ≡ crosses p i → w ≡ (edge (edges_of p) i).to → w < places.most_vertices →
        flag ≡ cond crossing 1 (get_or flags w 0) → Marked (i + 1) (set flags w flag)
    one_marked crossing {w} {flag} marked crosses_is is_end inside is =
        record {
          long = length-set flags w flag ∙ marked.long;
          flag = λ v below. by_same v w (λ e. here v e below) (λ ne. there v ne below);
        }
      where
        here : (v : ℕ) → v ≡ w → v < p.vertex_count → get_or (set flags w flag) v 0 ≡ cond (entered_by (i + 1) v) 1 0
        here v e below =
            ap (λ (k : ℕ). get_or (set flags w flag) k 0) e
            ∙ get_or-set_same flags w flag 0 (omega (arith, marked.long))
            ∙ is
            ∙ ap (λ (k : ℕ). cond crossing 1 (get_or flags k 0)) (sym e)
            ∙ end_flag v (sym is_end ∙ sym e) (marked.flag v below) crossing crosses_is

        there : (v : ℕ) → (v ≡ w → ⊥) → v < p.vertex_count → get_or (set flags w flag) v 0 ≡ cond (entered_by (i + 1) v) 1 0
        there v ne below =
            rw (as_before i v (elsewhere i v (λ q. ne (sym q ∙ sym is_end))))
            (get_or-set_other flags w v flag 0 ne ∙ marked.flag v below)

  pub all_marked : (i : ℕ) {flags : List ℕ} → i ≡ length (edges_of p) → Marked i flags → EnteredTold p flags
  unfolding entered_by entered
  all_marked i e marked = record { long = marked.long; flag = λ v below. rw (← e) (marked.flag v below) }
