-- What the judgement of a field looks at: among the numbers before it the edition, the two counts that narrow ranges, and the items of its own list.
use Prim.Native.Nat.{ℕ, ◌+◌, ◌-◌, ◌≤◌, ◌<◌}
use mathlib.Core.Path.{◌≡◌, sym, ap, ◌∙◌}
use mathlib.Core.List.{List, [], ◌∷◌}
use native.Mathlib.Omega.{arith}
use lib.ListN.{length, get_or, set}
use lib.Seq.{get_or-set_same, get_or-set_other}
use lib.Dec.{eqb}
use borrow.Author.Tests.{eqb-true, eqb-false}
use Rattle.model.specs.declared.Field.{Field}
use Rattle.model.specs.Table.{bases, kinds, jumps, counts, base, count_over}
use Rattle.model.specs.File.{next_field, edition_in, unwritten, below_count, from_header, zero_unwritten, in_range, edge_span, loop_span, ascends}
use Rattle.model.proofs.Cases.{by_bool, by_same}
use Rattle.fields.specs.Valid.{Valid}
use Rattle.fields.proofs.Steps.{after_count_lem, after_item_lem}
use Rattle.fields.proofs.Editions.{other_row}
use Rattle.model.specs.Places as places
use Rattle.model.specs.Rows as rows

-- Where the items of each row's list begin; a row that is no item's begins by itself.
unfoldable pub item_bases : List ℕ
item_bases =
    places.edition ∷ places.scratchpad
    ∷ places.function_count ∷ places.size ∷ places.size ∷ places.size
    ∷ places.vertex_count ∷ places.function ∷ places.function
    ∷ places.edge_count ∷ places.from ∷ places.from
    ∷ places.loop_count ∷ places.header ∷ places.header ∷ places.header
    ∷ places.end ∷ []

abbrev pub item_base : ℕ → ℕ
item_base row = get_or item_bases row 0

-- Place k is looked at from the field c on.
pub record Seen (c : Field) (k : ℕ) : Type 0 where
  pub below : k < c.place
  pub counts : (k ≡ places.edition → ⊥) → (k ≡ places.function_count → ⊥) → (k ≡ places.vertex_count → ⊥) → item_base c.row ≤ k

-- Two lists that no judgement from c on tells apart.
abbrev pub Alike : Field → List ℕ → List ℕ → Type 0
Alike c l m = (k : ℕ) → Seen c k → get_or l k 0 ≡ get_or m k 0

-- Two lists with the same numbers before place n.
abbrev pub Agree : ℕ → List ℕ → List ℕ → Type 0
Agree n l m = (k : ℕ) → k < n → get_or l k 0 ≡ get_or m k 0

pub alike_below : (c : Field) (l m : List ℕ) → Agree c.place l m → Alike c l m
alike_below c l m same k s = same k s.below

-- Where the places are that a valid field's judgement looks at.
record Looks (c : Field) : Type 0 where
  edition : c.row ≡ rows.check → Seen c places.edition
  count : 0 < count_over c.row → Seen c (count_over c.row)
  header : c.row ≡ rows.last → Seen c (c.place - (places.last - places.header))
  edge : c.row ≡ rows.to → (c.place ≡ base c.row → ⊥) → (j : ℕ) → 0 < j → j ≤ places.edge_width + edge_span → Seen c (c.place - j)
  loop : c.row ≡ rows.bound → (c.place ≡ base c.row → ⊥) → (j : ℕ) → 0 < j → j ≤ places.loop_width + loop_span → Seen c (c.place - j)

looks : {c : Field} → Valid c → Looks c
unfolding bases counts item_bases
looks Valid.edition = omega arith
looks Valid.scratchpad = omega arith
looks Valid.functions = omega arith
looks (Valid.size i left f) = omega arith
looks (Valid.load i left f) = omega arith
looks (Valid.check i left f) = omega arith
looks Valid.vertices = omega arith
looks (Valid.function i left f) = omega arith
looks (Valid.cost i left f) = omega arith
looks Valid.edges = omega arith
looks (Valid.from i left f) = omega arith
looks (Valid.to i left f) = omega arith
looks Valid.loops = omega arith
looks (Valid.header i left f) = omega arith
looks (Valid.last i left f) = omega arith
looks (Valid.bound i left f) = omega arith
looks Valid.end = omega arith

module _ (l m : List ℕ) where
  count_agrees : (row v : ℕ) → (0 < count_over row → get_or l (count_over row) 0 ≡ get_or m (count_over row) 0) → below_count l row v ≡ below_count m row v
  unfolding below_count
  count_agrees row v h =
      by_bool (eqb (count_over row) 0) (λ e. simp e) (λ e. rw (h (omega (arith, eqb-false (count_over row) 0 e))))

  header_agrees : (c : Field) (v : ℕ) → (c.row ≡ rows.last → get_or l (c.place - (places.last - places.header)) 0 ≡ get_or m (c.place - (places.last - places.header)) 0) → from_header l c v ≡ from_header m c v
  unfolding from_header
  header_agrees c v h = by_bool (eqb c.row rows.last) (λ e. rw (h (eqb-true c.row rows.last e))) (λ e. simp e)

  edition_agrees : (c : Field) → (c.row ≡ rows.check → edition_in l ≡ edition_in m) → unwritten (edition_in l) c ≡ unwritten (edition_in m) c
  edition_agrees c h =
      by_same c.row rows.check (λ e. ap (λ (edition : ℕ). unwritten edition c) (h e))
      (λ n. sym (other_row (edition_in l) c n) ∙ other_row (edition_in m) c n)

  module _ {c : Field} (f : Valid c) (same : Alike c l m) where
    pub unwritten_agrees : unwritten (edition_in l) c ≡ unwritten (edition_in m) c
    unwritten_agrees = edition_agrees c (λ h. same places.edition ((looks f).edition h))

    pub range_agrees : (v : ℕ) → in_range l c v ≡ in_range m c v
    unfolding in_range zero_unwritten
    range_agrees v =
        let o : Looks c = looks f in
        rw (
          count_agrees c.row v (λ h. same (count_over c.row) (o.count h)),
          header_agrees c v (λ h. same (c.place - (places.last - places.header)) (o.header h)),
          unwritten_agrees,
        )

    -- The order of a later item looks at the item before it.
    module _ (later : c.place ≡ base c.row → ⊥) where
      edge_agrees : c.row ≡ rows.to → (j : ℕ) → 0 < j → j ≤ places.edge_width + edge_span → get_or l (c.place - j) 0 ≡ get_or m (c.place - j) 0
      edge_agrees r j h k = same (c.place - j) ((looks f).edge r later j h k)

      loop_agrees : c.row ≡ rows.bound → (j : ℕ) → 0 < j → j ≤ places.loop_width + loop_span → get_or l (c.place - j) 0 ≡ get_or m (c.place - j) 0
      loop_agrees r j h k = same (c.place - j) ((looks f).loop r later j h k)

    pub ascends_agrees : get_or l c.place 0 ≡ get_or m c.place 0 → ascends l c ≡ ascends m c
    unfolding ascends
    ascends_agrees here =
        by_bool (eqb c.place (base c.row)) (λ e. simp e)
        (λ e. by_bool (eqb c.row rows.to)
        (λ q. let at = edge_agrees (eqb-false c.place (base c.row) e) (eqb-true c.row rows.to q) in
        simp (e, q, at (places.edge_width + edge_span) (omega arith) (omega arith), at places.edge_width (omega arith) (omega arith), at edge_span (omega arith) (omega arith), here))
        (λ q. by_bool (eqb c.row rows.bound)
        (λ r. let at = loop_agrees (eqb-false c.place (base c.row) e) (eqb-true c.row rows.bound r) in
        simp (e, q, r, at (places.loop_width + loop_span) (omega arith) (omega arith), at loop_span (omega arith) (omega arith)))
        (λ r. simp (e, q, r))))

-- From c to d no place but c's own comes into sight, neither the edition, nor of the two counts, nor among the items.
record Steps (c d : Field) : Type 0 where
  functions : places.function_count < d.place → places.function_count ≤ c.place
  vertices : places.vertex_count < d.place → places.vertex_count ≤ c.place
  items : (k : ℕ) → item_base d.row ≤ k → k < d.place → (k ≡ c.place → ⊥) → (item_base c.row ≤ k) × (k < c.place)

seen_before : (c d : Field) → Steps c d → (k : ℕ) → Seen d k → (k ≡ c.place → ⊥) → Seen c k
seen_before c d h k s n =
    by_same k places.edition
    (λ q. record { below = omega arith; counts = λ z a b. absurd (z q) })
    (λ z. by_same k places.function_count
    (λ q. record { below = omega (arith, h.functions (omega arith)); counts = λ z a b. absurd (a q) })
    (λ a. by_same k places.vertex_count
    (λ q. record { below = omega (arith, h.vertices (omega arith)); counts = λ z a b. absurd (b q) })
    (λ b. let i = h.items k (s.counts z a b) s.below n in
    record { below = i.1; counts = λ z a b. i.0 })))

next_steps : {c : Field} → Valid c → c.row < rows.end → (v : ℕ) → Steps c (next_field c v)
unfolding next_field bases kinds jumps item_bases
next_steps Valid.edition h v = omega arith
next_steps Valid.scratchpad h v = omega arith
next_steps Valid.functions h v = after_count_lem (Steps _) _ v (λ e. omega arith) (λ k. omega arith)
next_steps (Valid.size i left f) h v = omega arith
next_steps (Valid.load i left f) h v = omega arith
next_steps (Valid.check i left f) h v = after_item_lem (Steps _) _ (λ e. omega arith) (λ k. omega arith)
next_steps Valid.vertices h v = after_count_lem (Steps _) _ v (λ e. omega arith) (λ k. omega arith)
next_steps (Valid.function i left f) h v = omega arith
next_steps (Valid.cost i left f) h v = after_item_lem (Steps _) _ (λ e. omega arith) (λ k. omega arith)
next_steps Valid.edges h v = after_count_lem (Steps _) _ v (λ e. omega arith) (λ k. omega arith)
next_steps (Valid.from i left f) h v = omega arith
next_steps (Valid.to i left f) h v = after_item_lem (Steps _) _ (λ e. omega arith) (λ k. omega arith)
next_steps Valid.loops h v = after_count_lem (Steps _) _ v (λ e. omega arith) (λ k. omega arith)
next_steps (Valid.header i left f) h v = omega arith
next_steps (Valid.last i left f) h v = omega arith
next_steps (Valid.bound i left f) h v = after_item_lem (Steps _) _ (λ e. omega arith) (λ k. omega arith)
next_steps Valid.end h v = absurd (omega arith)

-- Two lists alike from c on, with the same number put at c, are alike from the next field on.
pub alike_next : {c : Field} → Valid c → c.row < rows.end → (v : ℕ) (l m : List ℕ) → c.place < length m → Alike c l m → get_or l c.place 0 ≡ v →
    Alike (next_field c v) l (set m c.place v)
alike_next {c} f h v l m b same here k s =
    by_bool (eqb k c.place)
    (λ e. let q = eqb-true k c.place e in rw q (here ∙ sym (get_or-set_same m c.place v 0 b)))
    (λ e. let n = eqb-false k c.place e in same k (seen_before c (next_field c v) (next_steps f h v) k s n) ∙ sym (get_or-set_other m c.place k v 0 n))
