-- The numbers of one problem are judged alike and have the same file, lawful or not, whatever stands in the spare places: no field of a file is one of these.
use Prim.Native.Nat.{ℕ, zero, suc, ◌+◌, ◌*◌, ◌≤◌, ◌<◌}
use Rattle.std.specs.Prelude.{Ok}
use mathlib.Core.Path.{◌≡◌, refl, sym, ap, ap₂, ◌∙◌}
use mathlib.Core.List.{List, ◌++◌}
use mathlib.Core.Bool.{true}
use native.Mathlib.Omega.{arith}
use lib.ListN.{length, get_or, set, take}
use lib.Seq.{get_or-take, set-get_or}
use borrow.Author.Tests.{leb-false}
use Rattle.model.specs.declared.Field.{Field}
use Rattle.model.specs.declared.Function.{Function}
use Rattle.model.specs.declared.Vertex.{Vertex}
use Rattle.model.specs.declared.Edge.{Edge}
use Rattle.model.specs.declared.Loop.{Loop}
use Rattle.model.specs.Table.{bases, kinds, jumps, base}
use Rattle.model.specs.Numbers.{table, function_at, vertex_at, edge_at, loop_at, problem_of}
use Rattle.model.specs.File.{first_field, number_count, at_end, next_field, edition_in, field_size, field_bytes, in_range, ascends, item_start, check_from, check_fields, bytes_from, file_bytes}
use Rattle.model.specs.Operations.{SameProblem}
use Rattle.model.proofs.Cases.{by_bool}
use Rattle.model.proofs.Lists.{get_or-table}
use Rattle.fields.specs.Valid.{Valid, edition}
use Rattle.fields.proofs.Steps.{placed, after_count_lem, after_item_lem, ranged_later}
use Rattle.fields.proofs.OneField.{bytes_on}
use Rattle.facts.proofs.Agree.{Alike, range_agrees, ascends_agrees, alike_next}
use Rattle.facts.proofs.Good.{Good, next}
use Rattle.facts.proofs.Judging.{checked_good}
use Rattle.model.specs.Places as places
use Rattle.model.specs.Rows as rows

-- Tables whose first parts are the same have the same items there.
same_item : {A : Type 0} (room count count' : ℕ) (f g : ℕ → A) → count ≡ count' → take count (table room f) ≡ take count' (table room g) →
    (i : ℕ) → i < room → i < count → f i ≡ g i
same_item room count count' f g e lists i known below =
    sym (get_or-take count (table room f) i (f 0) below ∙ get_or-table room f i (f 0) known)
    ∙ ap (λ xs. get_or xs i (f 0)) lists
    ∙ get_or-take count' (table room g) i (f 0) (omega arith)
    ∙ get_or-table room g i (f 0) known

module _ (l : List ℕ) where
  -- A field in one of the `width` rows behind a count is at an item that the count counts, and so are the items after it.
  abbrev Counted : ℕ → ℕ → Field → Type 0
  Counted row width c = row < c.row → c.row ≤ row + width → c.place + width * c.left < base c.row + width * get_or l (base row) 0

  record InLists (c : Field) : Type 0 where
    functions : Counted rows.function_count places.function_width c
    vertices : Counted rows.vertex_count places.vertex_width c
    edges : Counted rows.edge_count places.edge_width c
    loops : Counted rows.loop_count places.loop_width c

  counted_next : {c : Field} → Valid c → c.row < rows.end → InLists c → InLists (next l c)
  unfolding next_field bases kinds jumps
  counted_next Valid.edition h t = omega arith
  counted_next Valid.scratchpad h t = omega arith
  counted_next Valid.functions h t = after_count_lem InLists _ _ (λ e. omega arith) (λ k. omega arith)
  counted_next (Valid.size i left f) h t = omega (arith, t.functions (omega arith) (omega arith))
  counted_next (Valid.load i left f) h t = omega (arith, t.functions (omega arith) (omega arith))
  counted_next (Valid.check i left f) h t = after_item_lem InLists _ (λ e. omega arith) (λ k. omega (arith, t.functions (omega arith) (omega arith)))
  counted_next Valid.vertices h t = after_count_lem InLists _ _ (λ e. omega arith) (λ k. omega arith)
  counted_next (Valid.function i left f) h t = omega (arith, t.vertices (omega arith) (omega arith))
  counted_next (Valid.cost i left f) h t = after_item_lem InLists _ (λ e. omega arith) (λ k. omega (arith, t.vertices (omega arith) (omega arith)))
  counted_next Valid.edges h t = after_count_lem InLists _ _ (λ e. omega arith) (λ k. omega arith)
  counted_next (Valid.from i left f) h t = omega (arith, t.edges (omega arith) (omega arith))
  counted_next (Valid.to i left f) h t = after_item_lem InLists _ (λ e. omega arith) (λ k. omega (arith, t.edges (omega arith) (omega arith)))
  counted_next Valid.loops h t = after_count_lem InLists _ _ (λ e. omega arith) (λ k. omega arith)
  counted_next (Valid.header i left f) h t = omega (arith, t.loops (omega arith) (omega arith))
  counted_next (Valid.last i left f) h t = omega (arith, t.loops (omega arith) (omega arith))
  counted_next (Valid.bound i left f) h t = after_item_lem InLists _ (λ e. omega arith) (λ k. omega (arith, t.loops (omega arith) (omega arith)))
  counted_next Valid.end h t = absurd (omega arith)

-- Numbers l and m of one problem.
module _ (l m : List ℕ) (long : length m ≡ places.end) (one : edition_in l ≡ edition_in m) (same : SameProblem (problem_of l) (problem_of m)) where
  module _ (i : ℕ) where
    function : i < places.most_functions → i < get_or l places.function_count 0 → function_at l i ≡ function_at m i
    unfolding problem_of
    function = same_item places.most_functions _ _ (function_at l) (function_at m) same.function_count same.functions i

    vertex : i < places.most_vertices → i < get_or l places.vertex_count 0 → vertex_at l i ≡ vertex_at m i
    unfolding problem_of
    vertex = same_item places.most_vertices _ _ (vertex_at l) (vertex_at m) same.vertex_count same.vertices i

    edge : i < places.most_edges → i < get_or l places.edge_count 0 → edge_at l i ≡ edge_at m i
    unfolding problem_of
    edge = same_item places.most_edges _ _ (edge_at l) (edge_at m) same.edge_count same.edges i

    loop : i < places.most_loops → i < get_or l places.loop_count 0 → loop_at l i ≡ loop_at m i
    unfolding problem_of
    loop = same_item places.most_loops _ _ (loop_at l) (loop_at m) same.loop_count same.loops i

  -- The number at a field is the same in both.
  here : {c : Field} → Valid c → c.row < rows.end → InLists l c → get_or l c.place 0 ≡ get_or m c.place 0
  unfolding problem_of bases
  here Valid.edition h t = one
  here Valid.scratchpad h t = λ k. (same.scratchpad k).0
  here Valid.functions h t = same.function_count
  here (Valid.size i left f) h t = ap (λ (x : Function). x.size.0) (function i (omega arith) (omega (arith, t.functions (omega arith) (omega arith))))
  here (Valid.load i left f) h t = ap (λ (x : Function). x.load.0) (function i (omega arith) (omega (arith, t.functions (omega arith) (omega arith))))
  here (Valid.check i left f) h t = ap (λ (x : Function). x.check.0) (function i (omega arith) (omega (arith, t.functions (omega arith) (omega arith))))
  here Valid.vertices h t = same.vertex_count
  here (Valid.function i left f) h t = ap (λ (x : Vertex). x.function) (vertex i (omega arith) (omega (arith, t.vertices (omega arith) (omega arith))))
  here (Valid.cost i left f) h t = ap (λ (x : Vertex). x.cost.0) (vertex i (omega arith) (omega (arith, t.vertices (omega arith) (omega arith))))
  here Valid.edges h t = same.edge_count
  here (Valid.from i left f) h t = ap (λ (x : Edge). x.from) (edge i (omega arith) (omega (arith, t.edges (omega arith) (omega arith))))
  here (Valid.to i left f) h t = ap (λ (x : Edge). x.to) (edge i (omega arith) (omega (arith, t.edges (omega arith) (omega arith))))
  here Valid.loops h t = same.loop_count
  here (Valid.header i left f) h t = ap (λ (x : Loop). x.header) (loop i (omega arith) (omega (arith, t.loops (omega arith) (omega arith))))
  here (Valid.last i left f) h t = ap (λ (x : Loop). x.last) (loop i (omega arith) (omega (arith, t.loops (omega arith) (omega arith))))
  here (Valid.bound i left f) h t = ap (λ (x : Loop). x.bound) (loop i (omega arith) (omega (arith, t.loops (omega arith) (omega arith))))
  here Valid.end h t = absurd (omega arith)

  -- A field of both, from which on no judgement tells them apart.
  record Both (c : Field) : Type 0 where
    valid : Valid c
    in_lists : InLists l c
    alike : Alike c l m

  number : {c : Field} → Both c → c.row < rows.end → get_or l c.place 0 ≡ get_or m c.place 0
  number b h = here b.valid h b.in_lists

  first : Both first_field
  first = record { valid = edition; in_lists = omega arith; alike = λ k s. absurd (omega (arith, s.below)) }

  following : {c : Field} → Both c → c.row < rows.end → in_range l c (get_or l c.place 0) ≡ true → Both (next l c)
  following {c} b h range =
      let v : ℕ = get_or l c.place 0 in
      let kept : set m c.place v ≡ m = rw (number b h) (set-get_or m c.place 0) in
      record {
        valid = (ranged_later b.valid h l v range refl).valid;
        in_lists = counted_next l b.valid h b.in_lists;
        alike = rw kept at (alike_next b.valid h v l m (omega (arith, (placed b.valid h).place)) b.alike refl);
      }

  judged_alike : (n at start : ℕ) (c : Field) → Both c → check_from n at start c l ≡ check_from n at start c m
  unfolding check_from
  judged_alike zero at start c b = refl
  judged_alike (suc n) at start c b =
      by_bool (at_end c) (λ e. simp e)
      (λ e.
      let h : c.row < rows.end = leb-false rows.end c.row e in
      let v : ℕ = get_or l c.place 0 in
      let is : v ≡ get_or m c.place 0 = number b h in
      let ranges : in_range l c v ≡ in_range m c v = range_agrees l m b.valid b.alike v in
      let orders : ascends l c ≡ ascends m c = ascends_agrees l m b.valid b.alike is in
      by_bool (in_range l c v)
      (λ r.
      let more = judged_alike n (at + field_size (edition_in l) c v) (item_start c at start) (next l c) (following b h r) in
      rw (e, ← is, ← ranges, r, ← orders, ← one, more))
      (λ r. rw (e, ← is, ← ranges, r)))

  pub checks_agree : check_fields l ≡ check_fields m
  checks_agree = judged_alike number_count 0 0 first_field first

  written_alike : {n : ℕ} {c : Field} → Good l n c → Both c → bytes_from n c l ≡ bytes_from n c m
  unfolding bytes_from
  written_alike Good.none b = refl
  written_alike (Good.over e) b = simp e
  written_alike {c} (Good.on {n} e p more) b =
      let h : c.row < rows.end = leb-false rows.end c.row e in
      let v : ℕ = get_or l c.place 0 in
      bytes_on n c l v e refl
      ∙ ap₂ (λ (edition : ℕ) (s : List ℕ). field_bytes edition c v ++ s) one (written_alike more (following b h p.in_range_lem))
      ∙ sym (bytes_on n c m v e (sym (number b h)))

  -- Where the checks pass.
  pub files_agree : (end : ℕ) → check_fields l ≡ Ok end → file_bytes l ≡ file_bytes m
  files_agree end ok = written_alike (checked_good l end ok) first
