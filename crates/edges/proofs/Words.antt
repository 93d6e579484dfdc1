-- Laws of the words of rules 8 and 9: the marks of the loops' ends tell which loops are around a vertex, and these words tell wrong edges and returns.
use Prim.Native.Nat.{ℕ, zero, suc, ◌+◌, ◌^◌, ◌≤◌, ◌<◌}
use Rattle.std.specs.Prelude.{Result, Err, Ok}
use mathlib.Core.Path.{◌≡◌, refl, sym, ap, ◌∙◌}
use mathlib.Core.List.{List}
use mathlib.Core.Bool.{Bool, true, false, not, ◌&&◌, ◌||◌, and-false, and-true, and_comm, or-false, not-not}
use native.Mathlib.Omega.{arith}
use native.Mathlib.Numerals.{add-one}
use lib.ListN.{length, get_or, length-set, length-replicate, get_or-replicate}
use lib.Seq.{get_or-set_same, get_or-set_other}
use lib.Bits.{bit_and, bit_or, bit_xor}
use lib.Dec.{eqb, ltb, leb}
use borrow.Author.Tests.{eq-eqb, ne_eqb, eqb-true, eqb-false, lt-ltb, le-ltb, le-leb, lt-leb, ltb-true}
use Rattle.model.specs.declared.Edge.{Edge}
use Rattle.model.specs.declared.Loop.{Loop}
use Rattle.model.specs.declared.Refusal.{Refusal}
use Rattle.model.specs.declared.Refusal.TheVariants.{WrongEdge}
use Rattle.model.specs.Search.{lowest_below, exists_below}
use Rattle.model.specs.Graph.{edge, loop, holds, enters_past_header, returns_to, wrong_edge, no_return, broken}
use Rattle.model.proofs.Cases.{by_bool, by_order, and_left, and_right}
use Rattle.model.proofs.Answers.{refused_not_done}
use Rattle.model.proofs.Search.{Searched, hit, exists_hit, exists_none, exists_at, exists_first, exists_nowhere, exists_more}
use Rattle.bits.specs.Tests.{has}
use Rattle.bits.proofs.Tests.{has_or, has_and, has_less, has_zero, has_pow, some_bit}
use Rattle.facts.specs.Fields.{FieldFacts}
use Rattle.lookup.specs.Lists.{vertices_in, edges_in, loops_in}
use Rattle.lookup.specs.Plain.{edge_of}
use Rattle.lookup.proofs.Places.{from_below, to_below}
use Rattle.ranges.specs.Ranges.{Ranged}
use Rattle.ranges.specs.Marks.{mark_count, gain, mark_loop, marks_of}
use Rattle.edges.specs.Words.{held_over, around_at, AroundTo, BitsTell, Headed, Around, wrong_by, returned_by, edges_answer, Returned}
use Rattle.model.specs.Places as places

-- A word gains a bit, and the others stay.
gained : (words : List ℕ) (at g v b : ℕ) → at < length words → has (get_or (gain words at g) v 0) b ≡ (has (get_or words v 0) b || (eqb at v && eqb b g))
gained words at g v b h =
    by_bool (eqb at v)
    (λ e.
    rw (e, ← eqb-true at v e, get_or-set_same words at (bit_or (get_or words at 0) (2 ^ g)) 0 h, has_or (get_or words at 0) (2 ^ g) b, has_pow g b))
    (λ e.
    rw (e, get_or-set_other words at v (bit_or (get_or words at 0) (2 ^ g)) 0 (λ q. eqb-false at v e (sym q))) (sym (or-false (has (get_or words v 0) b))))

-- A test of the loops below i, and of loop i.
one_more_lem : (test : ℕ → Bool) (b i : ℕ) → ((ltb b i && test b) || (test i && eqb b i)) ≡ (ltb b (suc i) && test b)
one_more_lem test b i =
    by_bool (eqb b i)
    (λ e. rw (e, eqb-true b i e, le-ltb i i (omega arith), lt-ltb i (suc i) (omega arith)) (and-true (test i)))
    (λ e.
    by_order b i
    (λ h. rw (e, lt-ltb b i h, lt-ltb b (suc i) (omega arith), and-false (test i)) (or-false (test b)))
    (λ h. rw (e, le-ltb b i h, le-ltb b (suc i) (omega (arith, eqb-false b i e))) (and-false (test i))))

-- The marks of the first i loops.
record Ends (ls : List Loop) (i : ℕ) (marks : List ℕ) : Type 0 where
  long : length marks ≡ mark_count
  first : BitsTell places.most_vertices i (λ b v. eqb (loop ls b).header v) (λ v. get_or marks v 0)
  last : BitsTell places.most_vertices i (λ b v. eqb (loop ls b).last v) (λ v. get_or marks (places.most_vertices + v) 0)

module _ (ls : List Loop) (ranged : Ranged ls) where
  no_ends_lem : Ends ls 0 (marks_of ls 0)
  unfolding marks_of
  no_ends_lem =
      record {
        long = length-replicate {A = ℕ} mark_count 0;
        first = λ v b h. rw (get_or-replicate {A = ℕ} mark_count v 0 0 (omega arith), le-ltb b 0 (omega arith)) (has_zero b);
        last = λ v b h. rw (get_or-replicate {A = ℕ} mark_count (places.most_vertices + v) 0 0 (omega arith), le-ltb b 0 (omega arith)) (has_zero b);
      }

  module _ (i : ℕ) (here : i < length ls) (marks : List ℕ) (ends : Ends ls i marks) where
    abbrev header : ℕ
    header = (loop ls i).header

    abbrev end : ℕ
    end = (loop ls i).last

    at_header : header < length marks
    at_header = omega (arith, ends.long, ranged.header i here, ranged.last i here)

    at_end_lem : places.most_vertices + end < length (gain marks header i)
    at_end_lem = omega (arith, length-set marks header (bit_or (get_or marks header 0) (2 ^ i)), ends.long, ranged.last i here)

    more_first : BitsTell places.most_vertices (suc i) (λ b v. eqb (loop ls b).header v) (λ v. get_or (mark_loop marks header end i) v 0)
    unfolding mark_loop
    more_first v b h =
        gained (gain marks header i) (places.most_vertices + end) i v b at_end_lem
        ∙ (ap (λ (t : Bool). has (get_or (gain marks header i) v 0) b || (t && eqb b i)) (ne_eqb (places.most_vertices + end) v (λ q. omega arith))
        ∙ (or-false (has (get_or (gain marks header i) v 0) b)
        ∙ (gained marks header i v b at_header
        ∙ (ap (λ (t : Bool). t || (eqb header v && eqb b i)) (ends.first v b h) ∙ one_more_lem (λ k. eqb (loop ls k).header v) b i))))

    more_last : BitsTell places.most_vertices (suc i) (λ b v. eqb (loop ls b).last v) (λ v. get_or (mark_loop marks header end i) (places.most_vertices + v) 0)
    unfolding mark_loop
    more_last v b h =
        gained (gain marks header i) (places.most_vertices + end) i (places.most_vertices + v) b at_end_lem
        ∙ (ap (λ (t : Bool). has (get_or (gain marks header i) (places.most_vertices + v) 0) b || (t && eqb b i)) (shifted end v)
        ∙ (ap (λ (t : Bool). t || (eqb end v && eqb b i))
        (gained marks header i (places.most_vertices + v) b at_header
        ∙ (ap (λ (t : Bool). has (get_or marks (places.most_vertices + v) 0) b || (t && eqb b i)) (ne_eqb header (places.most_vertices + v) (λ q. omega (arith, ranged.header i here, ranged.last i here)))
        ∙ (or-false (has (get_or marks (places.most_vertices + v) 0) b) ∙ ends.last v b h)))
        ∙ one_more_lem (λ k. eqb (loop ls k).last v) b i))
      where
        shifted : (x y : ℕ) → eqb (places.most_vertices + x) (places.most_vertices + y) ≡ eqb x y
        shifted x y =
            by_bool (eqb x y)
            (λ e. rw e (eq-eqb (places.most_vertices + x) (places.most_vertices + y) (omega (arith, eqb-true x y e))))
            (λ e. rw e (ne_eqb (places.most_vertices + x) (places.most_vertices + y) (λ q. eqb-false x y e (omega arith))))

    more_long : length (mark_loop marks header end i) ≡ mark_count
    unfolding mark_loop
    more_long =
        length-set (gain marks header i) (places.most_vertices + end) (bit_or (get_or (gain marks header i) (places.most_vertices + end) 0) (2 ^ i))
        ∙ (length-set marks header (bit_or (get_or marks header 0) (2 ^ i)) ∙ ends.long)

  ends_up_to : (i : ℕ) → i ≤ length ls → Ends ls i (marks_of ls i)
  unfolding marks_of
  ends_up_to zero h = no_ends_lem
  ends_up_to (suc i) h =
      let before = ends_up_to i (omega arith) in
      record {
        long = more_long i h (marks_of ls i) before;
        first = more_first i h (marks_of ls i) before;
        last = more_last i h (marks_of ls i) before;
      }

  ends_all : Ends ls (length ls) (marks_of ls (length ls))
  ends_all = ends_up_to (length ls) (omega arith)

  marks_headed : {n : ℕ} → n ≤ places.most_vertices → Headed n ls (marks_of ls (length ls))
  marks_headed few = record { told = λ v b h. ends_all.first v b (omega arith) }

-- Of a range from h to l: what is held over to v, or starts at v, is around v; of that, what does not end at v is held over to the next.
module _ (h l v : ℕ) where
  starts : h ≤ l → ((ltb h v && leb v l) || eqb h v) ≡ (leb h v && leb v l)
  starts low =
      by_order h v
      (λ q. rw (lt-ltb h v q, ne_eqb h v (λ e. omega arith), le-leb h v (omega arith)) (or-false (leb v l)))
      (λ q.
      by_order v h
      (λ p. rw (le-ltb h v q, ne_eqb h v (λ e. omega arith), lt-leb h v p))
      (λ p. rw (le-ltb h v q, eq-eqb h v (omega arith), le-leb h v p, le-leb v l (omega arith))))

  goes_on : ((leb h v && leb v l) && not (eqb l v)) ≡ (ltb h (suc v) && leb (suc v) l)
  goes_on =
      by_order h (suc v)
      (λ q. rw (lt-ltb h (suc v) q, le-leb h v (omega arith)) ends)
      (λ q. rw (le-ltb h (suc v) q, lt-leb h v (omega arith)))
    where
      ends : (leb v l && not (eqb l v)) ≡ leb (suc v) l
      ends =
          by_order v l
          (λ p. rw (le-leb v l (omega arith), ne_eqb l v (λ e. omega arith), le-leb (suc v) l p))
          (λ p.
          by_order l v
          (λ r. rw (lt-leb v l r, lt-leb (suc v) l (omega arith)))
          (λ r. rw (eq-eqb l v (omega arith), lt-leb (suc v) l (omega arith)) (and-false (leb v l))))

-- Going on by one vertex.
module _ (marks : List ℕ) where
  pub held_none : 0 ≡ held_over marks 0
  unfolding held_over
  held_none = refl

  pub held_more : (v : ℕ) → bit_xor (bit_or (around_at marks v) (get_or marks (places.most_vertices + v) 0)) (get_or marks (places.most_vertices + v) 0) ≡ held_over marks (v + 1)
  unfolding held_over
  held_more v = rw add-one

-- Tests of the loops below n, joined.
module _ (p a b c : Bool) where
  joined : ((p && a) || (p && b)) ≡ (p && (a || b))
  joined = by_bool p (λ e. rw e) (λ e. rw e)

  parted : ((p && a) && not (p && b)) ≡ (p && (a && not b))
  parted = by_bool p (λ e. rw e) (λ e. rw e)

  met : ((p && a) && (p && b)) ≡ (p && (b && a))
  met = by_bool p (λ e. rw e (and_comm a b)) (λ e. rw e)

  parted_both : ((p && a) && not ((p && b) || (p && c))) ≡ (p && (a && (not b && not c)))
  parted_both = by_bool p (λ e. rw e (by_bool b (λ q. rw q) (λ q. rw q))) (λ e. rw e)

module _ (ls : List Loop) (ranged : Ranged ls) where
  abbrev marks : List ℕ
  marks = marks_of ls (length ls)

  module _ (b : ℕ) where
    abbrev opens : ℕ
    opens = (loop ls b).header

    abbrev closes : ℕ
    closes = (loop ls b).last

    -- Where b is no loop, both tests of it are nothing.
    if_loop : {s t : Bool} → (b < length ls → s ≡ t) → (ltb b (length ls) && s) ≡ (ltb b (length ls) && t)
    if_loop same = by_bool (ltb b (length ls)) (λ e. rw e (same (ltb-true b (length ls) e))) (λ e. rw e)

    around_v : (v : ℕ) → v < places.most_vertices → has (held_over marks v) b ≡ (ltb b (length ls) && (ltb opens v && leb v closes)) →
        has (around_at marks v) b ≡ (ltb b (length ls) && holds (loop ls b) v)
    around_v v h held =
        has_or (held_over marks v) (get_or marks v 0) b
        ∙ (rw (held, (ends_all ls ranged).first v b h) (joined (ltb b (length ls)) (ltb opens v && leb v closes) (eqb opens v) true)
        ∙ if_loop (λ q. starts opens closes v (ranged.header b q)))

    held_over_lem : (v : ℕ) → v ≤ places.most_vertices → has (held_over marks v) b ≡ (ltb b (length ls) && (ltb opens v && leb v closes))
    unfolding held_over
    held_over_lem zero h = rw (le-ltb opens 0 (omega arith), and-false (ltb b (length ls))) (has_zero b)
    held_over_lem (suc v) h =
        has_less (around_at marks v) (get_or marks (places.most_vertices + v) 0) b
        ∙ (rw (around_v v h (held_over_lem v (omega arith)), (ends_all ls ranged).last v b h) (parted (ltb b (length ls)) (holds (loop ls b) v) (eqb closes v) true)
        ∙ if_loop (λ q. goes_on opens closes v))

  marks_around : {n : ℕ} {around : List ℕ} → n ≤ places.most_vertices → AroundTo n marks around → Around n ls around
  marks_around few words = record { told = λ v b h. rw (words.word v h) (around_v b v (omega arith) (held_over_lem b v (omega arith))) }

module _ {n : ℕ} {ls : List Loop} (ranged : Ranged ls) (few : n ≤ places.most_vertices) {marks : List ℕ} (is : marks ≡ marks_of ls (length ls)) where
  pub headed_is : Headed n ls marks
  headed_is = rw is (marks_headed ls ranged few)

  pub around_is : {around : List ℕ} → AroundTo n marks around → Around n ls around
  around_is words = marks_around ls ranged few (rw is at words)

-- A word that has the numbers below n that pass a test.
exists_bit : (n : ℕ) (test : ℕ → Bool) (w : ℕ) → ((k : ℕ) → has w k ≡ (ltb k n && test k)) → exists_below n test ≡ not (eqb w 0)
exists_bit n test w told =
    by_bool (eqb w 0)
    (λ e. rw e (exists_nowhere n test (nothing (eqb-true w 0 e))))
    (λ e.
    let r = some_bit w (eqb-false w 0 e) in
    let both : (ltb r.0 n && test r.0) ≡ true = sym (told r.0) ∙ r.1 in
    rw e (exists_at n test r.0 (ltb-true r.0 n (and_left (ltb r.0 n) (test r.0) both)) (and_right (ltb r.0 n) (test r.0) both)))
  where
    nothing : w ≡ 0 → (i : ℕ) → i < n → test i ≡ false
    nothing z i h = let t : has 0 i ≡ (ltb i n && test i) = rw z at (told i) in sym (rw (lt-ltb i n h) at t) ∙ has_zero i

-- Rule 8 and 9, told by the words at an edge's ends.
module _ {n : ℕ} {ls : List Loop} {around marks : List ℕ} (a : Around n ls around) (h : Headed n ls marks) (from to : ℕ) (f : from < n) (t : to < n) where
  abbrev into : ℕ
  into = get_or around to 0

  abbrev out : ℕ
  out = get_or around from 0

  abbrev heads : ℕ
  heads = get_or marks to 0

  returns_bit : (b : ℕ) → has (bit_and heads out) b ≡ (ltb b (length ls) && returns_to (edge_of from to) (loop ls b))
  returns_bit b =
      has_and heads out b
      ∙ rw (h.told to b t, a.told from b f) (met (ltb b (length ls)) (eqb (loop ls b).header to) (holds (loop ls b) from) true)

  enters_bit : (b : ℕ) →
      has (bit_xor (bit_or into (bit_or out heads)) (bit_or out heads)) b ≡ (ltb b (length ls) && enters_past_header (edge_of from to) (loop ls b))
  enters_bit b =
      has_less into (bit_or out heads) b
      ∙ rw (has_or out heads b, a.told to b t, a.told from b f, h.told to b t)
      (parted_both (ltb b (length ls)) (holds (loop ls b) to) (holds (loop ls b) from) (eqb (loop ls b).header to))

  told_wrong : wrong_by into out heads from to ≡ wrong_edge ls (edge_of from to)
  unfolding wrong_by wrong_edge
  told_wrong =
      rw (
        exists_bit (length ls) (λ i. enters_past_header (edge_of from to) (loop ls i)) (bit_xor (bit_or into (bit_or out heads)) (bit_or out heads)) enters_bit,
        exists_bit (length ls) (λ i. returns_to (edge_of from to) (loop ls i)) (bit_and heads out) returns_bit,
        not-not (eqb (bit_and heads out) 0),
      )

  pub wrong_edge_lem : (e : Edge) → from ≡ e.from → to ≡ e.to → {r : Bool} → r ≡ wrong_by into out heads from to → r ≡ wrong_edge ls e
  wrong_edge_lem e q p is =
      let numbers : wrong_edge ls (edge_of from to) ≡ wrong_edge ls e = rw (q, p) in
      is ∙ (told_wrong ∙ numbers)

-- What the test by the words answers of edge i.
pub wrong_told : {l around marks : List ℕ} → FieldFacts l → Around (vertices_in l) (loops_in l) around → Headed (vertices_in l) (loops_in l) marks →
    (i : ℕ) → i < length (edges_in l) → (from to : ℕ) → from ≡ (edge (edges_in l) i).from → to ≡ (edge (edges_in l) i).to →
    {r b : Bool} → r ≡ wrong_by (get_or around to 0) (get_or around from 0) (get_or marks to 0) from to → r ≡ b → wrong_edge (loops_in l) (edge (edges_in l) i) ≡ b
wrong_told {l} ok a h i here from to f t is answer =
    sym (wrong_edge_lem a h from to (omega (arith, f, from_below l ok i here)) (omega (arith, t, to_below l ok i here)) (edge (edges_in l) i) f t is) ∙ answer

module _ (es : List Edge) (around marks : List ℕ) where
  pub returned_none : 0 ≡ returned_by es around marks 0
  unfolding returned_by
  returned_none = refl

  pub returned_more : (k : ℕ) {word from to : ℕ} → word ≡ returned_by es around marks k → from ≡ (edge es k).from → to ≡ (edge es k).to →
      bit_or word (bit_and (get_or marks to 0) (get_or around from 0)) ≡ returned_by es around marks (k + 1)
  unfolding returned_by
  returned_more k is f t = rw (add-one, is, f, t)

  module _ (ls : List Loop) where
    abbrev wrong : ℕ → Bool
    wrong i = wrong_edge ls (edge es i)

    -- What a loop over the edges answers, at a wrong one and behind them all.
    pub answers_wrong : {i : ℕ} → Searched (length es) wrong i → i < length es → wrong i ≡ true → Err (WrongEdge i) ≡ edges_answer es ls around marks
    unfolding edges_answer
    answers_wrong searched here is = rw (← exists_hit searched here is, ← hit searched here is)

    pub answers_returns : {i word : ℕ} → Searched (length es) wrong i → length es ≤ i → word ≡ returned_by es around marks (length es) → Ok word ≡ edges_answer es ls around marks
    unfolding edges_answer
    answers_returns searched over is = rw (← exists_none searched over, is)

    -- What an answer says of rule 8.
    pub wrong_says : {f : Refusal} → Err f ≡ edges_answer es ls around marks → Err f ≡ broken (length es) wrong WrongEdge
    unfolding edges_answer
    wrong_says {f} e =
        by_bool (exists_below (length es) wrong)
        (λ t. let q : ◌≡◌ {A = Result ℕ Refusal} (Err f) (Err (WrongEdge (lowest_below (length es) wrong))) = rw t at e in rw (t, same_refusal q))
        (λ t. let q : Err f ≡ Ok (returned_by es around marks (length es)) = rw t at e in refused_not_done q)
      where
        same_refusal : {g h : Refusal} → ◌≡◌ {A = Result ℕ Refusal} (Err g) (Err h) → g ≡ h
        same_refusal q = cc

    pub returns_say : {word : ℕ} → Ok word ≡ edges_answer es ls around marks →
        (Ok tt ≡ broken (length es) wrong WrongEdge) × (word ≡ returned_by es around marks (length es))
    unfolding edges_answer
    returns_say {word} e =
        by_bool (exists_below (length es) wrong)
        (λ t. let q : Ok word ≡ Err (WrongEdge (lowest_below (length es) wrong)) = rw t at e in refused_not_done (sym q))
        (λ t. let q : ◌≡◌ {A = Result ℕ Refusal} (Ok word) (Ok (returned_by es around marks (length es))) = rw t at e in (rw t, same_word q))
      where
        same_word : {j k : ℕ} → ◌≡◌ {A = Result ℕ Refusal} (Ok j) (Ok k) → j ≡ k
        same_word q = cc

module _ (es : List Edge) {n : ℕ} {ls : List Loop} {around marks : List ℕ} (a : Around n ls around) (h : Headed n ls marks)
    (from_below : (i : ℕ) → i < length es → (edge es i).from < n) (to_below : (i : ℕ) → i < length es → (edge es i).to < n) where
  returned_up_to : (k j : ℕ) → k ≤ length es → j < length ls →
      has (returned_by es around marks k) j ≡ exists_below k (λ i. returns_to (edge es i) (loop ls j))
  unfolding returned_by
  returned_up_to zero j few lt = has_zero j ∙ sym (exists_first (λ i. returns_to (edge es i) (loop ls j)))
  returned_up_to (suc k) j few lt =
      has_or (returned_by es around marks k) (bit_and (get_or marks (edge es k).to 0) (get_or around (edge es k).from 0)) j
      ∙ rw (returned_up_to k j (omega arith) lt, returns_bit a h (edge es k).from (edge es k).to (from_below k few) (to_below k few) j, lt-ltb j (length ls) lt)
      (sym (exists_more k (λ i. returns_to (edge es i) (loop ls j))))

  pub told_returned : {word : ℕ} → word ≡ returned_by es around marks (length es) → Returned es ls word
  unfolding no_return
  told_returned is =
      record {
        told = λ j lt.
            ap (λ (w : ℕ). has w j) is
            ∙ (returned_up_to (length es) j (omega arith) lt
            ∙ sym (not-not (exists_below (length es) (λ i. returns_to (edge es i) (loop ls j)))));
      }

-- What a bit of the word says of its loop.
pub lacking : {es : List Edge} {ls : List Loop} {word : ℕ} → Returned es ls word → (j : ℕ) → j < length ls → {bit b : Bool} → bit ≡ has word j → bit ≡ b →
    no_return es (loop ls j) ≡ not b
lacking {es} {ls} returned j lt is answer = sym (not-not (no_return es (loop ls j))) ∙ ap not (sym (is ∙ returned.told j lt) ∙ answer)
