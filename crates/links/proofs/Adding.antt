-- Laws of items put one behind another, as many as there is room for.
use Prim.Native.Nat.{ℕ, suc, ◌+◌, ◌*◌, ◌≤◌, ◌<◌}
use mathlib.Core.Path.{◌≡◌, refl, sym, ap, ◌∙◌, subst}
use mathlib.Core.List.{List, [], ◌∷◌, ◌++◌, flat_map, append_assoc, append-nil}
use native.Mathlib.Omega.{arith}
use native.Mathlib.Nat.{suc-add}
use lib.ListN.{length, get_or, take, drop, set, length-append, take-append-drop}
use lib.Seq.{sets, take_all, take-nil, take-append-le}
use Rattle.model.specs.Numbers.{edge_numbers, loop_numbers, table}
use Rattle.model.proofs.Lists.{stored_behind, length-table, get_or-table}
use Rattle.numbers.proofs.Places.{length-flat_map}
use Rattle.model.specs.Places as places
use Rattle.links.specs.Put.{Put, Adds, AddsEdges, AddsLoops, edge, range}
use Rattle.model.proofs.Mapped.{flat_map-append, flat_map_one, flat_map_more}

module _ {A : Type 0} (most place : ℕ) (numbers : A → List ℕ) where
  pub put_none : (l : List ℕ) → Put most place numbers l [] l 0
  unfolding flat_map
  put_none l = record { count_is = omega arith; stored = rw (take-nil most) }

  -- What a caller learns: all the items are stored, or there are too many.
  pub put_all : (before : List ℕ) (items : List A) (after : List ℕ) (count : ℕ) → Put most place numbers before items after count → length items ≤ most →
      (count ≡ length items) × (after ≡ sets before place (flat_map numbers items))
  put_all before items after count put fits =
      (omega (arith, put.count_is), put.stored ∙ ap (λ (r : List A). sets before place (flat_map numbers r)) (take_all most items fits))

  pub put_past : (before : List ℕ) (items : List A) (after : List ℕ) (count : ℕ) → Put most place numbers before items after count → most < length items → most < count
  put_past before items after count put past = omega (arith, put.count_is)

  pub adds_none : (l : List ℕ) (k : ℕ) → Adds most place numbers l k [] l k
  adds_none l k before items put = subst (λ (r : List A). Put most place numbers before r l k) (sym (append-nil items)) put

  pub adds_same : (l : List ℕ) (k : ℕ) (xs ys : List A) (l' : List ℕ) (k' : ℕ) → ys ≡ xs → Adds most place numbers l k xs l' k' → Adds most place numbers l k ys l' k'
  adds_same l k xs ys l' k' e adds = subst (λ (more : List A). Adds most place numbers l k more l' k') (sym e) adds

  pub adds_then : (l : List ℕ) (k : ℕ) (xs : List A) (l' : List ℕ) (k' : ℕ) (ys : List A) (l'' : List ℕ) (k'' : ℕ) →
      Adds most place numbers l k xs l' k' → Adds most place numbers l' k' ys l'' k'' → Adds most place numbers l k (xs ++ ys) l'' k''
  adds_then l k xs l' k' ys l'' k'' first second before items put =
      subst (λ (r : List A). Put most place numbers before r l'' k'') (append_assoc items xs ys) (second before (items ++ xs) (first before items put))

  -- Where the room is used up nothing is stored any more.
  still : (before : List ℕ) (items : List A) (l : List ℕ) (k : ℕ) (more : List A) → most ≤ k → Put most place numbers before items l k →
      l ≡ sets before place (flat_map numbers (take most (items ++ more)))
  still before items l k more full put =
      put.stored
      ∙ ap (λ (r : List A). sets before place (flat_map numbers r)) (sym (take-append-le most items more (omega (arith, put.count_is))))

  pub adds_past : (l : List ℕ) (k : ℕ) (more : List A) → most < k → Adds most place numbers l k more l k
  adds_past l k more past before items put =
      record { count_is = omega (arith, put.count_is, length-append items more); stored = still before items l k more (omega arith) put }

  pub adds_over : (l : List ℕ) (k : ℕ) (x : A) → most ≤ k → Adds most place numbers l k (x ∷ []) l (most + 1)
  adds_over l k x full before items put =
      record { count_is = omega (arith, put.count_is, length-append items (x ∷ [])); stored = still before items l k (x ∷ []) full put }

  -- One item more, where there is room.
  module _ (width : ℕ) (wide : (x : A) → length (numbers x) ≡ width) where
    pub adds_one : (l : List ℕ) (k : ℕ) (x : A) (l' : List ℕ) → k < most → l' ≡ sets l (place + width * k) (numbers x) → Adds most place numbers l k (x ∷ []) l' (k + 1)
    adds_one l k x l' room e before items put =
        let all : length items ≡ k = omega (arith, put.count_is) in
        let more : length (items ++ x ∷ []) ≡ k + 1 = length-append items (x ∷ []) ∙ omega (arith, all) in
        let kept : l ≡ sets before place (flat_map numbers items) = (put_all before items l k put (omega arith)).1 in
        let at : place + length (flat_map numbers items) ≡ place + width * k =
        ap (λ (n : ℕ). place + n) (length-flat_map numbers width wide items ∙ ap (λ (n : ℕ). width * n) all)
        in
        record {
          count_is = omega (arith, more);
          stored =
              stored_behind before l l' place (place + width * k) (flat_map numbers items) (numbers x) kept at e
              ∙ ap (λ (r : List ℕ). sets before place (flat_map numbers items ++ r)) (sym (flat_map_one numbers x))
              ∙ ap (sets before place) (sym (flat_map-append numbers items (x ∷ [])))
              ∙ ap (λ (r : List A). sets before place (flat_map numbers r)) (sym (take_all most (items ++ x ∷ []) (omega (arith, more))));
        }

-- A pass over a list, of which each item gives some to put.
module _ {A B : Type 0} (most place : ℕ) (numbers : B → List ℕ) (give : A → List B) (xs : List A) where
  abbrev pub Passed : List ℕ → ℕ → ℕ → List ℕ → ℕ → Type 0
  Passed l k i l' k' = Adds most place numbers l k (flat_map give (take i xs)) l' k'

  pub passed_none : (l : List ℕ) (k : ℕ) → Passed l k 0 l k
  unfolding flat_map
  passed_none l k = adds_none most place numbers l k

  pub passed_more : (l : List ℕ) (k i : ℕ) (l' : List ℕ) (k' : ℕ) (l'' : List ℕ) (k'' : ℕ) (none : A) (more : List B) → i < length xs → give (get_or xs i none) ≡ more →
      Passed l k i l' k' → Adds most place numbers l' k' more l'' k'' → Passed l k (i + 1) l'' k''
  passed_more l k i l' k' l'' k'' none more h is first then =
      subst (λ (r : List B). Adds most place numbers l k r l'' k'')
      (sym (flat_map_more give xs i none h ∙ ap (λ (r : List B). flat_map give (take i xs) ++ r) is))
      (adds_then most place numbers l k (flat_map give (take i xs)) l' k' more l'' k'' first then)

  pub passed_all : (l : List ℕ) (k i : ℕ) (l' : List ℕ) (k' : ℕ) → length xs ≤ i → Passed l k i l' k' → Adds most place numbers l k (flat_map give xs) l' k'
  passed_all l k i l' k' end first = subst (λ (r : List A). Adds most place numbers l k (flat_map give r) l' k') (take_all i xs end) first

-- A pass over the numbers below n that puts what each gives, from none on.
module _ {A : Type 0} (most place : ℕ) (numbers : A → List ℕ) (give : ℕ → List A) (n : ℕ) where
  abbrev below : List ℕ
  below = table n (λ i. i)

  pub record Through (before : List ℕ) (i : ℕ) (l : List ℕ) (k : ℕ) : Type 0 where
    pub within : i ≤ n
    pub passed : Passed most place numbers give below before 0 i l k

  pub through_none : (l : List ℕ) → Through l 0 l 0
  through_none l = record { within = omega arith; passed = passed_none most place numbers give below l 0 }

  module _ (before : List ℕ) (i : ℕ) (l : List ℕ) (k : ℕ) (through : Through before i l k) where
    pub through_more : (l' : List ℕ) (k' : ℕ) → i < n → Adds most place numbers l k (give i) l' k' → Through before (i + 1) l' k'
    through_more l' k' h adds =
        record {
          within = omega arith;
          passed =
              passed_more most place numbers give below before 0 i l k l' k' 0 (give i) (omega (arith, length-table n (λ (j : ℕ). j)))
              (ap give (get_or-table n (λ j. j) i 0 h)) through.passed adds;
        }

    pub through_all : n ≤ i → Put most place numbers before (flat_map give below) l k
    through_all end =
        passed_all most place numbers give below before 0 i l k (omega (arith, length-table n (λ (j : ℕ). j))) through.passed before []
        (put_none most place numbers before)

    pub through_past : most < k → Put most place numbers before (flat_map give below) l k
    through_past past =
        subst (λ (more : List A). Put most place numbers before more l k)
        (sym (flat_map-append give (take i below) (drop i below)) ∙ ap (flat_map give) (take-append-drop i below))
        (adds_past most place numbers l k (flat_map give (drop i below)) past before (flat_map give (take i below))
        (through.passed before [] (put_none most place numbers before)))

-- An edge's two numbers, and a loop's three, stored at places that follow one another.
pub adds_edge : (l : List ℕ) (k from to : ℕ) → k < places.most_edges →
    AddsEdges l k (edge from to ∷ []) (set (set l (places.from + 2 * k) from) (places.to + 2 * k) to) (k + 1)
adds_edge l k from to room =
    adds_one places.most_edges places.from edge_numbers 2 (λ x. refl) l k (edge from to) _ room
    (ap (λ (m : ℕ). set (set l (places.from + 2 * k) from) m to) (suc-add places.from (2 * k)))

pub adds_loop : (l : List ℕ) (k header last bound : ℕ) → k < places.most_loops →
    AddsLoops l k (range header last bound ∷ [])
    (set (set (set l (places.header + 3 * k) header) (places.last + 3 * k) last) (places.bound + 3 * k) bound) (k + 1)
adds_loop l k header last bound room =
    let second = suc-add places.header (3 * k) in
    adds_one places.most_loops places.header loop_numbers 3 (λ x. refl) l k (range header last bound) _ room
    (ap (λ (m : ℕ). set (set (set l (places.header + 3 * k) header) m last) (places.bound + 3 * k) bound) second
    ∙ ap (λ (m : ℕ). set (set (set l (places.header + 3 * k) header) (suc (places.header + 3 * k)) last) m bound)
    (suc-add places.last (3 * k) ∙ ap suc second))
