-- A problem's numbers stored part by part into zeros, each list behind its count: the places behind a list's items stay zero.
use Prim.Native.Nat.{ℕ, zero, suc, ◌+◌, ◌-◌, ◌*◌, ◌≤◌}
use mathlib.Core.Path.{◌≡◌, refl, sym, ap, ap₂, ◌∙◌}
use mathlib.Core.List.{List, [], ◌∷◌, ◌++◌, flat_map, append_assoc, append-nil}
use native.Mathlib.Omega.{arith}
use native.Mathlib.Nat.{mul-suc, mul-add}
use lib.ListN.{length, get_or, drop, replicate, length-append, length-replicate, replicate-append-replicate, get_or-eq_default, get_or-append}
use lib.Seq.{sets, sets-eq, ext_get_or, take-append_seam, drop-append-add, get_or-append-add}
use Rattle.model.specs.declared.Function.{Function}
use Rattle.model.specs.declared.Vertex.{Vertex}
use Rattle.model.specs.declared.Edge.{Edge}
use Rattle.model.specs.declared.Loop.{Loop}
use Rattle.model.specs.Zero.{zero_function, zero_vertex, zero_edge, zero_loop}
use Rattle.model.specs.Places as places
use Rattle.model.specs.Numbers.{function_numbers, vertex_numbers, edge_numbers, loop_numbers, numbers_in, in_places}
use Rattle.model.proofs.Cases.{by_order}
use Rattle.model.proofs.Lists.{length-table, get_or-table, get_or-replicate_self}
use Rattle.numbers.specs.InParts.{in_parts}
use Rattle.model.proofs.Mapped.{flat_map-append}
use Rattle.numbers.proofs.Places.{length-flat_map}

-- A part in m places, the spare ones zero.
abbrev whole : ℕ → List ℕ → List ℕ
whole m s = s ++ replicate (m - length s) 0

drop_zeros : (n k : ℕ) → drop {A = ℕ} k (replicate (k + n) 0) ≡ replicate n 0
drop_zeros n zero = ap (λ (m : ℕ). replicate m 0) (let e : 0 + n ≡ n = omega arith in e)
drop_zeros n (suc k) = ap (λ (m : ℕ). drop {A = ℕ} (suc k) (replicate m 0)) (let e : suc k + n ≡ suc (k + n) = omega arith in e) ∙ drop_zeros n k

-- A part stored behind what is done leaves zeros behind it.
put_part : (done : List ℕ) (m rest place : ℕ) (part : List ℕ) → length part ≤ m → length done ≡ place →
    sets (done ++ replicate (m + rest) 0) place part ≡ (done ++ whole m part) ++ replicate rest 0
put_part done m rest place part fits at =
    let n = length part in
    let left : m + rest ≡ n + (m - n + rest) = omega arith in
    let room : length done + n ≤ length (done ++ replicate (m + rest) 0) = omega (arith, length-append done (replicate (m + rest) 0), length-replicate {A = ℕ} (m + rest) 0) in
    ap (λ (k : ℕ). sets (done ++ replicate (m + rest) 0) k part) (sym at)
    ∙ sets-eq part (done ++ replicate (m + rest) 0) (length done) room
    ∙ ap₂ (λ (a b : List ℕ). a ++ part ++ b) (take-append_seam done (replicate (m + rest) 0))
    (drop-append-add done (replicate (m + rest) 0) n ∙ ap (λ (k : ℕ). drop n (replicate k 0)) left ∙ drop_zeros (m - n + rest) n ∙ sym (replicate-append-replicate (m - n) rest 0))
    ∙ sym (append_assoc (done ++ part) (replicate (m - n) 0) (replicate rest 0))
    ∙ ap (λ (a : List ℕ). a ++ replicate rest 0) (append_assoc done part (replicate (m - n) 0))

-- A list in places is the list and then zeros, item by item and number by number.
in_places_is : {A : Type 0} (n : ℕ) (spare : A) (s : List A) → length s ≤ n → in_places n spare s ≡ s ++ replicate (n - length s) spare
in_places_is n spare s fits =
    ext_get_or spare (in_places n spare s) (s ++ replicate (n - length s) spare)
    (length-table n (λ i. get_or s i spare) ∙ (let e : n ≡ length s + (n - length s) = omega arith in e) ∙ ap (λ (k : ℕ). length s + k) (sym (length-replicate (n - length s) spare)) ∙ sym (length-append s (replicate (n - length s) spare)))
    (λ i h. get_or-table n (λ j. get_or s j spare) i spare (omega (arith, length-table n (λ j. get_or s j spare))) ∙ sym (item i))
  where
    item : (i : ℕ) → get_or (s ++ replicate (n - length s) spare) i spare ≡ get_or s i spare
    item i = by_order i (length s)
        (λ h. get_or-append s (replicate (n - length s) spare) spare i h)
        (λ h.
        let e : i ≡ length s + (i - length s) = omega arith in
        ap (λ (k : ℕ). get_or (s ++ replicate (n - length s) spare) k spare) e
        ∙ get_or-append-add s (replicate (n - length s) spare) (i - length s) spare
        ∙ get_or-replicate_self (n - length s) (i - length s) spare
        ∙ sym (get_or-eq_default s spare h))

module _ {A : Type 0} (numbers : A → List ℕ) (w : ℕ) (wide : (a : A) → length (numbers a) ≡ w) (spare : A) (zeros : numbers spare ≡ replicate w 0) where
  spare_numbers : (k : ℕ) → flat_map numbers (replicate k spare) ≡ replicate (w * k) 0
  unfolding flat_map
  spare_numbers zero = ap (λ (m : ℕ). replicate m 0) (let e : 0 ≡ w * 0 = omega arith in e)
  spare_numbers (suc k) =
      ap₂ (λ (a b : List ℕ). a ++ b) zeros (spare_numbers k)
      ∙ replicate-append-replicate w (w * k) 0
      ∙ ap (λ (m : ℕ). replicate m 0) (let e : w + w * k ≡ w * suc k = omega (arith, mul-suc w k) in e)

  stored_part : (n : ℕ) (s : List A) → length s ≤ n → flat_map numbers (in_places n spare s) ≡ flat_map numbers s ++ replicate (w * (n - length s)) 0
  stored_part n s fits =
      ap (flat_map numbers) (in_places_is n spare s fits)
      ∙ flat_map-append numbers s (replicate (n - length s) spare)
      ∙ ap (λ (r : List ℕ). flat_map numbers s ++ r) (spare_numbers (n - length s))

  -- Behind other numbers: the part in its places.
  whole_part : (n m : ℕ) (front : List ℕ) (s : List A) → length s ≤ n → m ≡ length front + w * n → front ++ flat_map numbers (in_places n spare s) ≡ whole m (front ++ flat_map numbers s)
  whole_part n m front s fits size =
      let long = length-append front (flat_map numbers s) in
      let items = length-flat_map numbers w wide s in
      let split : w * n ≡ w * length s + w * (n - length s) = ap (λ (k : ℕ). w * k) (let e : n ≡ length s + (n - length s) = omega arith in e) ∙ mul-add w (length s) (n - length s) in
      let left : w * (n - length s) ≡ m - length (front ++ flat_map numbers s) = omega arith in
      ap (λ (r : List ℕ). front ++ r) (stored_part n s fits)
      ∙ sym (append_assoc front (flat_map numbers s) (replicate (w * (n - length s)) 0))
      ∙ ap (λ (k : ℕ). (front ++ flat_map numbers s) ++ replicate k 0) left

length_whole : (m : ℕ) (s : List ℕ) → length s ≤ m → length (whole m s) ≡ m
length_whole m s fits = length-append s (replicate (m - length s) 0) ∙ omega (arith, length-replicate {A = ℕ} (m - length s) 0)

-- The widths of the four parts.
abbrev vertex_room : ℕ
vertex_room = places.edge_count - places.vertex_count

abbrev edge_room : ℕ
edge_room = places.loop_count - places.edge_count

abbrev loop_room : ℕ
loop_room = places.end - places.loop_count

four_parts : (a b c e : List ℕ) → length a ≤ places.vertex_count → length b ≤ vertex_room → length c ≤ edge_room → length e ≤ loop_room →
    sets (sets (sets (sets (replicate places.end 0) places.edition a) places.vertex_count b) places.edge_count c) places.loop_count e
    ≡ whole places.vertex_count a ++ (whole vertex_room b ++ (whole edge_room c ++ whole loop_room e))
four_parts a b c e p q r s =
    let A = whole places.vertex_count a in
    let B = whole vertex_room b in
    let C = whole edge_room c in
    let E = whole loop_room e in
    let la = length_whole places.vertex_count a p in
    let lb = length_whole vertex_room b q in
    let lc = length_whole edge_room c r in
    let lab = length-append A B in
    ap (λ (m : List ℕ). sets (sets (sets m places.vertex_count b) places.edge_count c) places.loop_count e) (put_part [] places.vertex_count (vertex_room + (edge_room + loop_room)) places.edition a p refl)
    ∙ ap (λ (m : List ℕ). sets (sets m places.edge_count c) places.loop_count e) (put_part A vertex_room (edge_room + loop_room) places.vertex_count b q la)
    ∙ ap (λ (m : List ℕ). sets m places.loop_count e) (put_part (A ++ B) edge_room loop_room places.edge_count c r (omega arith))
    ∙ put_part ((A ++ B) ++ C) loop_room 0 places.loop_count e s (omega (arith, length-append (A ++ B) C))
    ∙ append-nil (((A ++ B) ++ C) ++ E)
    ∙ append_assoc (A ++ B) C E
    ∙ append_assoc A B (C ++ E)

pub stored_parts :
    (edition scratchpad function_count : ℕ) (fs : List Function) (vertex_count : ℕ) (vs : List Vertex) (edge_count : ℕ) (es : List Edge) (loop_count : ℕ) (ls : List Loop) →
    length fs ≤ places.most_functions → length vs ≤ places.most_vertices → length es ≤ places.most_edges → length ls ≤ places.most_loops →
    sets (sets (sets (sets (replicate places.end 0) places.edition (edition ∷ scratchpad ∷ function_count ∷ flat_map function_numbers fs))
    places.vertex_count (vertex_count ∷ flat_map vertex_numbers vs)) places.edge_count (edge_count ∷ flat_map edge_numbers es)) places.loop_count (loop_count ∷ flat_map loop_numbers ls)
    ≡ numbers_in edition (in_parts scratchpad function_count fs vertex_count vs edge_count es loop_count ls)
unfolding numbers_in
stored_parts edition scratchpad function_count fs vertex_count vs edge_count es loop_count ls few_fs few_vs few_es few_ls =
    four_parts (edition ∷ scratchpad ∷ function_count ∷ flat_map function_numbers fs) (vertex_count ∷ flat_map vertex_numbers vs) (edge_count ∷ flat_map edge_numbers es) (loop_count ∷ flat_map loop_numbers ls)
    (omega (arith, length-flat_map function_numbers places.function_width (λ a. refl) fs))
    (omega (arith, length-flat_map vertex_numbers places.vertex_width (λ a. refl) vs))
    (omega (arith, length-flat_map edge_numbers places.edge_width (λ a. refl) es))
    (omega (arith, length-flat_map loop_numbers places.loop_width (λ a. refl) ls))
    ∙ sym (
    ap₂ (λ (x y : List ℕ). x ++ y) (whole_part function_numbers places.function_width (λ a. refl) zero_function refl places.most_functions places.vertex_count (edition ∷ scratchpad ∷ function_count ∷ []) fs few_fs refl)
    (ap₂ (λ (x y : List ℕ). x ++ y) (whole_part vertex_numbers places.vertex_width (λ a. refl) zero_vertex refl places.most_vertices vertex_room (vertex_count ∷ []) vs few_vs refl)
    (ap₂ (λ (x y : List ℕ). x ++ y) (whole_part edge_numbers places.edge_width (λ a. refl) zero_edge refl places.most_edges edge_room (edge_count ∷ []) es few_es refl)
    (whole_part loop_numbers places.loop_width (λ a. refl) zero_loop refl places.most_loops loop_room (loop_count ∷ []) ls few_ls refl))))
