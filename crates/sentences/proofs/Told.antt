-- Sentences are the texts that the grammar allows, each with the remark it came from.
use Prim.Native.Nat.{ℕ, ◌-◌, ◌≤◌, ◌<◌}
use native.Mathlib.Omega.{arith}
use mathlib.Core.Path.{◌≡◌, refl, sym, ap, ap₂, ◌∙◌, subst}
use mathlib.Core.List.{List, [], ◌∷◌, ◌++◌, append_assoc}
use mathlib.Core.Logic.{inl, inr}
use borrow.Author.Tests.{leb-true, le-leb, ltb-true, lt-ltb}
use Rattle.model.specs.declared.Refusal.{Refusal}
use Rattle.model.specs.declared.Reason.TheVariants.{EveryVisit, FirstLoad, Never}
use Rattle.model.specs.declared.Remark.{Remark}
use Rattle.model.specs.declared.Remark.TheVariants as remark
use Rattle.model.specs.Refusals.{last_refusal, number, place, refusal_of}
use Rattle.model.specs.Places.{most_functions}
use Rattle.model.specs.Decimals.{text, decimal}
use Rattle.model.specs.Sentences.{phrase, sentence, most_place, Wordable}
use Rattle.model.proofs.Refusals.{known, number_is, place_is}
use Rattle.grammar.specs.Grammar.{dead, done, value, texts, Spells, Plain, Good}
use Rattle.grammar.proofs.Texts.{texts_spell, spell_texts, texts_plain, whole_spell, spell_whole, value_spell, spell_value, first_spell, whole_first, other_spell, Split, spell_either, spell_end, Live, done_live, texts_live, value_live, either_live}
use Rattle.sentences.specs.Remarks.{refusing, every_visit, first_load, never, after_place, after_number, after_function, last, fixed, reasons, remarks}

-- ---- every turn of the grammar leads to some sentence

stop_live : (r : Remark) → Live (texts (text ".") (done r)) × Plain (texts (text ".") (done r))
unfolding text
stop_live r = (texts_live (text ".") (done r) (done_live r), texts_plain 46 [] (done r) refl)

place_live : (n at : ℕ) → Live (after_place n at) × Plain (after_place n at)
unfolding after_place
place_live n at = stop_live (remark.Refused (refusal_of n at))

number_live : (n : ℕ) → Live (after_number n) × Plain (after_number n)
unfolding after_number text
number_live n =
    let phrased = texts (phrase n) (value 0 most_place (after_place n)) in
    let live = texts_live (phrase n) (value 0 most_place (after_place n)) (value_live 0 most_place (after_place n) (omega arith) (omega arith) (place_live n)) in
    (texts_live (text ": ") phrased live, texts_plain 58 (32 ∷ []) phrased refl)

function_live : (g : ℕ) → Live (after_function g) × Plain (after_function g)
unfolding after_function
function_live g = stop_live (remark.Explained (EveryVisit g))

pub remarks_live : Live remarks
unfolding remarks Good
remarks_live =
    let r = value_live 1 last_refusal after_number (omega arith) (omega arith) number_live in
    let v = value_live 0 (most_functions - 1) after_function (omega arith) (omega arith) function_live in
    let f = done_live (remark.Explained FirstLoad) in
    let n = done_live (remark.Explained Never) in
    either_live refusing _ _ r (either_live every_visit _ _ v (either_live first_load _ _ f (either_live never _ dead n tt).good).good).good

-- ---- a remark's sentence is allowed

-- What stands behind a refusal's opening, and behind that of a reason that names a function.
abbrev numbered : ℕ → ℕ → List ℕ
numbered n at = decimal n ++ (text ": " ++ (phrase n ++ (decimal at ++ text ".")))

abbrev named : ℕ → List ℕ
named g = decimal g ++ text "."

refusal_parts : (f : Refusal) → sentence (remark.Refused f) ≡ refusing ++ numbered (number f) (place f)
unfolding sentence
refusal_parts f = simp append_assoc

visit_parts : (g : ℕ) → sentence (remark.Explained (EveryVisit g)) ≡ every_visit ++ named g
unfolding sentence
visit_parts g = simp append_assoc

refusal_spelt : (n at : ℕ) → 1 ≤ n → n ≤ last_refusal → at ≤ most_place → Spells (value 1 last_refusal after_number) (numbered n at) (remark.Refused (refusal_of n at))
unfolding after_number after_place
refusal_spelt n at low high within =
    let r = remark.Refused (refusal_of n at) in
    let placed = value_spell 0 most_place (after_place n) at (text ".") r (omega arith) within (whole_spell (text ".") r) in
    let phrased = texts_spell (phrase n) (value 0 most_place (after_place n)) (decimal at ++ text ".") r placed in
    value_spell 1 last_refusal after_number n (text ": " ++ (phrase n ++ (decimal at ++ text "."))) r low high
    (texts_spell (text ": ") (texts (phrase n) (value 0 most_place (after_place n))) (phrase n ++ (decimal at ++ text ".")) r phrased)

visit_spelt : (g : ℕ) → g < most_functions → Spells (value 0 (most_functions - 1) after_function) (named g) (remark.Explained (EveryVisit g))
unfolding after_function
visit_spelt g h =
    let r = remark.Explained (EveryVisit g) in
    value_spell 0 (most_functions - 1) after_function g (text ".") r (omega arith) (omega arith) (whole_spell (text ".") r)

-- By the opening: those before it have another first byte.
spelt_visit : (r : Remark) (t : List ℕ) → Spells (value 0 (most_functions - 1) after_function) t r → Spells remarks (every_visit ++ t) r
unfolding remarks text
spelt_visit r t x = other_spell refusing _ _ (every_visit ++ t) r (λ q. let z = q in omega arith) (first_spell every_visit _ _ t r x)

spelt_first : Spells remarks first_load (remark.Explained FirstLoad)
unfolding remarks text
spelt_first =
    let here = whole_first first_load (remark.Explained FirstLoad) last in
    other_spell refusing _ _ first_load _ (λ q. let z = q in omega arith) (other_spell every_visit _ _ first_load _ (λ q. let z = q in omega arith) here)

spelt_never : Spells remarks never (remark.Explained Never)
unfolding remarks text
spelt_never =
    let here = other_spell first_load _ _ never _ (λ q. let z = q in omega arith) (whole_first never (remark.Explained Never) dead) in
    other_spell refusing _ _ never _ (λ q. let z = q in omega arith) (other_spell every_visit _ _ never _ (λ q. let z = q in omega arith) here)

pub spelt : (r : Remark) → Wordable r → Spells remarks (sentence r) r
unfolding remarks sentence
spelt (remark.Refused f) w =
    let k = known f in
    let s = refusal_spelt (number f) (place f) k.low k.high (leb-true (place f) most_place w) in
    rw (refusal_parts f) (first_spell refusing _ _ (numbered (number f) (place f)) _ (subst (λ (e : Refusal). Spells (value 1 last_refusal after_number) (numbered (number f) (place f)) (remark.Refused e)) k.is s))
spelt (remark.Explained (EveryVisit g)) w = rw (visit_parts g) (spelt_visit _ (named g) (visit_spelt g (ltb-true g most_functions w)))
spelt (remark.Explained FirstLoad) w = spelt_first
spelt (remark.Explained Never) w = spelt_never

-- ---- what the grammar allows is a remark's sentence

abbrev Is : List ℕ → Remark → Type 0
Is s r = Wordable r × (s ≡ sentence r)

then : {s t u : List ℕ} (w : List ℕ) → s ≡ w ++ t → t ≡ u → s ≡ w ++ u
then w e f = e ∙ ap (λ (l : List ℕ). w ++ l) f

refusal_is_lem : (n at : ℕ) (s t : List ℕ) → 1 ≤ n → n ≤ last_refusal → at ≤ most_place → s ≡ refusing ++ t → t ≡ numbered n at → Is s (remark.Refused (refusal_of n at))
refusal_is_lem n at s t low high within e parts =
    let same = ap₂ numbered (sym (number_is n at low high)) (sym (place_is n at low high)) in
    (le-leb (place (refusal_of n at)) most_place (omega (arith, place_is n at low high)), then refusing e (parts ∙ same) ∙ sym (refusal_parts (refusal_of n at)))

told_refusal : (s t : List ℕ) (r : Remark) → s ≡ refusing ++ t → Spells (value 1 last_refusal after_number) t r → Is s r
unfolding after_number after_place
told_refusal s t r e x =
    let (n, low, high, (u, f, y)) = spell_value 1 last_refusal after_number t r x in
    let (v, g, z) = spell_texts (text ": ") (texts (phrase n) (value 0 most_place (after_place n))) u r y in
    let (v', g', z') = spell_texts (phrase n) (value 0 most_place (after_place n)) v r z in
    let (at, _, within, (u', f', y')) = spell_value 0 most_place (after_place n) v' r z' in
    let (stop, is) = spell_whole (text ".") r (remark.Refused (refusal_of n at)) u' y' in
    subst (Is s) is (refusal_is_lem n at s t low high within e (then (decimal n) f (then (text ": ") g (then (phrase n) g' (then (decimal at) f' stop)))))

told_visit : (s t : List ℕ) (r : Remark) → s ≡ every_visit ++ t → Spells (value 0 (most_functions - 1) after_function) t r → Is s r
unfolding after_function
told_visit s t r e x =
    let (g, _, high, (u, f, y)) = spell_value 0 (most_functions - 1) after_function t r x in
    let (stop, is) = spell_whole (text ".") r (remark.Explained (EveryVisit g)) u y in
    let parts : t ≡ named g = then (decimal g) f stop in
    subst (Is s) is (lt-ltb g most_functions (omega arith), then every_visit e parts ∙ sym (visit_parts g))

-- A reason that is one text.
told_whole : (s t : List ℕ) (q r : Remark) → Wordable q → s ≡ sentence q ++ t → Spells (done q) t r → Is s r
told_whole s t q r w e x = let (whole, is) = spell_end (sentence q) r q s t e x in subst (Is s) is (w, whole)

pub told : (s : List ℕ) (r : Remark) → Spells remarks s r → Is s r
unfolding remarks sentence Spells
told s r x = refused (spell_either refusing (value 1 last_refusal after_number) reasons s r x)
  where
    final : Split never (done (remark.Explained Never)) dead s r → Is s r
    final (inl (t, e, y)) = told_whole s t (remark.Explained Never) r refl e y
    final (inr y) = absurd y

    first : Split first_load (done (remark.Explained FirstLoad)) last s r → Is s r
    first (inl (t, e, y)) = told_whole s t (remark.Explained FirstLoad) r refl e y
    first (inr y) = final (spell_either never (done (remark.Explained Never)) dead s r y)

    visited : Split every_visit (value 0 (most_functions - 1) after_function) fixed s r → Is s r
    visited (inl (t, e, y)) = told_visit s t r e y
    visited (inr y) = first (spell_either first_load (done (remark.Explained FirstLoad)) last s r y)

    refused : Split refusing (value 1 last_refusal after_number) reasons s r → Is s r
    refused (inl (t, e, y)) = told_refusal s t r e y
    refused (inr y) = visited (spell_either every_visit (value 0 (most_functions - 1) after_function) fixed s r y)
