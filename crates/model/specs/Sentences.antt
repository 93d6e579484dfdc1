-- Sentences, of document 02: a refusal or a reason in fixed phrases and decimal numbers, and which text reads as which.
use Rattle.std.specs.Prelude.{ℕ, suc, ◌-◌, ◌^◌, ◌≤◌, ◌<◌, ◌≡◌, List, [], ◌∷◌, ◌++◌, Bool, true, cond, length, take, get_or, ltb, leb, Err, Ok, Result}
use Rattle.model.specs.Refusals.{Verdict}
use Rattle.model.specs.declared.Refusal.{Refusal}
use Prim.Native.String.{String}
use Rattle.std.proofs.lemmas.List.Edits.{sets}
use Rattle.model.specs.declared.Refusal.TheVariants.{OutOfRange, BufferTooShort, NoSentence}
use Rattle.model.specs.declared.Reason.TheVariants.{EveryVisit, FirstLoad, Never}
use Rattle.model.specs.declared.Remark.{Remark}
use Rattle.model.specs.declared.Remark.TheVariants as remark
use Rattle.model.specs.Refusals.{number, place}
use Rattle.model.specs.Places.{most_functions}
use Rattle.model.specs.Graph.{and_then}
use Rattle.model.specs.Decimals.{text, decimal}

-- What is wrong and what the place is, for each refusal in the order of their numbers. No phrase has a digit.
unfoldable pub phrases : List String
phrases =
    "the file ends before a number does; its length is "
    ∷ "a number is misspelt; its first byte is at "
    ∷ "a number is out of range; its place is "
    ∷ "an edge or a loop does not ascend; its place is "
    ∷ "bytes are left over; the first of them is at "
    ∷ "a vertex lacks an edge that it must have; its place is "
    ∷ "a loop crosses an earlier one or holds the last vertex; its place is "
    ∷ "an edge is wrong; its place is "
    ∷ "a loop has no edge back to its header; its place is "
    ∷ "the buffer is too short; the room needed is "
    ∷ "the layout is longer than the list of functions; their number is "
    ∷ "a region is unknown; its function is "
    ∷ "the layout needs more than the scratchpad; the bytes needed are "
    ∷ "the bound passes its limit; its place is "
    ∷ "the walk does not follow the graph to its end; the first bad position is "
    ∷ "the walk visits a header beyond its bound; the first bad position is "
    ∷ "the walk is too long; the most entries are "
    ∷ "a function can reach itself by calls; its number is "
    ∷ "the whole graph would pass a count; its place is "
    ∷ "the last vertex of a graph calls; its function is "
    ∷ "the vertex is unknown; its number is "
    ∷ "the text is no such sentence; the first byte that does not fit is at "
    ∷ []

unfoldable pub phrase : ℕ → List ℕ
phrase n = text (get_or phrases (n - 1) "")

-- A remark's sentence. No zero byte and no line end stands behind it.
unfoldable pub sentence : Remark → List ℕ
sentence (remark.Refused f) =
    text "Refused " ++ decimal (number f) ++ text ": " ++ phrase (number f) ++ decimal (place f) ++ text "."
sentence (remark.Explained (EveryVisit g)) =
    text "Every visit is charged the load, since its region may have been taken by function " ++ decimal g ++ text "."
sentence (remark.Explained FirstLoad) = text "Only a first load is charged, since no other function can have taken its region."
sentence (remark.Explained Never) = text "No load is charged, since its function is always in its region."

-- No sentence is longer.
abbrev pub most_sentence : ℕ
most_sentence = 128

-- The greatest place, 18,446,744,073,709,551,615.
abbrev pub most_place : ℕ
most_place = 2 ^ 64 - 1

-- A remark is *wordable* if its place, or its function, is in range.
abbrev pub wordable : Remark → Bool
wordable (remark.Refused f) = leb (place f) most_place
wordable (remark.Explained (EveryVisit g)) = ltb g most_functions
wordable (remark.Explained FirstLoad) = true
wordable (remark.Explained Never) = true

abbrev pub Wordable : Remark → Type 0
Wordable r = wordable r ≡ true

-- **Word** into a buffer of `room` bytes: 3, the reason names a function above 31 (a place of 64 bits is in range); then 10, the buffer is too short (bytes
-- needed).
abbrev pub judge_remark : Remark → Verdict
judge_remark r = cond (wordable r) (Ok tt) (Err (OutOfRange 0))

abbrev pub judge_room : ℕ → ℕ → Verdict
judge_room need room = cond (ltb room need) (Err (BufferTooShort need)) (Ok tt)

abbrev pub word_verdict : Verdict → ℕ → Result ℕ Refusal
word_verdict (Ok _) need = Ok need
word_verdict (Err f) need = Err f

unfoldable pub word_remark : Remark → ℕ → Result ℕ Refusal
word_remark r room = word_verdict (and_then (judge_remark r) (judge_room (length (sentence r)) room)) (length (sentence r))

-- What the buffer holds afterwards: the sentence, and past it what it held; on a refusal all that it held.
abbrev pub after_word : Result ℕ Refusal → Remark → List ℕ → List ℕ
after_word (Ok n) r buf = sets buf 0 (sentence r)
after_word (Err f) r buf = buf

abbrev pub worded_buffer : Remark → List ℕ → List ℕ
worded_buffer r buf = after_word (word_remark r (length buf)) r buf

-- Some sentence begins with these bytes.
abbrev pub Begins : List ℕ → Type 0
Begins t = (rest : List ℕ) × (r : Remark) × Wordable r × (t ++ rest ≡ sentence r)

-- **Read-sentence**: the remark whose sentence the bytes are, to the last byte; or 22, with the length of the longest front that some sentence begins with.
-- That is the first byte that fits no continuation, and the length where all of it fits.
abbrev pub ReadsAs : List ℕ → Result Remark Refusal → Type 0
ReadsAs s (Ok r) = Wordable r × (s ≡ sentence r)
ReadsAs s (Err f) =
    ((r : Remark) → Wordable r → s ≡ sentence r → ⊥)
    × ((k : ℕ) × (f ≡ NoSentence k) × (k ≤ length s) × Begins (take k s) × (k < length s → Begins (take (suc k) s) → ⊥))
