-- Refusals: the documents' number and place of each.
use Rattle.std.specs.Prelude.{ℕ, ◌-◌, ◌≡◌, List, [], ◌∷◌, get_or, Result}
use Rattle.model.specs.declared.Refusal.{Refusal}
use Rattle.model.specs.declared.Refusal.TheVariants.{EndsEarly, Misspelt, OutOfRange, NotAscending, LeftOver, MissingEdge, WrongLoop, WrongEdge, NoEdgeBack, BufferTooShort, LayoutTooLong, UnknownRegion, ScratchpadTooSmall, BoundTooLarge, WrongStep, BeyondBound, WalkTooLong, Recursive, CountPassed, LastCalls, UnknownVertex, NoSentence}

-- A *verdict* is what a check without a result says: nothing, or the refusal that applies.
abbrev pub Verdict : Type 0
Verdict = Result (Unit {0}) Refusal

abbrev pub number : Refusal → ℕ
number (EndsEarly at) = 1
number (Misspelt at) = 2
number (OutOfRange at) = 3
number (NotAscending at) = 4
number (LeftOver at) = 5
number (MissingEdge at) = 6
number (WrongLoop at) = 7
number (WrongEdge at) = 8
number (NoEdgeBack at) = 9
number (BufferTooShort at) = 10
number (LayoutTooLong at) = 11
number (UnknownRegion at) = 12
number (ScratchpadTooSmall at) = 13
number (BoundTooLarge at) = 14
number (WrongStep at) = 15
number (BeyondBound at) = 16
number (WalkTooLong at) = 17
number (Recursive at) = 18
number (CountPassed at) = 19
number (LastCalls at) = 20
number (UnknownVertex at) = 21
number (NoSentence at) = 22

abbrev pub place : Refusal → ℕ
place (EndsEarly at) = at
place (Misspelt at) = at
place (OutOfRange at) = at
place (NotAscending at) = at
place (LeftOver at) = at
place (MissingEdge at) = at
place (WrongLoop at) = at
place (WrongEdge at) = at
place (NoEdgeBack at) = at
place (BufferTooShort at) = at
place (LayoutTooLong at) = at
place (UnknownRegion at) = at
place (ScratchpadTooSmall at) = at
place (BoundTooLarge at) = at
place (WrongStep at) = at
place (BeyondBound at) = at
place (WalkTooLong at) = at
place (Recursive at) = at
place (CountPassed at) = at
place (LastCalls at) = at
place (UnknownVertex at) = at
place (NoSentence at) = at

-- The last refusal's number.
abbrev pub last_refusal : ℕ
last_refusal = 22

-- The refusals in the order of their numbers, each without its place.
abbrev pub refusals : List (ℕ → Refusal)
refusals =
    EndsEarly
    ∷ Misspelt
    ∷ OutOfRange
    ∷ NotAscending
    ∷ LeftOver
    ∷ MissingEdge
    ∷ WrongLoop
    ∷ WrongEdge
    ∷ NoEdgeBack
    ∷ BufferTooShort
    ∷ LayoutTooLong
    ∷ UnknownRegion
    ∷ ScratchpadTooSmall
    ∷ BoundTooLarge
    ∷ WrongStep
    ∷ BeyondBound
    ∷ WalkTooLong
    ∷ Recursive
    ∷ CountPassed
    ∷ LastCalls
    ∷ UnknownVertex
    ∷ NoSentence
    ∷ []

-- The refusal with a number, 1 to the last, and a place.
abbrev pub refusal_of : ℕ → ℕ → Refusal
refusal_of n = get_or refusals (n - 1) NoSentence

-- The same refusal at another place.
abbrev pub placed_at : Refusal → ℕ → Refusal
placed_at (EndsEarly at) k = EndsEarly k
placed_at (Misspelt at) k = Misspelt k
placed_at (OutOfRange at) k = OutOfRange k
placed_at (NotAscending at) k = NotAscending k
placed_at (LeftOver at) k = LeftOver k
placed_at (MissingEdge at) k = MissingEdge k
placed_at (WrongLoop at) k = WrongLoop k
placed_at (WrongEdge at) k = WrongEdge k
placed_at (NoEdgeBack at) k = NoEdgeBack k
placed_at (BufferTooShort at) k = BufferTooShort k
placed_at (LayoutTooLong at) k = LayoutTooLong k
placed_at (UnknownRegion at) k = UnknownRegion k
placed_at (ScratchpadTooSmall at) k = ScratchpadTooSmall k
placed_at (BoundTooLarge at) k = BoundTooLarge k
placed_at (WrongStep at) k = WrongStep k
placed_at (BeyondBound at) k = BeyondBound k
placed_at (WalkTooLong at) k = WalkTooLong k
placed_at (Recursive at) k = Recursive k
placed_at (CountPassed at) k = CountPassed k
placed_at (LastCalls at) k = LastCalls k
placed_at (UnknownVertex at) k = UnknownVertex k
placed_at (NoSentence at) k = NoSentence k
