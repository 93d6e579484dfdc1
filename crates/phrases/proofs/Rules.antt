-- The rules that every phrase keeps, each by one computed test: it has at most 73 bytes, and no digit among them.
use Prim.Native.Nat.{ℕ, zero, suc, ◌-◌, ◌≤◌}
use Prim.Native.String.{String}
use mathlib.Core.Path.{◌≡◌, refl}
use mathlib.Core.Bool.{Bool, true, ◌&&◌, ◌||◌}
use mathlib.Core.List.{List, [], ◌∷◌}
use lib.ListN.{length, get_or}
use lib.Dec.{ltb, leb}
use borrow.Author.Tests.{leb-true}
use Rattle.model.specs.Decimals.{text}
use Rattle.model.specs.Sentences.{phrases, phrase}
use Rattle.model.proofs.Cases.{and_left, and_right}
use Rattle.phrases.specs.Joined.{most_phrase}

-- A test that every text of a list passes, and what stands beyond its end.
abbrev all : (List ℕ → Bool) → List String → Bool
all test [] = test []
all test (p ∷ rest) = test (text p) && all test rest

each : (test : List ℕ → Bool) (ps : List String) (k : ℕ) → all test ps ≡ true → test (text (get_or ps k "")) ≡ true
unfolding text
each test [] k e = e
each test (p ∷ rest) zero e = and_left (test (text p)) (all test rest) e
each test (p ∷ rest) (suc k) e = each test rest k (and_right (test (text p)) (all test rest) e)

abbrev short : List ℕ → Bool
short bytes = leb (length bytes) most_phrase

pub phrase_size : (n : ℕ) → length (phrase n) ≤ most_phrase
unfolding phrase phrases text
phrase_size n = leb-true (length (phrase n)) most_phrase (each short phrases (n - 1) refl)

-- So a sentence's numbers are the refusal's number and its place.
abbrev pub digitless : List ℕ → Bool
digitless [] = true
digitless (c ∷ rest) = (ltb c 48 || leb 58 c) && digitless rest

pub phrase_digitless : (n : ℕ) → digitless (phrase n) ≡ true
unfolding phrase phrases text
phrase_digitless n = each digitless phrases (n - 1) refl
