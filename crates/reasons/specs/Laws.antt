-- What holds of the phrases of the table.
-- phrase_at_lem          every line of the table has its phrase by its number
-- has_row             whether a row of a table has a number
-- phrase_none        a number without a row has an empty phrase
-- phrase-some        a number with a row has one that is not empty
-- phrase-printable   every byte of every phrase is a printable ASCII character, 32 to 126: no NUL and no LF
-- phrase-most        no phrase has more than 80 bytes
use Rattle.std.specs.Prelude.{ℕ, ◌≤◌, ◌<◌, ◌≡◌, refl, Bool, true, false, ◌&&◌, ◌||◌, List, [], ◌∷◌, T, eqb, leb, ltb, length, get_or}
use Rattle.std.proofs.Common.{sym, subst, arith, not-suc-le-zero, leb→le, ltb→lt, lit≤}
use Rattle.logic.specs.Cases.{cases}
use Rattle.logic.specs.Truth.{neither}
use Rattle.logic.specs.Every.{all_left, all_right, each, each_at}
use Rattle.refusals.specs.declared.Reason.{Reason}
use Rattle.refusals.specs.declared.Reason.TheVariants.{TooShort, Magic, Version, DataOffset, RsidReserved, Songs, ReservedBits, MusPayload, NoPayload, PastMemory, RsidLoad, RsidInit, FreePages, MusShort, MusPastMemory, VoiceLength, VoicesPastFile, TextLines, BytesAfterText, UnassignedPair, ValueRange, HltMisplaced, Structure, HedZero, TooDeep, TooLong, MemorySize, VoiceNumber, ListLengths, NoPair, NoSuchSong, SapFirstLine, SapLine, SapTags, SapBlock}
use Rattle.refusals.specs.Numbers.{number_of}
use Rattle.reasons.specs.Phrases.{phrase_of, table, found, phrase_at}
use Rattle.fields.specs.Parts.{byte_text}

-- The phrase of a reason's number is the phrase of that reason, as bytes.
pub phrase_at_lem : (r : Reason) → phrase_at (number_of r) ≡ byte_text (phrase_of r)
phrase_at_lem TooShort = refl
phrase_at_lem Magic = refl
phrase_at_lem Version = refl
phrase_at_lem DataOffset = refl
phrase_at_lem RsidReserved = refl
phrase_at_lem Songs = refl
phrase_at_lem ReservedBits = refl
phrase_at_lem MusPayload = refl
phrase_at_lem NoPayload = refl
phrase_at_lem PastMemory = refl
phrase_at_lem RsidLoad = refl
phrase_at_lem RsidInit = refl
phrase_at_lem FreePages = refl
phrase_at_lem MusShort = refl
phrase_at_lem MusPastMemory = refl
phrase_at_lem VoiceLength = refl
phrase_at_lem VoicesPastFile = refl
phrase_at_lem TextLines = refl
phrase_at_lem BytesAfterText = refl
phrase_at_lem UnassignedPair = refl
phrase_at_lem ValueRange = refl
phrase_at_lem HltMisplaced = refl
phrase_at_lem Structure = refl
phrase_at_lem HedZero = refl
phrase_at_lem TooDeep = refl
phrase_at_lem TooLong = refl
phrase_at_lem MemorySize = refl
phrase_at_lem VoiceNumber = refl
phrase_at_lem ListLengths = refl
phrase_at_lem NoPair = refl
phrase_at_lem NoSuchSong = refl
phrase_at_lem SapFirstLine = refl
phrase_at_lem SapLine = refl
phrase_at_lem SapTags = refl
phrase_at_lem SapBlock = refl

abbrev pub has_row : List Reason → ℕ → Bool
has_row [] n = false
has_row (r ∷ rs) n = eqb n (number_of r) || has_row rs n

-- the phrase of a number that no row has
none_found : (rs : List Reason) (n : ℕ) → has_row rs n ≡ false → found rs n ≡ []
none_found [] n e = refl
none_found (r ∷ rs) n e = let no = neither (eqb n (number_of r)) (has_row rs n) e in rw no.0 (none_found rs n no.1)

-- A number that no row of the table has is given an empty phrase.
pub phrase_none : (n : ℕ) → has_row table n ≡ false → phrase_at n ≡ []
phrase_none n e = none_found table n e

-- the tests of a phrase, and of all phrases of a table
abbrev sized : List ℕ → Bool
sized p = ltb 0 (length p) && leb (length p) 80

abbrev printable : List ℕ → Bool
printable p = each (λ k b. leb 32 b && leb b 126) 0 p

abbrev tested : List ℕ → Bool
tested p = sized p && printable p

abbrev all_tested : List Reason → Bool
all_tested [] = true
all_tested (r ∷ rs) = tested (byte_text (phrase_of r)) && all_tested rs

table-tested : T (all_tested table)
table-tested = tt

module _ (P : List ℕ → Type 0) (passes : (p : List ℕ) → T (tested p) → P p) where
  -- what holds of every tested phrase holds of the phrase of a number with a row
  row-found : (rs : List Reason) (n : ℕ) → T (all_tested rs) → has_row rs n ≡ true → P (found rs n)
  row-found [] n t e = absurd (let z : ◌≡◌ {A = ℕ} 0 1 = cc in omega arith)
  row-found (r ∷ rs) n t e =
      let first = byte_text (phrase_of r) in
      cases (eqb n (number_of r)) (λ is. rw is (passes first (all_left (tested first) (all_tested rs) t)))
      (λ no. rw no (row-found rs n (all_right (tested first) (all_tested rs) t) (rw no at e)))

  -- and, where it holds of an empty phrase too, of the phrase of every number
  each-found : P [] → (rs : List Reason) (n : ℕ) → T (all_tested rs) → P (found rs n)
  each-found empty rs n t =
      cases (has_row rs n) (λ has. row-found rs n t has) (λ no. subst P (sym (none_found rs n no)) empty)

some-tested : (p : List ℕ) → T (tested p) → 0 < length p
some-tested p t = ltb→lt 0 (length p) (all_left (ltb 0 (length p)) (leb (length p) 80) (all_left (sized p) (printable p) t))

most-tested : (p : List ℕ) → T (tested p) → length p ≤ 80
most-tested p t = leb→le (length p) 80 (all_right (ltb 0 (length p)) (leb (length p) 80) (all_left (sized p) (printable p) t))

printable-tested : (p : List ℕ) → T (tested p) → (k : ℕ) → k < length p → (32 ≤ get_or p k 0) × (get_or p k 0 ≤ 126)
printable-tested p t k h =
    let b = get_or p k 0 in
    let passes = each_at (λ j a. leb 32 a && leb a 126) p 0 k (all_right (sized p) (printable p) t) h in
    (leb→le 32 b (all_left (leb 32 b) (leb b 126) passes), leb→le b 126 (all_right (leb 32 b) (leb b 126) passes))

-- A number that a row of the table has is given a phrase that is not empty.
pub phrase-some : (n : ℕ) → has_row table n ≡ true → 0 < length (phrase_at n)
phrase-some n e = row-found (λ p. 0 < length p) some-tested table n table-tested e

-- Every byte of every phrase is a printable ASCII character, 32 to 126: no NUL and no LF.
pub phrase-printable : (n k : ℕ) → k < length (phrase_at n) → (32 ≤ get_or (phrase_at n) k 0) × (get_or (phrase_at n) k 0 ≤ 126)
phrase-printable n =
    each-found (λ p. (k : ℕ) → k < length p → (32 ≤ get_or p k 0) × (get_or p k 0 ≤ 126)) printable-tested
    (λ k h. absurd (not-suc-le-zero h)) table n table-tested

-- No phrase has more than 80 bytes.
pub phrase-most : (n : ℕ) → length (phrase_at n) ≤ 80
phrase-most n = each-found (λ p. length p ≤ 80) most-tested (lit≤ tt) table n table-tested
