-- Laws of a listing: when it is refused, what each cell holds after it, and how two listings go together.
-- That no two answers have the same outcome is outcome-once of crates/refusals/specs/Laws.antt.
-- voice-first, lengths-next, file-last   the outcome of a call: 41 by the voice, then 42 by the lists, then
--                                        that of the file
-- refused_unchanged           a refusal leaves both lists as they were
-- Answered, accepted-window   any other answer is that of the voice asked for, of an accepted file
-- count_in                     how many of some cells a voice fills
-- numbers_of                   the pair numbers of events
-- cell-offset, cell_jiffy     each cell below the count holds the offset, the jiffy, of its event
-- cell_beyond                 every other cell keeps its old content
-- length-kept                 no list changes its length
-- past_the_end                past the end nothing is listed
-- two_windows                 a listing in two parts is the listing in one
-- jiffies-never_fall          the jiffies listed never fall
-- meet_again                  events of equal exact time share a jiffy, whichever voices they are of
use Rattle.std.specs.Prelude.{ℕ, zero, suc, ◌+◌, ◌-◌, ◌*◌, ◌≤◌, ◌<◌, ◌≡◌, true, false, ◌||◌, List, [], ◌∷◌, ◌++◌, map, ◌⊎◌, eqb, ltb, length, take, drop, get_or}
use Rattle.std.proofs.Math.Path.{refl}
use Rattle.std.proofs.Common.{sym, ◌∙◌, inl, inr, arith, not-suc-le-zero, le_of_suc-le-suc, length-take, length-drop}
use Rattle.std.proofs.Math.Decide.{dec_le}
use Rattle.std.proofs.lemmas.List.{length-map}
use borrow.Author.Tests.{eq-eqb, ne_eqb, eqb-true, not-false}
use Rattle.refusals.specs.Numbers.{Outcome}
use Rattle.refusals.specs.Numbers.Outcome.{accepted, refused}
use Rattle.refusals.specs.Tests.{first_of, guarded, and_then}
use Rattle.refusals.specs.Laws.{passed_none, two_ways, guarded-passed}
use Rattle.clock.specs.Times.{time_of, jiffy_of}
use Rattle.clock.specs.Running.{length-jiffies, jiffies_at}
use Rattle.clock.specs.Laws.{jiffies_rise, same_time}
use Rattle.bodies.specs.Bodies.{Event}
use Rattle.mus.specs.declared.Voice.{Voice}
use Rattle.mus.specs.declared.Song.{Song}
use Rattle.mus.specs.Song.{mus_outcome}
use Rattle.mus.specs.Asked.{song_voice, voice_asked}
use Rattle.mus.specs.AskedLaws.{file-next, asked-accepted}
use Rattle.cells.specs.Laws.{filled-length, filled_at, filled_beyond, filled-split}
use Rattle.walk.specs.Times.{offsets_of, meanings, jiffies_of}
use Rattle.events.specs.Listing.{caller_tests, played_in, count_of, window_in, filled_by, listing_by, listing}

-- What an answer with a count says: the file is accepted, the voice is one of its three, the lists are of one
-- length, and the call leaves window_in of that voice.
pub record Answered (f : List ℕ) (voice first : ℕ) (os js : List ℕ) : Type 0 where
  pub song : Song
  pub file : mus_outcome f ≡ accepted song
  pub number : ltb voice 1 || ltb 3 voice ≡ false
  pub lengths : length os ≡ length js
  pub window : listing f voice first os js ≡ window_in f (song_voice song voice) first os js

module _ (f : List ℕ) (voice first : ℕ) (os js : List ℕ) where
  -- A voice that is not 1 to 3 is 41, before all else.
  pub voice-first : ltb voice 1 || ltb 3 voice ≡ true → (listing f voice first os js).answer ≡ refused 41 0
  unfolding listing_by
  voice-first e = rw e

  -- For one of these voices two lists of unequal length are 42, whatever the file.
  pub lengths-next : ltb voice 1 || ltb 3 voice ≡ false → (length os ≡ length js → ⊥) → (listing f voice first os js).answer ≡ refused 42 0
  unfolding listing_by
  lengths-next e n = rw (e, ne_eqb (length os) (length js) n)

  -- With both in order the call goes by the file: its own refusal, or its voice ('40, 41 and 42 are tested
  -- before the file, in that order').
  pub file-last : ltb voice 1 || ltb 3 voice ≡ false → length os ≡ length js
      → listing f voice first os js
      ≡ filled_by (played_in f) first os js (and_then (mus_outcome f) (λ s. accepted (song_voice s voice)))
  unfolding listing_by
  file-last e same = rw (e, eq-eqb (length os) (length js) same, file-next f voice e)

  -- A refusal leaves both lists as they were ('A refusal .. changes no lent memory').
  pub refused_unchanged : {number place : ℕ} → (listing f voice first os js).answer ≡ refused number place → ((listing f voice first os js).offsets ≡ os) × ((listing f voice first os js).jiffies ≡ js)
  unfolding listing_by
  refused_unchanged {number} {place} e = go (guarded (first_of (caller_tests voice (length os) (length js))) (voice_asked f voice)) e
    where
      go : (o : Outcome Voice) → (filled_by (played_in f) first os js o).answer ≡ refused number place
          → ((filled_by (played_in f) first os js o).offsets ≡ os) × ((filled_by (played_in f) first os js o).jiffies ≡ js)
      go (accepted v) q = absurd (two_ways (sym q))
      go (refused n p) q = (refl, refl)

  -- A call that answers a count has listed the voice asked for, of an accepted file.
  pub accepted-window : {n : ℕ} → (listing f voice first os js).answer ≡ accepted n → Answered f voice first os js
  unfolding listing_by
  accepted-window {n} e = go (guarded (first_of (caller_tests voice (length os) (length js))) (voice_asked f voice)) refl e
    where
      go : (o : Outcome Voice) → guarded (first_of (caller_tests voice (length os) (length js))) (voice_asked f voice) ≡ o
          → (filled_by (played_in f) first os js o).answer ≡ accepted n → Answered f voice first os js
      go (accepted v) q h =
          let passed = guarded-passed (first_of (caller_tests voice (length os) (length js))) (voice_asked f voice) v q in
          let none = passed_none (caller_tests voice (length os) (length js)) passed.0 in
          let asked = asked-accepted f voice v passed.1 in
          record {
            song = asked.song;
            file = asked.file;
            number = asked.number;
            lengths = eqb-true (length os) (length js) (not-false (eqb (length os) (length js)) none.1.0);
            window = rw (q, asked.voice);
          }
      go (refused m p) q h = absurd (two_ways h)

abbrev pub count_in : List ℕ → Voice → ℕ → List ℕ → ℕ
count_in f v first cells = count_of (length cells) first (played_in f v)

abbrev pub numbers_of : List Event → List ℕ
numbers_of es = map (λ (e : Event). e.number) es

-- as many offsets and as many jiffies as events
length-offsets : (base : ℕ) (es : List Event) → length (offsets_of base es) ≡ length es
unfolding offsets_of
length-offsets base es = length-map es (λ (e : Event). base + 2 * e.number)

length-listed : (es : List Event) → length (jiffies_of es) ≡ length es
unfolding jiffies_of
length-listed es = length-jiffies (meanings es) ∙ length-map es (λ (e : Event). e.meaning)

-- the offset and the jiffy of event k
offset_at : (base : ℕ) (es : List Event) (k : ℕ) → k < length es → get_or (offsets_of base es) k 0 ≡ base + 2 * get_or (numbers_of es) k 0
unfolding offsets_of
offset_at base [] k h = absurd (not-suc-le-zero h)
offset_at base (e ∷ es) zero h = refl
offset_at base (e ∷ es) (suc k) h = offset_at base es k (le_of_suc-le-suc h)

jiffy_at : (es : List Event) (k : ℕ) → k < length es → get_or (jiffies_of es) k 0 ≡ jiffy_of (meanings es) k
unfolding jiffies_of
jiffy_at es k h = jiffies_at (meanings es) k (omega (arith, length-map es (λ (e : Event). e.meaning)))

module _ (f : List ℕ) (v : Voice) (first : ℕ) (os js : List ℕ) where
  -- Cell i of the first list holds the file offset of the event whose number is the first one asked for plus
  -- i, for each i below the count.
  pub cell-offset : (i : ℕ) → i < count_in f v first os → get_or (window_in f v first os js).offsets i 0 ≡ v.offset + 2 * get_or (numbers_of (played_in f v)) (first + i) 0
  cell-offset i h =
      let es = played_in f v in
      filled_at first (count_in f v first os) (offsets_of v.offset es) os (omega (arith, length-offsets v.offset es)) i 0 h
      ∙ offset_at v.offset es (first + i) (omega arith)

  -- Cell i of the second list holds that event's jiffy.
  pub cell_jiffy : (i : ℕ) → i < count_in f v first os → get_or (window_in f v first os js).jiffies i 0 ≡ jiffy_of (meanings (played_in f v)) (first + i)
  cell_jiffy i h =
      let es = played_in f v in
      filled_at first (count_in f v first os) (jiffies_of es) js (omega (arith, length-listed es)) i 0 h
      ∙ jiffy_at es (first + i) (omega arith)

  -- Every cell from the count on keeps its old content, in both lists.
  pub cell_beyond : (i : ℕ) → count_in f v first os ≤ i → (get_or (window_in f v first os js).offsets i 0 ≡ get_or os i 0) × (get_or (window_in f v first os js).jiffies i 0 ≡ get_or js i 0)
  cell_beyond i h =
      let es = played_in f v in
      let n = count_in f v first os in (
        filled_beyond first n (offsets_of v.offset es) os (omega (arith, length-offsets v.offset es)) i 0 h,
        filled_beyond first n (jiffies_of es) js (omega (arith, length-listed es)) i 0 h,
      )

  -- Both lists keep their length.
  pub length-kept : length os ≡ length js → (length (window_in f v first os js).offsets ≡ length os) × (length (window_in f v first os js).jiffies ≡ length js)
  length-kept same =
      let es = played_in f v in
      let n = count_in f v first os in (
        filled-length first n (offsets_of v.offset es) os (omega (arith, length-offsets v.offset es)) (omega arith),
        filled-length first n (jiffies_of es) js (omega (arith, length-listed es)) (omega arith),
      )

  -- From an event number past the voice's end on nothing is listed: the count is 0 and both lists are as
  -- before.
  pub past_the_end : length (played_in f v) ≤ first → window_in f v first os js ≡ record { answer = accepted 0; offsets = os; jiffies = js }
  past_the_end h = let none : count_in f v first os ≡ 0 = omega arith in rw none

  -- Two calls, the second from the event where the first's cells end, leave together what one call with both
  -- parts of the lists leaves, and their counts add up.
  pub two_windows : (a : ℕ) → a ≤ length os → length os ≡ length js
      → ((window_in f v first os js).offsets ≡ (window_in f v first (take a os) (take a js)).offsets ++ (window_in f v (first + a) (drop a os) (drop a js)).offsets)
      × ((window_in f v first os js).jiffies ≡ (window_in f v first (take a os) (take a js)).jiffies ++ (window_in f v (first + a) (drop a os) (drop a js)).jiffies)
      × (count_in f v first os ≡ count_in f v first (take a os) + count_in f v (first + a) (drop a os))
  two_windows a h same =
      let es = played_in f v in
      let n = count_in f v first os in
      let m = count_in f v first (take a os) in
      let k = count_in f v (first + a) (drop a os) in
      let left : length (take a os) ≡ a = simp length-take (omega arith) in
      let right = length-drop a os in
      let sum : n ≡ m + k = omega arith in
      let two : (m ≡ a) ⊎ (k ≡ 0) = elim (dec_le a (length es - first)) [ yes s ↦ inl (omega arith) | no s ↦ inr (omega arith) ] in (
        filled-split first a n m k (offsets_of v.offset es) os sum (omega arith) h two,
        filled-split first a n m k (jiffies_of es) js sum (omega arith) (omega arith) two,
        sum,
      )

  -- The jiffies listed never fall from one cell to a later one.
  pub jiffies-never_fall : (i j : ℕ) → i ≤ j → j < count_in f v first os → get_or (window_in f v first os js).jiffies i 0 ≤ get_or (window_in f v first os js).jiffies j 0
  jiffies-never_fall i j h below =
      omega (arith, cell_jiffy i (omega arith), cell_jiffy j below, jiffies_rise (meanings (played_in f v)) (first + i) (first + j) (omega arith))

-- Events of equal exact time share a jiffy, whichever voices and files they are of: voices that meet in time
-- meet in the lists.
pub meet_again : (f g : List ℕ) (v w : Voice) (first and_then : ℕ) (os js ps ks : List ℕ) (i j : ℕ) → i < count_in f v first os → j < count_in g w and_then ps
    → time_of (meanings (played_in f v)) (first + i) ≡ time_of (meanings (played_in g w)) (and_then + j)
    → get_or (window_in f v first os js).jiffies i 0 ≡ get_or (window_in g w and_then ps ks).jiffies j 0
meet_again f g v w first and_then os js ps ks i j hi hj e =
    cell_jiffy f v first os js i hi
    ∙ same_time (meanings (played_in f v)) (meanings (played_in g w)) (first + i) (and_then + j) e
    ∙ sym (cell_jiffy g w and_then ps ks j hj)
