-- What a caller makes of a refusal's place and of what tt_mus_voices puts out: which pair of which voice is
-- refused. A voice is named by its number, 1 to 3, a pair by its number in the voice, counted from 0.
-- PairNamed     a file offset is that of a stored pair of a voice
-- PlacesNamed   so is the place of each refusal from 27 to 33, in one way; proofs/Named.antt proves it
use Rattle.std.specs.Prelude.{ℕ, ◌+◌, ◌*◌, ◌/◌, ◌<◌, ◌≤◌, ◌≡◌, List}
use Rattle.refusals.specs.Numbers.Outcome.{accepted, refused}
use Rattle.container.specs.declared.Voices.{Voices}
use Rattle.container.specs.Head.{head_of, voices_of, voice_span, head_outcome}
use Rattle.mus.specs.Song.{mus_outcome}

pub record PairNamed (v : Voices) (place : ℕ) : Type 0 where
  pub voice : ℕ
  pub pair : ℕ
  -- The voice's number is from 1 to 3.
  pub number : (1 ≤ voice) × (voice ≤ 3)
  -- The pair is one of the pairs that tt_mus_voices counts for the voice.
  pub stored : pair < (voice_span v voice).len / 2
  -- The place is the voice's offset and two bytes for each pair before this one.
  pub stands : place ≡ (voice_span v voice).from + 2 * pair

pub record PlacesNamed (file : List ℕ) : Type 0 where
  -- A file that is refused with 27 to 33 has a value of tt_mus_voices, and the place of the refusal is a
  -- stored pair of one of its voices.
  pub named : (number place : ℕ) → mus_outcome file ≡ refused number place → 26 < number
      → (head_outcome file ≡ accepted (voices_of (head_of file))) × PairNamed (voices_of (head_of file)) place
  -- No place is a pair of two voices or two pairs of one.
  pub once : (place : ℕ) (a b : PairNamed (voices_of (head_of file)) place) → (a.voice ≡ b.voice) × (a.pair ≡ b.pair)
