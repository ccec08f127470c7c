-- docs/INTERFACE.md, 'What a call answers', of MUS files: no value can be taken for a refusal.
-- MusAnswers   so for each call, of every file; proofs/Laws.antt proves it
use Rattle.std.specs.Prelude.{ℕ, List, length}
use Rattle.mus.specs.Song.{mus_outcome}
use Rattle.events.specs.Listing.{listing}
use Rattle.answers.specs.Apart.{Apart}
use Rattle.muscalls.specs.Lists.{song_numbers}

pub record MusAnswers (file : List ℕ) : Type 0 where
  -- No value of tt_mus_accept can be taken for a refusal,
  pub accept_apart : Apart (λ s. length (song_numbers s)) (mus_outcome file)
  -- and none of tt_mus_list, for any voice, first event and lists.
  pub list_apart : (voice first : ℕ) (os js : List ℕ) → Apart (λ count. count) (listing file voice first os js).answer
