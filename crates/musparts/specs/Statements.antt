-- docs/INTERFACE.md, 'What a call answers', of the parts of MUS files: no value can be taken for a refusal.
-- PartAnswers   so for each call, of every file; proofs/Laws.antt proves it
use Rattle.std.specs.Prelude.{ℕ, List, length}
use Rattle.container.specs.Head.{head_outcome}
use Rattle.mus.specs.Song.{mus_outcome}
use Rattle.mus.specs.Text.{line_asked}
use Rattle.voicelength.specs.Length.{length_asked}
use Rattle.answers.specs.Apart.{Apart}
use Rattle.musparts.specs.Lists.{line_numbers, place_numbers, time_numbers}

pub record PartAnswers (file : List ℕ) : Type 0 where
  -- No value of tt_mus_load can be taken for a refusal.
  pub load_apart : Apart (λ s. s.load) (mus_outcome file)
  -- No value of tt_mus_line can, for any line.
  pub line-apart : (line : ℕ) → Apart (λ l. length (line_numbers l)) (line_asked file line)
  -- No value of tt_mus_voices can.
  pub voices_apart : Apart (λ v. length (place_numbers v)) (head_outcome file)
  -- No value of tt_mus_length can, for any voice.
  pub length-apart : (voice : ℕ) → Apart (λ t. length (time_numbers t)) (length_asked file voice)
