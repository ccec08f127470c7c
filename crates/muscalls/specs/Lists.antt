-- docs/INTERFACE.md, 'The voices of a MUS file': what stands in the list after a call that accepts.
-- voice_numbers   'the file offset of its first pair, its stored pairs, its events and its pairs walked'
-- song_numbers    these 'for voice 1, then 2, then 3'
use Rattle.std.specs.Prelude.{ℕ, ◌/◌, List, [], ◌∷◌}
use Rattle.mus.specs.declared.Voice.{Voice}
use Rattle.mus.specs.declared.Song.{Song}

abbrev pub voice_numbers : Voice → List ℕ → List ℕ
voice_numbers v rest = v.offset ∷ v.length / 2 ∷ v.events ∷ v.walked ∷ rest

abbrev pub song_numbers : Song → List ℕ
song_numbers s = voice_numbers s.voice1 (voice_numbers s.voice2 (voice_numbers s.voice3 []))
