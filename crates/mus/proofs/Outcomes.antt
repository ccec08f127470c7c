-- The order of the tests, as the code meets it.
-- pairs-refused, structure-refused, both-clear   a voice by what its passes found
-- clear-sound                a voice in which they found nothing has sound bodies
-- pairs-few, structure-few   the pair that they found has a small number
-- part-short                 a part of a file is no longer than the file
-- first-refused, second-refused, third-refused, all_sound   a file by its voices
-- in_file_lem                    what a right container says of the places of its voices
-- container-fits             a file by its container
-- file-answered              a voice by its number, by the file
use Prim.Native.Nat.{ℕ, ◌+◌, ◌*◌, ◌≤◌}
use mathlib.Core.Path.{◌≡◌, subst}
use mathlib.Core.Bool.{false, ◌||◌}
use mathlib.Core.List.{List}
use native.Mathlib.Omega.{arith}
use lib.Dec.{ltb}
use lib.ListN.{length, take, drop, length-take, length-drop}
use Rattle.refusals.specs.Numbers.{Outcome, number_of}
use Rattle.refusals.specs.Numbers.Outcome.{accepted, refused}
use Rattle.refusals.specs.Tests.{and_then}
use Rattle.container.specs.declared.Layout.{Layout}
use Rattle.container.specs.Layout.{container_outcome}
use Rattle.container.specs.Laws.{layout_none, layout_of_lem, short-file, voice1-fits, voice2-fits, voice3-fits}
use Rattle.bodies.specs.Voice.{pairs}
use Rattle.bodies.specs.Order as order
use Rattle.bodies.proofs.Stored.{length_pairs}
use Rattle.std.specs.Prelude.{Err}
use Rattle.structure.specs.declared.Finding.{Finding}
use Rattle.structure.specs.Tests.{start}
use Rattle.structure.specs.Findings.{Clear, pairs_finding, structure_finding, pairs_tests, nestings_tests}
use Rattle.structure.specs.Laws.{clear_none, pairs-within, structure-within}
use Rattle.structure.proofs.Sound.{sound}
use Rattle.counts.specs.Limits.{count_outcome}
use Rattle.mus.specs.declared.Voice.{Voice}
use Rattle.mus.specs.Voices.{limited, voice_by, voice_outcome}
use Rattle.mus.specs.declared.Song.{Song}
use Rattle.mus.specs.Song.{voice_in, song_with, song_in, song_by, mus_outcome}
use Rattle.mus.specs.Bounds.{InFile}
use Rattle.mus.specs.Asked.{song_voice, voice_asked}
use Rattle.mus.specs.AskedLaws.{file-next}

module _ (offset : ℕ) (bs : List ℕ) where
  pub pairs-refused : (x : Finding) → pairs_finding (pairs bs) ≡ Err x → voice_outcome offset bs ≡ refused (number_of x.reason) (offset + 2 * x.pair)
  unfolding voice_by
  pairs-refused x e = rw e

  pub structure-refused : (x : Finding) → pairs_finding (pairs bs) ≡ Clear → structure_finding (pairs bs) ≡ Err x
      → voice_outcome offset bs ≡ refused (number_of x.reason) (offset + 2 * x.pair)
  unfolding voice_by
  structure-refused x e g = rw (e, g)

  pub both-clear : pairs_finding (pairs bs) ≡ Clear → structure_finding (pairs bs) ≡ Clear → voice_outcome offset bs ≡ limited offset (length bs) (count_outcome (pairs bs))
  unfolding voice_by
  both-clear e g = rw (e, g)

pub clear-sound : (bs : List ℕ) → pairs_finding (pairs bs) ≡ Clear → structure_finding (pairs bs) ≡ Clear → order.Sound (pairs bs)
unfolding pairs_finding structure_finding
clear-sound bs e g = sound (pairs bs) (clear_none 0 (pairs_tests (pairs bs)) e) (clear_none 0 (nestings_tests start (pairs bs)) g)

pub pairs-few : (bs : List ℕ) (x : Finding) → length bs ≤ 65536 → pairs_finding (pairs bs) ≡ Err x → x.pair ≤ 65536
pairs-few bs x h e = omega (arith, pairs-within (pairs bs) x.reason x.pair e, length_pairs bs)

pub structure-few : (bs : List ℕ) (x : Finding) → length bs ≤ 65536 → structure_finding (pairs bs) ≡ Err x → x.pair ≤ 65536
structure-few bs x h e = omega (arith, structure-within (pairs bs) x.reason x.pair e, length_pairs bs)

pub part-short : (f : List ℕ) (from len : ℕ) → length f ≤ 65536 → length (take len (drop from f)) ≤ 65536
part-short f from len h = omega (arith, length-take len (drop from f), length-drop from f)

module _ (f : List ℕ) (l : Layout) where
  pub first-refused : (n p : ℕ) → voice_in pairs f l.voice1 ≡ refused n p → song_in (voice_in pairs f) l ≡ refused n p
  first-refused n p e = rw e

  pub second-refused : (v1 : Voice) (n p : ℕ) → voice_in pairs f l.voice1 ≡ accepted v1
      → voice_in pairs f l.voice2 ≡ refused n p → song_in (voice_in pairs f) l ≡ refused n p
  second-refused v1 n p e g = rw (e, g)

  pub third-refused : (v1 v2 : Voice) (n p : ℕ) → voice_in pairs f l.voice1 ≡ accepted v1
      → voice_in pairs f l.voice2 ≡ accepted v2 → voice_in pairs f l.voice3 ≡ refused n p
      → song_in (voice_in pairs f) l ≡ refused n p
  third-refused v1 v2 n p e g h = rw (e, g, h)

  pub all_sound : (v1 v2 v3 : Voice) → voice_in pairs f l.voice1 ≡ accepted v1
      → voice_in pairs f l.voice2 ≡ accepted v2 → voice_in pairs f l.voice3 ≡ accepted v3
      → song_in (voice_in pairs f) l ≡ accepted (song_with l v1 v2 v3)
  all_sound v1 v2 v3 e g h = rw (e, g, h)

  pub in_file_lem : container_outcome f ≡ accepted l → InFile f l
  in_file_lem e =
      let none = layout_none f l e in
      subst (InFile f) (layout_of_lem f l e)
      record {
        short = short-file f none;
        voice1 = omega (arith, short-file f none, (voice1-fits f none).2);
        voice2 = omega (arith, short-file f none, (voice2-fits f none).2);
        voice3 = omega (arith, short-file f none, (voice3-fits f none).2);
      }

  pub container-fits : container_outcome f ≡ accepted l → mus_outcome f ≡ song_in (voice_in pairs f) l
  unfolding song_by
  container-fits e = rw e

pub file-answered : (f : List ℕ) (n : ℕ) → ltb n 1 || ltb 3 n ≡ false → (o : Outcome Song) → o ≡ mus_outcome f → and_then o (λ s. accepted (song_voice s n)) ≡ voice_asked f n
file-answered f n inside o e = rw (file-next f n inside, e)
