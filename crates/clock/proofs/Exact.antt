-- exact   no length of a note that a pair means drops a fraction
use Rattle.std.specs.Prelude.{ℕ, ◌*◌, ◌<◌, ◌≡◌, refl, ◌⊎◌}
use Rattle.std.proofs.Common.{⊎_elim, arith}
use Rattle.meaning.specs.declared.Duration.{Duration}
use Rattle.meaning.specs.declared.Duration.TheVariants.{Whole, Half, Quarter, Eighth, Sixteenth, ThirtySecond, SixtyFourth, UtilityDuration, UtilityVoice, AbsolutePitch}
use Rattle.meaning.specs.declared.Shape.{Shape}
use Rattle.meaning.specs.declared.Shape.TheVariants.{Plain, Dotted, DoubleDotted, Triplet}
use Rattle.note.specs.Reading.{note_of}
use Rattle.clock.specs.declared.Values.{Values}
use Rattle.clock.specs.Lengths.{plain_length, shaped, note_length}
use Rattle.clock.specs.Laws.{dotted_exact, triplet_exact, double_dotted_exact, numerator, denominator, parts_of_whole, whole_of, never_dotted}

parts_exact : (q : Values) (d : Duration) → parts_of_whole d * plain_length q d ≡ whole_of q d
parts_exact q Whole = omega arith
parts_exact q Half = omega arith
parts_exact q Quarter = omega arith
parts_exact q Eighth = omega arith
parts_exact q Sixteenth = omega arith
parts_exact q ThirtySecond = omega arith
parts_exact q SixtyFourth = omega arith
parts_exact q UtilityDuration = omega arith
parts_exact q UtilityVoice = omega arith
parts_exact q AbsolutePitch = omega arith

-- 'Time is in 384ths of a jiffy: with tempo t a whole note is 384t, each next value half of that': whole
-- ones, since each length is the fraction that the paper names of the length that it names.
pub exact : (q : Values) (a b : ℕ) → a < 256
    → (denominator (note_of a b).shape * note_length q (note_of a b) ≡ numerator (note_of a b).shape * plain_length q (note_of a b).duration)
    × (parts_of_whole (note_of a b).duration * plain_length q (note_of a b).duration ≡ whole_of q (note_of a b).duration)
exact q a b h =
    let d = (note_of a b).duration in
    (go d (note_of a b).shape (never_dotted a h), parts_exact q d)
  where
    go : (d : Duration) (s : Shape) → (d ≡ SixtyFourth → (s ≡ Plain) ⊎ (s ≡ Triplet)) → denominator s * shaped s (plain_length q d) ≡ numerator s * plain_length q d
    go d Plain k = refl
    go d Dotted k = dotted_exact q d
    go d DoubleDotted k = double_dotted_exact q d (λ e. let z : ◌≡◌ {A = ℕ} 0 1 = ⊎_elim (λ p. cc) (λ p. cc) (k e) in omega arith)
    go d Triplet k = triplet_exact q d
