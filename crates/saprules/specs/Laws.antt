-- Laws of what a tag states.
-- stated-place   a tag is there exactly where its cell for the place is not 0
-- default_most, default_exact   that a number is read up to `most` changes no answer about DEFSONG
use Rattle.std.specs.Prelude.{ℕ, ◌≤◌, ◌<◌, min, ◌≡◌, not, leb, eqb}
use Rattle.std.proofs.Common.{arith, leb-true, leb-false, le-leb}
use Rattle.std.proofs.lemmas.Bool.{lt-leb}
use Rattle.logic.specs.Cases.{cases}
use Rattle.characters.specs.Characters.{most}
use Rattle.saptext.specs.Reading.{state_of}
use Rattle.saprules.specs.Against.{is_stated}

-- A tag is there exactly where its cell for the place is not 0.
pub stated-place : (place value : ℕ) → is_stated (state_of place value) ≡ not (eqb place 0)
stated-place place value = cases (eqb place 0) (λ e. rw e) (λ e. rw e)

-- A decimal number above `most` is read as `most`. That it is not below SONGS, which is at most 32, does not
-- depend on it.
pub default_most : (songs n : ℕ) → songs ≤ 32 → leb songs (min n most) ≡ leb songs n
default_most songs n h =
    cases (leb songs n)
    (λ e. rw e (le-leb songs (min n most) (omega (arith, leb-true songs n e))))
    (λ e. rw e (lt-leb songs (min n most) (omega (arith, leb-false songs n e))))

-- And a default song that is below SONGS is the number that the file states.
pub default_exact : (songs n : ℕ) → songs ≤ 32 → min n most < songs → min n most ≡ n
default_exact songs n h k = omega arith
