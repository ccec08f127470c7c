-- docs/INTERFACE.md, 'The code of a meaning': the meaning that a number codes, or 43.
-- The crate codelaws proves that this is coding backwards, for the meanings that some pair has.
-- tone_at      a note's three last digits
-- note_at      a note's eight digits
-- command_at   a command's number and value, in one of the tables
-- decoded     the meaning of a number, which may be one that no pair has
use Rattle.std.specs.Prelude.{ℕ, ◌/◌, ◌%◌, List, cond, eqb}
use Rattle.meaning.specs.declared.Tone.{Tone}
use Rattle.meaning.specs.declared.Tone.TheVariants.{Rest, Sounds}
use Rattle.meaning.specs.declared.Meaning.{Meaning}
use Rattle.meaning.specs.declared.Meaning.TheVariants.{Note}
use Rattle.refusals.specs.Numbers.{Outcome}
use Rattle.refusals.specs.Numbers.Outcome.{accepted}
use Rattle.refusals.specs.Tests.{and_then}
use Rattle.decoding.specs.Tables.{Entry, no_meaning, lookup, durations, shapes, ties, letters, accidentals, unsigned_commands, negative_commands}

abbrev pub tone_at : ℕ → Outcome Tone
tone_at k =
    cond (eqb k 0) (accepted Rest)
    (and_then (lookup letters (k / 0x100))
    (λ l. and_then (lookup accidentals (k / 0x10 % 0x10))
    (λ a. accepted (Sounds (record { letter = l; accidental = a; octave = k % 0x10 })))))

abbrev pub note_at : ℕ → Outcome Meaning
note_at n =
    and_then (lookup durations (n / 0x100000 % 0x100))
    (λ d. and_then (lookup shapes (n / 0x10000 % 0x10))
    (λ s. and_then (lookup ties (n / 0x1000 % 0x10))
    (λ t. and_then (tone_at (n % 0x1000))
    (λ o. accepted (Note (record { duration = d; shape = s; tied = t; tone = o }))))))

abbrev pub command_at : List (Entry (ℕ → Outcome Meaning)) → ℕ → ℕ → Outcome Meaning
command_at table id v = and_then (lookup table id) (λ m. m v)

unfoldable pub decoded : ℕ → Outcome Meaning
decoded n =
    cond (eqb (n / 0x10000000) 1) (note_at n)
    (cond (eqb (n / 0x10000 % 0x10) 0) (command_at unsigned_commands (n / 0x100000) (n % 0x10000))
    (cond (eqb (n / 0x10000 % 0x10) 1) (cond (eqb (n % 0x10000) 0) no_meaning (command_at negative_commands (n / 0x100000) (n % 0x10000))) no_meaning))
