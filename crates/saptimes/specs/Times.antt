-- Source 002, 'TIME': a song's duration, at the front of bytes.
-- seconds_in, clock_with, clock_at   'one or two digits specifying minutes', 'colon', 'two digits specifying
--                                 seconds': the value is in seconds
-- thousandths   what one unit of a fraction's last digit is: tenths, hundredths or thousandths of a second,
--               in milliseconds
-- fraction_of, fraction_at   'optionally: decimal point (dot) followed by one to three digits (fraction of a
--                          second)': the value is in milliseconds
-- loop_word, looped_at   'optionally: one space followed by four uppercase letters "LOOP"'
-- with_fraction, with_clock, time_at   these three: the value is 2 × milliseconds, plus 1 where LOOP follows
use Rattle.std.specs.Prelude.{Option, Some, None, ℕ, ◌+◌, ◌*◌, Bool, cond, ◌&&◌, ◌||◌, List, [], ◌∷◌, drop, leb, eqb}
use Rattle.characters.specs.declared.Digits.{Digits}
use Rattle.characters.specs.Characters.{begins, stands, digits_of}
use Rattle.saparguments.specs.declared.Argument.{Argument}
use Rattle.saparguments.specs.Arguments.{good}

-- the digits of the seconds, after those of the minutes and one byte
abbrev pub seconds_in : Digits → List ℕ → Digits
seconds_in minutes s = digits_of 10 (drop (minutes.len + 1) s)

abbrev pub clock_with : Digits → Digits → Bool → Option Argument
clock_with minutes seconds colon =
    cond ((eqb minutes.len 1 || eqb minutes.len 2) && colon && eqb seconds.len 2)
    (good (minutes.len + 1 + seconds.len) (minutes.value * 60 + seconds.value)) None

abbrev pub clock_at : List ℕ → Option Argument
clock_at s = let minutes = digits_of 10 s in clock_with minutes (seconds_in minutes s) (begins 0x3A (drop minutes.len s))

abbrev pub thousandths : ℕ → ℕ
thousandths digits = cond (eqb digits 1) 100 (cond (eqb digits 2) 10 1)

abbrev pub fraction_of : Digits → Option Argument
fraction_of d = cond (leb 1 d.len && leb d.len 3) (good (d.len + 1) (d.value * thousandths d.len)) None

abbrev pub fraction_at : List ℕ → Option Argument
fraction_at s = cond (begins 0x2E s) (fraction_of (digits_of 10 (drop 1 s))) (good 0 0)

abbrev pub loop_word : List ℕ
loop_word = 0x20 ∷ 0x4C ∷ 0x4F ∷ 0x4F ∷ 0x50 ∷ []

abbrev pub looped_at : ℕ → ℕ → List ℕ → Option Argument
looped_at len milliseconds s = cond (stands loop_word s) (good (len + 5) (2 * milliseconds + 1)) (good len (2 * milliseconds))

abbrev pub with_fraction : ℕ → ℕ → List ℕ → Option Argument → Option Argument
with_fraction len seconds s None = None
with_fraction len seconds s (Some f) = looped_at (len + f.len) (seconds * 1000 + f.value) (drop f.len s)

abbrev pub with_clock : List ℕ → Option Argument → Option Argument
with_clock s None = None
with_clock s (Some c) = with_fraction c.len c.value (drop c.len s) (fraction_at (drop c.len s))

abbrev pub time_at : List ℕ → Option Argument
time_at s = with_clock s (clock_at s)
