-- Each call of a PSID or RSID file tells a value from a refusal (`Apart`).
-- sid_answers   so for tt_sid_read, _fields, _load and _speed
use Prim.Native.Nat.{ℕ, ◌<◌}
use mathlib.Core.Path.{◌≡◌}
use mathlib.Core.Bool.{◌||◌}
use mathlib.Core.List.{List, [], ◌∷◌}
use native.Mathlib.Omega.{arith}
use lib.Dec.{lit<, eqb, ltb}
use lib.ListN.{length}
use Rattle.refusals.specs.Numbers.{Outcome}
use Rattle.refusals.specs.Numbers.Outcome.{accepted, refused}
use Rattle.refusals.specs.declared.Reason.TheVariants.{NoSuchSong}
use Rattle.refusals.specs.Tests.{test, first_of, and_then}
use Rattle.refusals.specs.Laws.{two_ways, guarded-accepted}
use Rattle.sid.specs.declared.Header.{Header}
use Rattle.sid.specs.Answers.{sid_outcome}
use Rattle.sidload.specs.Loading.{load_outcome}
use Rattle.sid.specs.Speed.{speed_bit, song_speed}
use Rattle.sidspeed.specs.Speed.{speed_outcome}
use Rattle.answers.specs.Answers.{no_value}
use Rattle.answers.specs.Apart.{Apart, low-apart}
use Rattle.sidcalls.specs.Lists.{header_numbers}
use Rattle.sidcalls.specs.Statements.{SidAnswers}
use Rattle.sidcalls.proofs.Places.{sid_low, load_low, speed_low}

module _ (f : List ℕ) where
  speed_apart : (song : ℕ) → Apart (λ bit. bit) (speed_outcome f song)
  unfolding speed_outcome speed_bit
  speed_apart song = low-apart (λ bit. bit) (speed_outcome f song) (λ bit e. bit_low (sid_outcome f) bit e) (speed_low f song)
    where
      bit_low : (o : Outcome Header) (bit : ℕ) → and_then o (λ h. song_speed h song) ≡ accepted bit → bit < 0x100000000
      bit_low (accepted h) bit e =
          let is : speed_bit h.speed song ≡ bit = (guarded-accepted (first_of (test NoSuchSong (eqb song 0 || ltb h.songs song) ∷ [])) bit (speed_bit h.speed song) e).1 in
          omega (arith, is)
      bit_low (refused n p) bit e = absurd (two_ways e)

  pub sid_answers : SidAnswers f
  sid_answers = record {
    read-apart = low-apart no_value (sid_outcome f) (λ h e. lit< tt) (sid_low f);
    fields-apart = low-apart (λ h. length (header_numbers h)) (sid_outcome f) (λ h e. lit< tt) (sid_low f);
    load_apart = λ cells. low-apart no_value (load_outcome f cells) (λ h e. lit< tt) (load_low f cells);
    speed_apart = speed_apart;
  }
