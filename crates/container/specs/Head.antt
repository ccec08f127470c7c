-- Document 01, 'MUS container': 'Load address (2 bytes), three voice lengths (2 bytes each, low first),
-- voices, text.'
-- head_of          the numbers of a file
-- bad_length       'voice length 0 or odd'
-- voices_end       where the voices end and the text begins
-- voices_of        where the voices lie, one after the other from byte 8 on
-- voice_span       where the voice with a number lies
-- head_tests       21 to 24, in the paper's order
-- head_outcome     the first of 21 to 24 that applies, else where the voices lie
use Rattle.std.specs.Prelude.{ℕ, ◌+◌, ◌-◌, ◌%◌, Bool, ◌||◌, cond, List, [], ◌∷◌, length, ltb, eqb}
use Rattle.refusals.specs.Numbers.{Outcome}
use Rattle.refusals.specs.Numbers.Outcome.{accepted}
use Rattle.refusals.specs.declared.Reason.TheVariants.{MusShort, MusPastMemory, VoiceLength, VoicesPastFile}
use Rattle.refusals.specs.declared.Test.{Test}
use Rattle.refusals.specs.Tests.{test, first_of, guarded}
use Rattle.fields.specs.Numbers.{le16}
use Rattle.fields.specs.declared.Span.{Span}
use Rattle.container.specs.declared.head.Head.{Head}
use Rattle.container.specs.declared.Voices.{Voices}

unfoldable pub head_of : List ℕ → Head
head_of f =
    record {
      size = length f;
      load = le16 f 0;
      len1 = le16 f 2;
      len2 = le16 f 4;
      len3 = le16 f 6;
    }

abbrev pub bad_length : ℕ → Bool
bad_length len = eqb len 0 || eqb (len % 2) 1

abbrev pub voices_end : Head → ℕ
voices_end x = 8 + x.len1 + x.len2 + x.len3

abbrev pub voices_of : Head → Voices
voices_of x =
    record {
      load = x.load;
      voice1 = record { from = 8; len = x.len1 };
      voice2 = record { from = 8 + x.len1; len = x.len2 };
      voice3 = record { from = 8 + x.len1 + x.len2; len = x.len3 };
      end = voices_end x;
    }

abbrev pub voice_span : Voices → ℕ → Span
voice_span v n = cond (eqb n 1) v.voice1 (cond (eqb n 2) v.voice2 v.voice3)

abbrev pub head_tests : Head → List Test
head_tests x =
    -- 21: under 8 bytes
    test MusShort (ltb x.size 8)
    -- 22: over 65,536 bytes, or address plus file length less 2 above 65,536
    ∷ test MusPastMemory (ltb 65536 x.size || ltb 65536 (x.load + (x.size - 2)))
    -- 23: a voice length 0 or odd
    ∷ test VoiceLength (bad_length x.len1 || bad_length x.len2 || bad_length x.len3)
    -- 24: voices run past the file
    ∷ test VoicesPastFile (ltb x.size (voices_end x))
    ∷ []

unfoldable pub head_outcome : List ℕ → Outcome Voices
head_outcome f = guarded (first_of (head_tests (head_of f))) (accepted (voices_of (head_of f)))
