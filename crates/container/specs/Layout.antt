-- Document 01, 'MUS container' and 'What comes back': where everything lies in a file, or the first of 21 to
-- 26 that applies.
-- placed             the voices and the lines of the text
-- text_in             the text of a file
-- layout_of           where everything lies
-- container_tests     21 to 26 of a file, whole
-- container_outcome   the first of 21 to 26 that applies, else the layout
use Rattle.std.specs.Prelude.{ℕ, List, ◌++◌, length}
use Rattle.refusals.specs.Numbers.{Outcome}
use Rattle.refusals.specs.Numbers.Outcome.{accepted}
use Rattle.refusals.specs.declared.Test.{Test}
use Rattle.refusals.specs.Tests.{first_of, guarded}
use Rattle.container.specs.declared.Voices.{Voices}
use Rattle.container.specs.declared.text.Text.{Text}
use Rattle.container.specs.declared.Layout.{Layout}
use Rattle.container.specs.Head.{head_of, voices_end, voices_of, head_tests}
use Rattle.container.specs.Text.{text_of, text_tests}

abbrev pub placed : Voices → Text → Layout
placed v t =
    record {
      load = v.load;
      voice1 = v.voice1;
      voice2 = v.voice2;
      voice3 = v.voice3;
      line1 = t.line1;
      line2 = t.line2;
      line3 = t.line3;
      line4 = t.line4;
      line5 = t.line5;
    }

abbrev pub text_in : List ℕ → Text
text_in f = text_of f (voices_end (head_of f))

unfoldable pub layout_of : List ℕ → Layout
layout_of f = placed (voices_of (head_of f)) (text_in f)

unfoldable pub container_tests : List ℕ → List Test
container_tests f = head_tests (head_of f) ++ text_tests (text_in f) (length f)

unfoldable pub container_outcome : List ℕ → Outcome Layout
container_outcome f = guarded (first_of (container_tests f)) (accepted (layout_of f))
