-- A container is right exactly when none of 21 to 26 applies to its file. Laws of such a file.
-- none_layout, layout_none   'exactly when'
-- layout_of_lem                  the layout that is given out
-- head-once, layout_once     no two answers have the same outcome
-- line-part, lines-part      the span of a line names the line, so in a layout
-- VoiceFits                  a voice has an even number of bytes, not 0, lies in the file, and has at most
--                            65,535 bytes
-- HeadFits, head-fits        what 21 to 24 leave: a file of at most 65,536 bytes, and three such voices
-- head_none                  an answer with the voices is where they lie, and none of 21 to 24 applies
-- long-head                  a file of more than 65,536 bytes is 22
-- head_first                 21 to 24 come first
-- short-file, voice1-fits, voice2-fits, voice3-fits   the same of a right container
-- text-whole                 what comes after the voices is five lines and a $00, and nothing more
-- text-good                  the lines have 0 to 32 bytes, and neither $0D nor $00 is among them
use Rattle.std.specs.Prelude.{ℕ, ◌+◌, ◌-◌, ◌%◌, ◌<◌, ◌≤◌, ◌≡◌, true, false, ◌||◌, List, [], length, drop, ltb, eqb}
use Rattle.std.proofs.Common.{sym, arith, drop_of_length-le}
use borrow.Author.Tests.{lt-ltb, le-ltb, ltb-false, eqb-false, not-false}
use Rattle.logic.specs.Truth.{neither}
use Rattle.refusals.specs.declared.Refusal.{Refusal}
use Rattle.refusals.specs.Numbers.{outcome_of}
use Rattle.refusals.specs.Numbers.Outcome.{accepted, refused}
use Rattle.refusals.specs.Tests.{Verdict}
use Rattle.std.specs.Prelude.{Result, Ok, Err}
use Rattle.refusals.specs.Tests.{None, first_of, guarded}
use Rattle.refusals.specs.Laws.{passed_none, none_passed, guarded-accepted, first_failed, first_append, two_ways, outcome-once}
use Rattle.fields.specs.declared.Span.{Span}
use Rattle.fields.specs.Parts.{part_of}
use Rattle.container.specs.declared.Voices.{Voices}
use Rattle.container.specs.declared.Layout.{Layout}
use Rattle.container.specs.Head.{head_of, bad_length, voices_end, voices_of, head_tests, head_outcome}
use Rattle.container.specs.Text.{line_start, line, text_fits, text_end, span_of_line, text_of, text_tests}
use Rattle.container.specs.Layout.{text_in, layout_of, container_tests, container_outcome}
use Rattle.container.specs.TextLaws.{take-line}
use Rattle.container.specs.TextForm.{text_form, GoodLines, text-split, lines-good}

-- Two answers to a file's head that have one outcome are one answer.
pub head-once : (a b : Result Voices Refusal) → outcome_of a ≡ outcome_of b → a ≡ b
head-once = outcome-once

-- Two answers to a file's container that have one outcome are one answer.
pub layout_once : (a b : Result Layout Refusal) → outcome_of a ≡ outcome_of b → a ≡ b
layout_once = outcome-once

-- Where none of 21 to 26 applies, the file is accepted with its layout.
pub none_layout : (f : List ℕ) → None (container_tests f) → container_outcome f ≡ accepted (layout_of f)
unfolding container_outcome
none_layout f h = rw (none_passed (container_tests f) h)

-- Where a layout is given out, none of 21 to 26 applies.
pub layout_none : (f : List ℕ) (l : Layout) → container_outcome f ≡ accepted l → None (container_tests f)
unfolding container_outcome
layout_none f l e = passed_none (container_tests f) (guarded-accepted (first_of (container_tests f)) l (layout_of f) e).0

-- The layout that is given out is the file's.
pub layout_of_lem : (f : List ℕ) (l : Layout) → container_outcome f ≡ accepted l → layout_of f ≡ l
unfolding container_outcome
layout_of_lem f l e = (guarded-accepted (first_of (container_tests f)) l (layout_of f) e).1

-- The span of a line names the bytes of the line.
pub line-part : (f : List ℕ) (at i : ℕ) → part_of f (span_of_line f (line_start f at i)) ≡ line f at i
line-part f at i = take-line (drop (line_start f at i) f)

-- So do the five spans of a layout, of the lines that begin where the voices end.
pub lines-part : (f : List ℕ)
    → (part_of f (layout_of f).line1 ≡ line f (voices_end (head_of f)) 0)
    × (part_of f (layout_of f).line2 ≡ line f (voices_end (head_of f)) 1)
    × (part_of f (layout_of f).line3 ≡ line f (voices_end (head_of f)) 2)
    × (part_of f (layout_of f).line4 ≡ line f (voices_end (head_of f)) 3)
    × (part_of f (layout_of f).line5 ≡ line f (voices_end (head_of f)) 4)
unfolding layout_of text_of
lines-part f = let at = voices_end (head_of f) in (line-part f at 0, line-part f at 1, line-part f at 2, line-part f at 3, line-part f at 4)

-- What 23 leaves of a voice's length.
even-length : (len : ℕ) → bad_length len ≡ false → (len % 2 ≡ 0) × (0 < len)
even-length len e =
    let p = neither (eqb len 0) (eqb (len % 2) 1) e in
    let zero = eqb-false len 0 p.0 in
    let odd = eqb-false (len % 2) 1 p.1 in
    (omega arith, omega arith)

abbrev pub VoiceFits : List ℕ → Span → Type 0
VoiceFits f s = (s.len % 2 ≡ 0) × (0 < s.len) × (s.from + s.len ≤ length f) × (s.len ≤ 65535)

pub record HeadFits (f : List ℕ) (v : Voices) : Type 0 where
  pub short : length f ≤ 65536
  pub within : v.end ≤ length f
  pub voice1 : VoiceFits f v.voice1
  pub voice2 : VoiceFits f v.voice2
  pub voice3 : VoiceFits f v.voice3

-- Where none of 21 to 24 applies, the file is short enough and its voices lie in it.
pub head-fits : (f : List ℕ) → None (head_tests (head_of f)) → HeadFits f (voices_of (head_of f))
unfolding head_of
head-fits f none =
    let x = head_of f in
    let short = ltb-false 65536 (length f) (neither (ltb 65536 (length f)) (ltb 65536 (x.load + (length f - 2))) none.1.0).0 in
    let within = ltb-false (length f) (voices_end x) none.1.1.1.0 in
    let p = neither (bad_length x.len1 || bad_length x.len2) (bad_length x.len3) none.1.1.0 in
    let q = neither (bad_length x.len1) (bad_length x.len2) p.0 in
    let e1 = even-length x.len1 q.0 in
    let e2 = even-length x.len2 q.1 in
    let e3 = even-length x.len3 p.1 in
    record {
      short = short;
      within = within;
      voice1 = (e1.0, e1.1, omega arith, omega arith);
      voice2 = (e2.0, e2.1, omega arith, omega arith);
      voice3 = (e3.0, e3.1, omega arith, omega arith);
    }

-- Where the voices are given out, none of 21 to 24 applies, and they are the file's.
pub head_none : (f : List ℕ) (v : Voices) → head_outcome f ≡ accepted v → None (head_tests (head_of f)) × (voices_of (head_of f) ≡ v)
unfolding head_outcome
head_none f v e = let p = guarded-accepted (first_of (head_tests (head_of f))) v (voices_of (head_of f)) e in (passed_none (head_tests (head_of f)) p.0, p.1)

-- '22: over 65,536 bytes': such a file is refused with 22, at place 0.
pub long-head : (f : List ℕ) → 65536 < length f → head_outcome f ≡ refused 22 0
unfolding head_outcome head_of
long-head f h = rw (le-ltb (length f) 8 (omega arith), lt-ltb 65536 (length f) h)

-- A file that 21 to 24 refuse has the same refusal with its text tested too.
pub head_first : (f : List ℕ) (n p : ℕ) → head_outcome f ≡ refused n p → container_outcome f ≡ refused n p
unfolding head_outcome container_outcome container_tests
head_first f n p e = rw (first_append (head_tests (head_of f)) (text_tests (text_in f) (length f))) (go (first_of (head_tests (head_of f))) e)
  where
    go : (v : Verdict) → guarded v (accepted (voices_of (head_of f))) ≡ refused n p → guarded (first_failed v (first_of (text_tests (text_in f) (length f)))) (accepted (layout_of f)) ≡ refused n p
    go (Ok u) q = absurd (two_ways (sym q))
    go (Err m) q = cc

-- Of a file to which none of 21 to 26 applies:
module _ (f : List ℕ) (none : None (container_tests f)) where
  head_clear : None (head_tests (head_of f))
  unfolding container_tests
  head_clear = (none.0, (none.1.0, (none.1.1.0, (none.1.1.1.0, tt))))

  -- The file has at most 65,536 bytes.
  pub short-file : length f ≤ 65536
  short-file = (head-fits f head_clear).short

  -- what 25 and 26 leave of the text
  text-right : text_fits f (voices_end (head_of f)) ≡ true
  unfolding container_tests text_of
  text-right = not-false (text_fits f (voices_end (head_of f))) none.1.1.1.1.0

  text-last : length f ≤ text_end f (voices_end (head_of f))
  unfolding container_tests text_of
  text-last = ltb-false (text_end f (voices_end (head_of f))) (length f) none.1.1.1.1.1.0

  -- What comes after the voices is five lines, each closed by $0D, and one $00, and the file ends with it.
  pub text-whole : drop (voices_end (head_of f)) f
      ≡ text_form
      (line f (voices_end (head_of f)) 0)
      (line f (voices_end (head_of f)) 1)
      (line f (voices_end (head_of f)) 2)
      (line f (voices_end (head_of f)) 3)
      (line f (voices_end (head_of f)) 4)
      []
  text-whole =
      let at = voices_end (head_of f) in
      rw (drop_of_length-le f text-last) at (text-split f at text-right)

  -- Each of these lines has 0 to 32 bytes, and none of these bytes is $0D or $00.
  pub text-good : GoodLines
      (line f (voices_end (head_of f)) 0)
      (line f (voices_end (head_of f)) 1)
      (line f (voices_end (head_of f)) 2)
      (line f (voices_end (head_of f)) 3)
      (line f (voices_end (head_of f)) 4)
  text-good = lines-good f (voices_end (head_of f)) text-right

  -- Voice 1 has an even number of bytes, not 0 and at most 65,535, and lies in the file.
  pub voice1-fits : VoiceFits f (layout_of f).voice1
  unfolding layout_of
  voice1-fits = (head-fits f head_clear).voice1

  -- Voice 2 has an even number of bytes, not 0 and at most 65,535, and lies in the file.
  pub voice2-fits : VoiceFits f (layout_of f).voice2
  unfolding layout_of
  voice2-fits = (head-fits f head_clear).voice2

  -- Voice 3 has an even number of bytes, not 0 and at most 65,535, and lies in the file.
  pub voice3-fits : VoiceFits f (layout_of f).voice3
  unfolding layout_of
  voice3-fits = (head-fits f head_clear).voice3
