-- Where each line of a text begins, as the lines are read one after the other. Assumes nothing.
-- start-within     the lines begin within any bound of the text's start and the file, but for a byte each
-- next_start       where the line after line i begins
-- start1 .. start5 the same for each of five lines
-- text-read        the five lines and the byte after them make the text
use Prim.Native.Nat.{ℕ, zero, suc, ◌+◌, ◌<◌, ◌≤◌, ◌^◌}
use mathlib.Core.Path.{◌≡◌, refl}
use mathlib.Core.Bool.{◌&&◌}
use mathlib.Core.List.{List}
use native.Mathlib.Omega.{arith}
use lib.ListN.{length}
use Rattle.container.specs.declared.text.Line.{Line}
use Rattle.container.specs.declared.text.Text.{Text}
use Rattle.container.specs.Text.{line_start, zero_at, line_of, text_of}
use Rattle.container.specs.TextLaws.{line-within}

module _ (f : List ℕ) (at : ℕ) where
  pub start-within : (bound : ℕ) → at ≤ bound → length f ≤ bound → (i : ℕ) → line_start f at i ≤ bound + i
  start-within bound h k zero = omega arith
  start-within bound h k (suc i) = let p = start-within bound h k i in omega (arith, line-within f (line_start f at i) (bound + i) p (omega arith))

  pub next_start : (i s : ℕ) (l : Line) → s ≡ line_start f at i → l ≡ line_of f s → l.next ≡ line_start f at (suc i)
  unfolding line_of
  next_start i s l es el = rw (el, es)

  -- no line of five begins so far out that a sum is too great
  pub start_small : at < 2 ^ 63 → length f < 2 ^ 63 → (i s : ℕ) → i ≤ 5 → s ≡ line_start f at i → s + 1 < 2 ^ 64
  start_small h k i s m e = omega (arith, e, start-within (2 ^ 63) (omega arith) (omega arith) i)

  module _ (a : Line) (ea : a ≡ line_of f at) where
    pub start1 : a.next ≡ line_start f at 1
    start1 = next_start 0 at a refl ea

    module _ (b : Line) (eb : b ≡ line_of f a.next) where
      pub start2 : b.next ≡ line_start f at 2
      start2 = next_start 1 a.next b start1 eb

      module _ (c : Line) (ec : c ≡ line_of f b.next) where
        pub start3 : c.next ≡ line_start f at 3
        start3 = next_start 2 b.next c start2 ec

        module _ (d : Line) (ed : d ≡ line_of f c.next) where
          pub start4 : d.next ≡ line_start f at 4
          start4 = next_start 3 c.next d start3 ed

          module _ (e : Line) (ee : e ≡ line_of f d.next) where
            pub start5 : e.next ≡ line_start f at 5
            start5 = next_start 4 d.next e start4 ee

            abbrev pub read : Text
            read =
                record {
                  line1 = a.span;
                  line2 = b.span;
                  line3 = c.span;
                  line4 = d.span;
                  line5 = e.span;
                  fits = a.fits && b.fits && c.fits && d.fits && e.fits && zero_at f e.next;
                  end = e.next + 1;
                }

            pub text-read : read ≡ text_of f at
            unfolding line_of text_of
            text-read = rw (ee, ed, ec, eb, ea)
