-- `header_of` meets its contract: each field is what its tag states. Assumes nothing.
use native.Mathlib.Omega.{arith}
use Rattle.saptags.specs.declared.Tag.TheVariants as tag
use Rattle.saptext.specs.Reading.{states_of}
use Rattle.sapheader.specs.Header.{header_for}
use Rattle.sapheader.proofs.Rates.{stated_or}
use Rattle.sapheader.proofs.header_of.Goals as goal

pub number_for-stated-requires : goal.number_for-stated-requires
number_for-stated-requires c = rw c.stated-7.ensures (omega (arith, c.requires tag.FastPlay))

pub returns : goal.returns
unfolding header_for
returns c =
    rw (
      c.unwrap_or-fastplay.ensures,
      c.usual_rate.ensures,
      c.value_or-letter.ensures,
      c.stated.ensures,
      c.number_for-stated.ensures,
      c.stated-7.ensures,
      stated_or (states_of c.args.lines.now.cells tag.FastPlay) _,
      c.player_of-player.ensures,
      c.value_or-songs.ensures,
      c.stated-2.ensures,
      c.value_or-default.ensures,
      c.stated-3.ensures,
      c.is_some-stereo.ensures,
      c.stated-4.ensures,
      c.is_some-ntsc.ensures,
      c.stated-5.ensures,
      c.is_some-covox.ensures,
      c.stated-6.ensures,
      c.text_for-author.ensures,
      c.stated-8.ensures,
      c.text_for-name.ensures,
      c.stated-9.ensures,
      c.text_for-date.ensures,
      c.stated-10.ensures,
    )
