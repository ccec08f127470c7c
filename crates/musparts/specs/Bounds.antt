-- What the code that makes lists of places may count on, for its contract: places and lengths are small.
-- NarrowSpan, NarrowVoices   a part of a file; its three voices
use Rattle.std.specs.Prelude.{◌≤◌}
use Rattle.fields.specs.declared.Span.{Span}
use Rattle.container.specs.declared.Voices.{Voices}

pub record NarrowSpan (s : Span) : Type 0 where
  pub from : s.from ≤ 65536
  pub len : s.len ≤ 65536

pub record NarrowVoices (v : Voices) : Type 0 where
  pub voice1 : NarrowSpan v.voice1
  pub voice2 : NarrowSpan v.voice2
  pub voice3 : NarrowSpan v.voice3
