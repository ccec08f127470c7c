-- What the code that makes the list of a header's numbers may count on, for its contract:
-- places and lengths in a file that was accepted are small.
-- NarrowSpan, Narrow   a part of a file; the parts of a header
use Rattle.std.specs.Prelude.{◌≤◌}
use Rattle.fields.specs.declared.Span.{Span}
use Rattle.sid.specs.declared.Header.{Header}

pub record NarrowSpan (s : Span) : Type 0 where
  pub from : s.from ≤ 65538
  pub len : s.len ≤ 65538

pub record Narrow (h : Header) : Type 0 where
  pub title : NarrowSpan h.title
  pub author : NarrowSpan h.author
  pub released : NarrowSpan h.released
  pub payload : NarrowSpan h.payload
