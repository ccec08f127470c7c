-- Document 01, 'PSID and RSID', and source 003: what an accepted file says of itself.
-- kind_of_magic   the magic by name
-- start_of       'Start song 0 reads as 1'
-- text_at        'A text is its first 31 bytes, cut before the first zero among them'
-- span_at        where the text at an offset lies
-- header_of      the header, with the effective init and load address
use Rattle.std.specs.Prelude.{ℕ, List, cond, length, take, drop, eqb}
use Rattle.fields.specs.Parts.{before_zero}
use Rattle.sidheader.specs.declared.Fields.{Fields}
use Rattle.sidheader.specs.declared.Payload.{Payload}
use Rattle.sidheader.specs.Fields.{rsid, basic, clock, model}
use Rattle.sidheader.specs.Payload.{init_of}
use Rattle.sid.specs.declared.Kind.{Kind}
use Rattle.sid.specs.declared.Kind.TheVariants.{Psid, Rsid}
use Rattle.fields.specs.declared.Span.{Span}
use Rattle.sid.specs.declared.Header.{Header}

abbrev pub kind_of_magic : ℕ → Kind
kind_of_magic magic = cond (eqb magic rsid) Rsid Psid

abbrev pub start_of : ℕ → ℕ
start_of start = cond (eqb start 0) 1 start

abbrev pub text_at : List ℕ → ℕ → List ℕ
text_at f at = before_zero (take 31 (drop at f))

abbrev pub span_at : List ℕ → ℕ → Span
span_at f at = record { from = at; len = length (text_at f at) }

unfoldable pub header_of : List ℕ → Fields → Payload → Header
header_of f x p =
    record {
      kind = kind_of_magic x.magic;
      version = x.version;
      load = p.load;
      init = init_of x p;
      play = x.play;
      songs = x.songs;
      start = start_of x.start;
      speed = x.speed;
      basic = basic x;
      clock = clock x;
      model = model x;
      page = x.page;
      pages = x.pages;
      title = span_at f 0x16;
      author = span_at f 0x36;
      released = span_at f 0x56;
      payload = record { from = p.from; len = p.len };
    }
