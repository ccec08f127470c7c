-- `has_bad_pages` meets its contract: the pages that are taken, range by range. Assumes nothing.
use mathlib.Core.Bool.{or-false}
use Rattle.sidrefusals.specs.Pages.{bad_pages, touched}
use Rattle.sidrefusals.specs.HeaderTests.{is_rsid}
use Rattle.sidrefusals.proofs.Pages.{any-taken}
use Rattle.sidrefusals.proofs.has_bad_pages.Goals as goal

pub returns-then-start : goal.returns-then-start
unfolding bad_pages
returns-then-start c = rw (c.if-start.true, or-false _)

pub returns : goal.returns
unfolding bad_pages
returns c =
    let x = c.args.parts.fields in
    rw (
      c.if-start.false,
      any-taken x.page x.pages (touched c.args.parts.payload) (is_rsid x),
      c.meets-high.ensures,
      c.meets-rom.ensures,
      c.meets-low.ensures,
      c.meets-touched.ensures,
      c.last_page-last.ensures,
    )
