-- Document 01, 'PSID and RSID', test 13: the stated free pages. A page is 256 cells of memory.
-- between        from the first to the last, both counted
-- any_page        some page of the count from start on passes a test
-- touched        a page that the payload touches: from the page of its first byte to that of its last
-- reserved_page   'for RSID also pages $00-$03, $A0-$BF, $D0-$FF'
-- unstated       'start page 0 or $FF': the header states no pages
-- bad_pages       test 13
use Rattle.std.specs.Prelude.{ℕ, zero, suc, ◌+◌, ◌-◌, ◌/◌, Bool, false, not, ◌&&◌, ◌||◌, leb, ltb, eqb}
use Rattle.sidheader.specs.declared.Fields.{Fields}
use Rattle.sidheader.specs.declared.Payload.{Payload}
use Rattle.sidrefusals.specs.HeaderTests.{is_rsid}

abbrev pub between : ℕ → ℕ → ℕ → Bool
between first last n = leb first n && leb n last

unfoldable pub any_page : ℕ → ℕ → (ℕ → Bool) → Bool
any_page start zero t = false
any_page start (suc count) t = t start || any_page (start + 1) count t

abbrev pub touched : Payload → ℕ → Bool
touched p n = between (p.load / 256) ((p.load + p.len - 1) / 256) n

abbrev pub reserved_page : ℕ → Bool
reserved_page n = between 0x00 0x03 n || between 0xA0 0xBF n || between 0xD0 0xFF n

abbrev pub unstated : Fields → Bool
unstated x = eqb x.page 0 || eqb x.page 0xFF

-- 13: start page 0 or $FF with page length not 0; any other start page with length 0, with start + length
-- above 256, or with a page that the payload touches; for RSID also pages $00-$03, $A0-$BF, $D0-$FF
unfoldable pub bad_pages : Fields → Payload → Bool
bad_pages x p =
    unstated x && not (eqb x.pages 0)
    || not (unstated x)
    && (eqb x.pages 0 || ltb 256 (x.page + x.pages) || any_page x.page x.pages (λ n. touched p n || is_rsid x && reserved_page n))
