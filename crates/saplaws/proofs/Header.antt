-- Two neighbouring lines exchanged that are not both TIME: 53 and the header.
-- against-exchanged   53 is the same
-- header-exchanged    the header is the same but for where texts stand
use Prim.Native.Nat.{ℕ}
use Rattle.std.specs.Prelude.{◌≡◌, false}
use mathlib.Core.List.{List}
use Rattle.saptags.specs.declared.Tag.TheVariants as tag
use Rattle.saptext.specs.Stated.{count_of, bad_lines, stated}
use Rattle.saprules.specs.Against.{against}
use Rattle.sapheader.specs.Header.{header_for}
use Rattle.saplaws.specs.Unplaced.{without_places, against-alike, header-alike}
use Rattle.saplaws.specs.Exchange.{both_time, as_is, exchanged, count-exchanged}
use Rattle.saplaws.proofs.Exchange.{nth_exchanged}

module _ (x y : List ℕ) (after : List (List ℕ))
    (apart : both_time x y ≡ false) (at : ℕ) (before : List (List ℕ)) (fine : bad_lines (as_is x y after at before) ≡ false) where
  -- The tags are against the type or against SONGS as they were: 53 is the same.
  pub against-exchanged : against (λ t. stated t (as_is x y after at before)) (count_of tag.Time (as_is x y after at before))
      ≡ against (λ t. stated t (exchanged x y after at before)) (count_of tag.Time (exchanged x y after at before))
  against-exchanged =
      against-alike (λ t. stated t (as_is x y after at before)) (λ t. stated t (exchanged x y after at before))
      (λ t. nth_exchanged x y after apart at before fine t 0)
      (count_of tag.Time (as_is x y after at before)) (count_of tag.Time (exchanged x y after at before))
      (count-exchanged x y after tag.Time at before)

  -- The header is the same but for where texts stand.
  pub header-exchanged : (blocks first : ℕ)
      → without_places (header_for (λ t. stated t (as_is x y after at before)) (count_of tag.Time (as_is x y after at before)) blocks first)
      ≡ without_places (header_for (λ t. stated t (exchanged x y after at before)) (count_of tag.Time (exchanged x y after at before)) blocks first)
  header-exchanged =
      header-alike (λ t. stated t (as_is x y after at before)) (λ t. stated t (exchanged x y after at before))
      (λ t. nth_exchanged x y after apart at before fine t 0)
      (count_of tag.Time (as_is x y after at before)) (count_of tag.Time (exchanged x y after at before))
      (count-exchanged x y after tag.Time at before)
