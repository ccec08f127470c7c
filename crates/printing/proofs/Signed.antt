-- std writes the same text of a signed number.
use Rattle.std.specs.Prelude.{ℕ, ℤ, pos, negsuc, suc, ◌≡◌, ◌<◌, ◌^◌, List, ◌∷◌}
use Rattle.std.specs.Int.{w32}
use Rattle.std.specs.Int.Signed.{mag}
use Rattle.std.specs.Fmt as fmt
use Rattle.std.proofs.Common.{ap, sym, ◌∙◌, arith, add-one, to_z, of_z, to_z-of_z}
use Rattle.printing.specs.Digits.{signed_digits}
use Rattle.printing.proofs.Decimal.{decimal_std}

same : (z : ℤ) → mag z < 2 ^ 31 → signed_digits z ≡ fmt.signed_decimal z
unfolding signed_digits
same (pos n) h = decimal_std n (omega (arith, h))
same (negsuc n) h = rw (add-one n) (ap (λ (l : List ℕ). 45 ∷ l) (decimal_std (suc n) (omega (arith, h))))

pub signed_std : (z : ℤ) → mag z < 2 ^ 31 → fmt.signed_decimal (to_z w32 (of_z w32 z)) ≡ signed_digits z
signed_std z h = ap fmt.signed_decimal (to_z-of_z {w = w32} (record { sfits = h })) ∙ sym (same z h)
