-- Document 01, 'PSID and RSID': 'Big-endian fields as in 003'; 'MUS container': 'low first'. A number that a
-- file holds from byte k on.
-- be16, be32   two and four bytes, high byte first
-- le16         two bytes, low byte first
-- A byte past the file's end counts as 0.
use Rattle.std.specs.Prelude.{ℕ, ◌+◌, ◌*◌, List, get_or}

unfoldable pub be16 : List ℕ → ℕ → ℕ
be16 f k = get_or f k 0 * 256 + get_or f (k + 1) 0

unfoldable pub be32 : List ℕ → ℕ → ℕ
be32 f k = be16 f k * 65536 + be16 f (k + 2)

unfoldable pub le16 : List ℕ → ℕ → ℕ
le16 f k = get_or f k 0 + get_or f (k + 1) 0 * 256
