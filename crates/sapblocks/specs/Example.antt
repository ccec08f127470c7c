-- Source 002, 'Part Two - Binary Data': its example.
-- example_bytes     the bytes as they stand there
-- blocks-example   their two blocks
use Rattle.std.specs.Prelude.{ℕ, ◌≡◌, refl, List, [], ◌∷◌}
use Rattle.fields.specs.Numbers.{le16}
use Rattle.sapblocks.specs.Blocks.{blocks_from, blocks_in}
use Rattle.sapblocks.specs.Blocks.Blocks.{whole}

abbrev pub example_bytes : List ℕ
example_bytes =
    0xFF ∷ 0xFF
    ∷ 0x00 ∷ 0x06 ∷ 0x01 ∷ 0x06 ∷ 0xAB ∷ 0xCD
    ∷ 0x25 ∷ 0x20 ∷ 0x27 ∷ 0x20 ∷ 0x01 ∷ 0x42 ∷ 0xA3
    ∷ []

-- The example has two blocks: 0600 to 0601, with its data from byte 6 on, and 2025 to 2027, from byte 12 on.
pub blocks-example : blocks_in example_bytes 0 ≡ whole (record { start = 0x0600; end = 0x0601; from = 6 } ∷ record { start = 0x2025; end = 0x2027; from = 12 } ∷ [])
unfolding blocks_in blocks_from le16
blocks-example = refl
