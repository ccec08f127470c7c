-- Bounds of counts, and counts in one number, for the contracts of the functions that add them up and keep
-- them.
-- Small     counts that stop where they should, at most 16 deep
-- Running   counts of a body that is still being read: past the stop by its last events at most, fewer than a
--           voice has bytes
-- packed_counts, unpacked_counts   counts in one number, and back: events from bit 26 on, pairs walked in
--                                bits 5 to 25, depth in bits 0 to 4
use Rattle.std.specs.Prelude.{ℕ, ◌+◌, ◌*◌, ◌/◌, ◌%◌, ◌≤◌}
use Rattle.tally.specs.declared.Counts.{Counts}

pub record Small (a : Counts) : Type 0 where
  pub events : a.events ≤ 1048577
  pub walked : a.walked ≤ 1048577
  pub depth : a.depth ≤ 16

pub record Running (a : Counts) : Type 0 where
  pub events : a.events ≤ 1048577 + 65536
  pub walked : a.walked ≤ 1048577 + 65536
  pub depth : a.depth ≤ 16

abbrev pub packed_counts : Counts → ℕ
packed_counts a = (a.events * 2097152 + a.walked) * 32 + a.depth

abbrev pub unpacked_counts : ℕ → Counts
unpacked_counts x = record { events = x / 67108864 % 2097152; walked = x / 32 % 2097152; depth = x % 32 }
