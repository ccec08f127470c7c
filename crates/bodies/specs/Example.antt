-- Document 01, 'Playing a voice', on two voices worked out by hand: the order of the events, how many they
-- are, pairs walked and depth.
-- event_numbers                the pair numbers of events
-- bench                       voice 1 of the 28 bytes of 'Sums on the bench': 0 TEM, 1 HED 3, 2 a note, 3
--                             TAL, 4 HLT
-- reel                        0 a note, 1 DEF 1, 2 a note, 3 a note, 4 END, 5 HED 2, 6 CAL 1, 7 a note, 8
--                             TAL, 9 HLT
-- bench-played, reel-played   what they give: the reel walks 1 + (2 + 2) + (1 + 2 × ((2 + 2) + 1 + 1)) + 1
--                             pairs, and is a call in a repeat deep
use Rattle.std.specs.Prelude.{ℕ, ◌≡◌, refl, List, [], ◌∷◌, map}
use Rattle.bodies.specs.Voice.{pairs_by, pairs}
use Rattle.bodies.specs.Bodies.{Event, inner, outer, with_pair, bodies, body_of}
use Rattle.bodies.specs.Playing.{interpret, phrases, copies, played, events_of, walked_of, depth_of}

abbrev pub event_numbers : List Event → List ℕ
event_numbers es = map (λ (e : Event). e.number) es

abbrev pub bench : List ℕ
bench = 0x06 ∷ 0x78 ∷ 0x36 ∷ 0x03 ∷ 0x20 ∷ 0x94 ∷ 0x01 ∷ 0x0F ∷ 0x01 ∷ 0x4F ∷ []

abbrev pub reel : List ℕ
reel =
    0x10 ∷ 0x94 ∷ 0x01 ∷ 0x16 ∷ 0x10 ∷ 0x99 ∷ 0x10 ∷ 0x9A ∷ 0x01 ∷ 0x2F ∷ 0x36 ∷ 0x02 ∷ 0x01 ∷ 0x12 ∷ 0x14 ∷ 0x9B ∷ 0x01 ∷ 0x0F ∷ 0x01 ∷ 0x4F ∷ []

-- Document 01's own voice plays TEM, the note three times and HLT: 5 events, 9 pairs walked, depth 1.
pub bench-played : (event_numbers (played (pairs bench)) ≡ 0 ∷ 2 ∷ 2 ∷ 2 ∷ 4 ∷ []) × (events_of (pairs bench) ≡ 5) × (walked_of (pairs bench) ≡ 9) × (depth_of (pairs bench) ≡ 1)
unfolding pairs_by pairs inner outer with_pair bodies body_of interpret phrases copies played events_of walked_of depth_of
bench-played = (refl, refl, refl, refl)

-- A voice with a phrase that is defined, and then called in a repeat, plays these 10 events, walks 19 pairs
-- and has depth 2.
pub reel-played : (event_numbers (played (pairs reel)) ≡ 0 ∷ 2 ∷ 3 ∷ 2 ∷ 3 ∷ 7 ∷ 2 ∷ 3 ∷ 7 ∷ 9 ∷ [])
    × (events_of (pairs reel) ≡ 10)
    × (walked_of (pairs reel) ≡ 19)
    × (depth_of (pairs reel) ≡ 2)
unfolding pairs_by pairs inner outer with_pair bodies body_of interpret phrases copies played events_of walked_of depth_of
reel-played = (refl, refl, refl, refl)
