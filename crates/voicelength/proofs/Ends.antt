-- The time of a voice's HLT: all that its events last, since HLT itself takes 0.
-- all_but_last   how long events last that end in HLT
-- before_last    how many events come before the last
-- take-bytes, part_bytes   bytes of a part of a file, and of a voice
-- end_is         what the map of a voice of an accepted file says is the time of its HLT
use Prim.Native.Nat.{ℕ, zero, suc, ◌-◌, ◌<◌}
use mathlib.Core.Path.{◌≡◌, sym, ◌∙◌}
use mathlib.Core.List.{List, [], ◌∷◌, ◌++◌}
use native.Mathlib.Omega.{arith}
use lib.Dec.{lit<}
use lib.ListN.{length, take, drop, get_or, length-append}
use lib.Seq.{get_or-drop}
use Rattle.meaning.specs.declared.Meaning.TheVariants.{Hlt}
use Rattle.refusals.specs.Numbers.Outcome.{accepted}
use Rattle.clock.specs.declared.Values.{Values}
use Rattle.clock.specs.Lengths.{at_start, length_of, values_after}
use Rattle.clock.specs.Times.{lengths, sum, time_of}
use Rattle.timemap.specs.Maps.{length_by}
use Rattle.bodies.specs.Bodies.{Event}
use Rattle.bodies.specs.Voice.{pairs}
use Rattle.mus.specs.declared.Voice.{Voice}
use Rattle.mus.specs.Asked.{bytes_of}
use Rattle.mus.specs.Bounds.{InSong}
use Rattle.mus.proofs.Accepted.{accepted-sound, accepted-voice}
use Rattle.walk.specs.Times.{meanings}
use Rattle.events.specs.Listing.{played_by, played_in}
use Rattle.voicelength.specs.Length.{end_of}
use Rattle.voicelength.specs.Lasting.{map_of}
use Rattle.voicelength.proofs.Does.{map_says}

all_but_last : (q : Values) (es : List Event) (e : Event) → e.meaning ≡ accepted Hlt
    → sum (lengths q (meanings (es ++ e ∷ []))) ≡ sum (take (length es) (lengths q (meanings (es ++ e ∷ []))))
unfolding lengths sum length_of
all_but_last q [] e h = rw h
all_but_last q (x ∷ es) e h = omega (arith, all_but_last (values_after q x.meaning) es e h)

pub before_last : (es : List Event) (e : Event) → length (es ++ e ∷ []) - 1 ≡ length es
before_last es e = omega (arith, length-append es (e ∷ []))

take-bytes : (n : ℕ) (l : List ℕ) → ((k : ℕ) → get_or l k 0 < 256) → (k : ℕ) → get_or (take n l) k 0 < 256
take-bytes zero l h k = lit< tt
take-bytes (suc n) [] h k = lit< tt
take-bytes (suc n) (x ∷ l) h zero = h 0
take-bytes (suc n) (x ∷ l) h (suc k) = take-bytes n l (λ j. h (suc j)) k

pub part_bytes : (f : List ℕ) (v : Voice) → ((k : ℕ) → get_or f k 0 < 256) → (k : ℕ) → get_or (bytes_of f v) k 0 < 256
part_bytes f v h = take-bytes v.length (drop v.offset f) (λ k. rw (get_or-drop v.offset f k 0) (h _))

pub end_is : (f : List ℕ) (v : Voice) → ((k : ℕ) → get_or f k 0 < 256) → InSong f v
    → length_by (map_of (pairs (bytes_of f v))) at_start ≡ end_of (played_in f v)
unfolding end_of time_of played_by
end_is f v bytes i =
    let bs = bytes_of f v in
    let h = (accepted-voice bs i.stored i.passes).ends in
    sym (map_says bs (part_bytes f v bytes) (accepted-sound (pairs bs) i.passes) at_start)
    ∙ rw (h.split, before_last h.before h.last) (all_but_last at_start h.before h.last h.halts)
