-- What specs/Shows.antt states of the time that is answered.
-- hlt_at         the time of a voice's only HLT
-- Short          an event leaves values in bounds and lasts at most 172,032 384ths
-- total-bound    so many events last at most so many times that
-- length_shows   all that is stated
use Prim.Native.Nat.{ℕ, zero, suc, ◌-◌, ◌*◌, ◌≤◌, ◌<◌}
use mathlib.Core.Path.{◌≡◌, sym, ap, ◌∙◌, subst}
use mathlib.Core.List.{List, [], ◌∷◌}
use native.Mathlib.Omega.{arith}
use lib.ListN.{length, take, get_or}
use Rattle.refusals.specs.Numbers.Outcome.{accepted}
use Rattle.refusals.specs.Laws.{accepted-once}
use Rattle.clock.specs.declared.Values.{Values}
use Rattle.clock.specs.Lengths.{at_start, length_of, values_after}
use Rattle.clock.specs.Times.{lengths, sum, time_of}
use Rattle.clock.specs.Running.{ByteValues, start-byte-values, byte-values-after, length-bound}
use Rattle.bodies.specs.Bodies.{Event}
use Rattle.bodies.specs.Voice.{pairs}
use Rattle.bodies.specs.Playing.{played, events_of}
use Rattle.bodies.specs.Faithful.{EachEvent}
use Rattle.bodies.proofs.Everywhere.{each-pair, each-event}
use Rattle.mus.specs.declared.Song.{Song}
use Rattle.mus.specs.Song.{mus_outcome}
use Rattle.mus.specs.Asked.{song_voice, bytes_of}
use Rattle.mus.specs.AskedLaws.{in_song}
use Rattle.mus.proofs.Accepted.{accepted-sound, accepted-voice}
use Rattle.walk.specs.Times.{meanings}
use Rattle.events.specs.Listing.{played_by, played_in}
use Rattle.voicelength.specs.Length.{end_of, length_asked}
use Rattle.voicelength.specs.Laws.{length-accepted}
use Rattle.voicelength.specs.Shows.{HltAt, LengthShows}
use Rattle.voicelength.proofs.Does.{map_says}
use Rattle.voicelength.proofs.Ends.{before_last, part_bytes}

hlt_at : (f : List ℕ) (s : Song) (voice : ℕ) → mus_outcome f ≡ accepted s
    → HltAt f (song_voice s voice) (end_of (played_in f (song_voice s voice)))
unfolding end_of played_by
hlt_at f s voice e =
    let i = in_song f s voice e in
    let h = (accepted-voice _ i.stored i.passes).ends in
    record {
      before = h.before;
      last = h.last;
      split = h.split;
      halts = h.halts;
      only = h.only;
      time =
          ap (λ (k : ℕ). time_of (meanings (played_in f (song_voice s voice))) k)
          (ap (λ (l : List Event). length l - 1) h.split ∙ before_last h.before h.last);
    }

-- one song of an accepted file
same_song : (f : List ℕ) (s u : Song) → mus_outcome f ≡ accepted s → mus_outcome f ≡ accepted u → s ≡ u
same_song f s u p q = accepted-once (sym p ∙ q)

hlt : (f : List ℕ) (s : Song) (voice t : ℕ) → mus_outcome f ≡ accepted s → length_asked f voice ≡ accepted t
    → HltAt f (song_voice s voice) t
hlt f s voice t e q =
    let a = length-accepted f voice t q in
    let time : end_of (played_in f (song_voice s voice)) ≡ t = subst
    (λ (u : Song). end_of (played_in f (song_voice u voice)) ≡ t) (same_song f a.song s a.file e) a.time in
    subst (HltAt f (song_voice s voice)) time (hlt_at f s voice e)

abbrev Short : Event → Type 0
Short e = (q : Values) → ByteValues q → ByteValues (values_after q e.meaning) × (length_of q e.meaning ≤ 172032)

total-bound : (n : ℕ) (q : Values) (es : List Event) → ByteValues q → EachEvent Short es
    → sum (take n (lengths q (meanings es))) ≤ 172032 * n
unfolding lengths sum EachEvent
total-bound zero q es b h = omega arith
total-bound (suc n) q [] b h = omega arith
total-bound (suc n) q (e ∷ es) b h =
    let s = h.0 q b in
    omega (arith, s.1, total-bound n (values_after q e.meaning) es s.0 h.1)

low : (f : List ℕ) (voice t : ℕ) → ((k : ℕ) → get_or f k 0 < 256) → length_asked f voice ≡ accepted t → t ≤ 180388454400
unfolding end_of time_of played_by events_of
low f voice t bytes q =
    let a = length-accepted f voice t q in
    let v = song_voice a.song voice in
    let i = in_song f a.song voice a.file in
    let shown = accepted-voice _ i.stored i.passes in
    let bs = bytes_of f v in
    let es = played (pairs bs) in
    let short = each-event Short (pairs bs) (accepted-sound (pairs bs) i.passes)
    (each-pair Short (λ j x y hx hy q b. (byte-values-after q x y hx hy b, length-bound q _ b)) 0 bs (part_bytes f v bytes)) in
    omega (arith, a.time, total-bound (length es - 1) at_start es start-byte-values short, shown.events, shown.walked)

pub length_shows : LengthShows
length_shows = record { hlt = hlt; low = low; map = map_says }
