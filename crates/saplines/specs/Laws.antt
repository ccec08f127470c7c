-- Laws of lines, of each tag.
-- line-once, none-line      a line that fits is known by its tag, length and value; it is one
-- value_stop, argument_stop, line_stop        what stands at the front of a line is the same in its file,
--                 where 0D follows the line
-- value-within, argument-within, line-within  what fits lies within the bytes
-- most_of, value-most, line-most               how great the value of a tag's argument can be
use Rattle.std.specs.Prelude.{Option, Some, None, ℕ, ◌+◌, ◌≤◌, ◌≡◌, refl, true, List, [], ◌∷◌, ◌++◌, length, drop}
use Rattle.std.proofs.Common.{ap, arith, length-drop, lit≤}
use Rattle.logic.specs.Cases.{cases}
use Rattle.characters.specs.Characters.{begins, most}
use Rattle.characters.specs.Laws.{drop_stop}
use Rattle.saptags.specs.declared.Tag.{Tag}
use Rattle.saptags.specs.declared.Tag.TheVariants as tag
use Rattle.saptags.specs.Tags.{name_of, tag_at}
use Rattle.saptags.specs.Laws.{tag_stop, tag-stands, name-long}
use Rattle.saparguments.specs.declared.Argument.{Argument}
use Rattle.saparguments.specs.Arguments.{good}
use Rattle.saparguments.specs.Laws.{good-once, none-good, Stops, Within, decimal_stop, decimal-within, address_stop, address-within, covox_stop, covox_within, letter_stop, letter_within, text_stop, text-within, AtMost, decimal-most, address-most, covox_most, letter_most, text-most}
use Rattle.saptimes.specs.Laws.{time_stop, time-within, time-most}
use Rattle.saplines.specs.declared.Line.{Line}
use Rattle.saplines.specs.Lines.{good_line, value_at, alone, spaced, argument_after, with_argument, with_tag, line_at}

-- A line that fits is known by its tag, its length and its value.
pub line-once : {t u : Tag} {n v m w : ℕ} → good_line t n v ≡ good_line u m w → (t ≡ u) × (n ≡ m) × (v ≡ w)
line-once {t} {u} {n} {v} {m} {w} e =
    let same : ◌≡◌ {A = Line} (record { tag = t; len = n; value = v }) (record { tag = u; len = m; value = w }) = cc in
    (ap (λ (l : Line). l.tag) same, ap (λ (l : Line). l.len) same, ap (λ (l : Line). l.value) same)

-- A line that fits is one.
pub none-line : {A : Type 0} {t : Tag} {n v : ℕ} → None ≡ good_line t n v → A
none-line e = absurd (let z : ◌≡◌ {A = ℕ} 0 1 = cc in omega arith)

-- An argument stops where its line does.
pub value_stop : (t : Tag) → Stops (value_at t)
value_stop tag.Author = text_stop
value_stop tag.Name = text_stop
value_stop tag.Date = text_stop
value_stop tag.Songs = decimal_stop 1 32
value_stop tag.DefSong = decimal_stop 0 most
value_stop tag.Stereo = λ t a. refl
value_stop tag.Ntsc = λ t a. refl
value_stop tag.Type = letter_stop
value_stop tag.FastPlay = decimal_stop 1 32767
value_stop tag.Init = address_stop
value_stop tag.Music = address_stop
value_stop tag.Player = address_stop
value_stop tag.Covox = covox_stop
value_stop tag.Time = time_stop

-- An argument that fits lies within the bytes.
pub value-within : (t : Tag) → Within (value_at t)
value-within tag.Author = text-within
value-within tag.Name = text-within
value-within tag.Date = text-within
value-within tag.Songs = decimal-within 1 32
value-within tag.DefSong = decimal-within 0 most
value-within tag.Stereo = λ s n v e. none-good n v e
value-within tag.Ntsc = λ s n v e. none-good n v e
value-within tag.Type = letter_within
value-within tag.FastPlay = decimal-within 1 32767
value-within tag.Init = address-within
value-within tag.Music = address-within
value-within tag.Player = address-within
value-within tag.Covox = covox_within
value-within tag.Time = time-within

-- What follows a tag's name stops where its line does.
pub argument_stop : (t : Tag) → Stops (argument_after t)
unfolding argument_after
argument_stop t u [] = refl
argument_stop t u (b ∷ bs) = rw (value_stop t u bs)

-- What follows a tag's name, where it fits, lies within the bytes.
pub argument-within : (t : Tag) → Within (argument_after t)
unfolding argument_after
argument-within t s n v e =
    cases (alone t) (λ p. omega (arith, (good-once 0 1 n v (rw p at e)).0))
    (λ p. cases (begins 0x20 s) (λ b. go s b (value_at t (drop 1 s)) refl (rw (p, b) at e)) (λ b. none-good n v (rw (p, b) at e)))
  where
    go : (s : List ℕ) → begins 0x20 s ≡ true → (a : Option Argument) → value_at t (drop 1 s) ≡ a → spaced a ≡ good n v → n ≤ length s
    go s b None q r = none-good n v r
    go [] b (Some a) q r = absurd (let z : ◌≡◌ {A = ℕ} 0 1 = cc in omega arith)
    go (x ∷ xs) b (Some a) q r = omega (arith, (good-once (a.len + 1) a.value n v r).0, value-within t xs a.len a.value q)

-- A line is the same by itself as in its file, where 0D follows it.
pub line_stop : (u a : List ℕ) → line_at (a ++ 0x0D ∷ u) ≡ line_at a
unfolding line_at
line_stop u a = rw (tag_stop u a) (go (tag_at a) refl)
  where
    go : (k : Option Tag) → tag_at a ≡ k → with_tag (a ++ 0x0D ∷ u) k ≡ with_tag a k
    go None e = refl
    go (Some t) e =
        rw (drop_stop 0x0D u (length (name_of t)) a (name-long t a (tag-stands t a e)), argument_stop t u (drop (length (name_of t)) a))

-- A line that fits lies within the bytes, and its tag's name within it.
pub line-within : (s : List ℕ) (t : Tag) (n v : ℕ) → line_at s ≡ good_line t n v → (length (name_of t) ≤ n) × (n ≤ length s)
unfolding line_at
line-within s t n v e = go (tag_at s) refl e
  where
    argument : (u : Tag) → length (name_of u) ≤ length s → (a : Option Argument) → argument_after u (drop (length (name_of u)) s) ≡ a → with_argument u a ≡ good_line t n v
        → (length (name_of t) ≤ n) × (n ≤ length s)
    argument u h None p q = none-line q
    argument u h (Some a) p q =
        let same = line-once q in
        let inside = argument-within u (drop (length (name_of u)) s) a.len a.value p in
        (omega (arith, same.1, ap (λ (k : Tag). length (name_of k)) same.0), omega (arith, same.1, inside, h, length-drop (length (name_of u)) s))

    go : (k : Option Tag) → tag_at s ≡ k → with_tag s k ≡ good_line t n v → (length (name_of t) ≤ n) × (n ≤ length s)
    go None p q = none-line q
    go (Some u) p q = argument u (name-long u s (tag-stands u s p)) (argument_after u (drop (length (name_of u)) s)) refl q

abbrev pub most_of : Tag → ℕ
most_of tag.Author = 120
most_of tag.Name = 120
most_of tag.Date = 120
most_of tag.Songs = 32
most_of tag.DefSong = most
most_of tag.Stereo = 1
most_of tag.Ntsc = 1
most_of tag.Type = 0x53
most_of tag.FastPlay = 32767
most_of tag.Init = 0xFFFF
most_of tag.Music = 0xFFFF
most_of tag.Player = 0xFFFF
most_of tag.Covox = 0xD600
most_of tag.Time = 12079999

-- The value of a tag's argument is at most what the tag allows.
pub value-most : (t : Tag) → AtMost (most_of t) (value_at t)
value-most tag.Author = text-most
value-most tag.Name = text-most
value-most tag.Date = text-most
value-most tag.Songs = decimal-most 1 32
value-most tag.DefSong = decimal-most 0 most
value-most tag.Stereo = λ s n v e. none-good n v e
value-most tag.Ntsc = λ s n v e. none-good n v e
value-most tag.Type = letter_most
value-most tag.FastPlay = decimal-most 1 32767
value-most tag.Init = address-most
value-most tag.Music = address-most
value-most tag.Player = address-most
value-most tag.Covox = covox_most
value-most tag.Time = time-most

most-above : (t : Tag) → 1 ≤ most_of t
most-above tag.Author = lit≤ tt
most-above tag.Name = lit≤ tt
most-above tag.Date = lit≤ tt
most-above tag.Songs = lit≤ tt
most-above tag.DefSong = lit≤ tt
most-above tag.Stereo = lit≤ tt
most-above tag.Ntsc = lit≤ tt
most-above tag.Type = lit≤ tt
most-above tag.FastPlay = lit≤ tt
most-above tag.Init = lit≤ tt
most-above tag.Music = lit≤ tt
most-above tag.Player = lit≤ tt
most-above tag.Covox = lit≤ tt
most-above tag.Time = lit≤ tt

argument-most : (t : Tag) → AtMost (most_of t) (argument_after t)
unfolding argument_after
argument-most t s n v e =
    cases (alone t) (λ p. omega (arith, (good-once 0 1 n v (rw p at e)).1, most-above t))
    (λ p. cases (begins 0x20 s) (λ b. go (value_at t (drop 1 s)) refl (rw (p, b) at e)) (λ b. none-good n v (rw (p, b) at e)))
  where
    go : (a : Option Argument) → value_at t (drop 1 s) ≡ a → spaced a ≡ good n v → v ≤ most_of t
    go None q r = none-good n v r
    go (Some a) q r = omega (arith, (good-once (a.len + 1) a.value n v r).1, value-most t (drop 1 s) a.len a.value q)

-- The value of a line is at most what its tag allows.
pub line-most : (s : List ℕ) (t : Tag) (n v : ℕ) → line_at s ≡ good_line t n v → v ≤ most_of t
unfolding line_at
line-most s t n v e = go (tag_at s) e
  where
    argument : (u : Tag) (a : Option Argument) → argument_after u (drop (length (name_of u)) s) ≡ a → with_argument u a ≡ good_line t n v → v ≤ most_of t
    argument u None p q = none-line q
    argument u (Some a) p q =
        let same = line-once q in
        omega (arith, same.2, ap most_of same.0, argument-most u (drop (length (name_of u)) s) a.len a.value p)

    go : (k : Option Tag) → with_tag s k ≡ good_line t n v → v ≤ most_of t
    go None q = none-line q
    go (Some u) q = argument u (argument_after u (drop (length (name_of u)) s)) refl q
