-- Laws of tags and of their names.
-- index-once, index_below   a tag's number is its own, and below 14
-- name-apart    no name has a 0 or a CR in it
-- tag_stop      a tag is the same in a line as in its file
-- tag-stands    the name of the tag that is found stands at the front
-- stands-tag, name-once   a name that stands at the front is that of the tag that is found, and of no other
-- name-long     a name that stands at the front of bytes is no longer than they are
use Rattle.std.specs.Prelude.{Some, ℕ, ◌≤◌, ◌<◌, ◌≡◌, refl, Bool, true, false, cond, not, ◌&&◌, ◌||◌, List, [], ◌∷◌, ◌++◌, length, get_or, drop, T, eqb}
use Rattle.std.proofs.Common.{sym, ap, ◌∙◌, arith, lit≤, eqb-true}
use Rattle.std.proofs.lemmas.Bool.{not-true}
use Rattle.logic.specs.Cases.{cases}
use Rattle.logic.specs.Truth.{both}
use Rattle.logic.specs.Every.{every, every_at, true_of}
use Rattle.characters.specs.Characters.{begins, stands}
use Rattle.characters.specs.Laws.{Apart, stands_stop, stands-long}
use Rattle.saptags.specs.declared.Tag.{Tag}
use Rattle.saptags.specs.Tags.{name_of, tags, index_of, tag_in, tag_at}

-- the tag of a number
abbrev tag_numbered : ℕ → Tag
tag_numbered n = get_or tags n Tag.Author

tag_back : (t : Tag) → (tag_numbered (index_of t) ≡ t) × (index_of t < 14)
tag_back Tag.Author = (refl, lit≤ tt)
tag_back Tag.Name = (refl, lit≤ tt)
tag_back Tag.Date = (refl, lit≤ tt)
tag_back Tag.Songs = (refl, lit≤ tt)
tag_back Tag.DefSong = (refl, lit≤ tt)
tag_back Tag.Stereo = (refl, lit≤ tt)
tag_back Tag.Ntsc = (refl, lit≤ tt)
tag_back Tag.Type = (refl, lit≤ tt)
tag_back Tag.FastPlay = (refl, lit≤ tt)
tag_back Tag.Init = (refl, lit≤ tt)
tag_back Tag.Music = (refl, lit≤ tt)
tag_back Tag.Player = (refl, lit≤ tt)
tag_back Tag.Covox = (refl, lit≤ tt)
tag_back Tag.Time = (refl, lit≤ tt)

-- No two tags have the same number.
pub index-once : (a b : Tag) → index_of a ≡ index_of b → a ≡ b
index-once a b e = sym (tag_back a).0 ∙ ap tag_numbered e ∙ (tag_back b).0

-- A tag's number is below 14.
pub index_below : (t : Tag) → index_of t < 14
index_below t = (tag_back t).1

-- a test that every tag passes, computed once
each-tag : (f : Tag → Bool) → T (every (λ k. f (tag_numbered k)) 14) → (t : Tag) → f t ≡ true
each-tag f p t =
    let at = tag_back t in
    ap f (sym at.0) ∙ true_of (f (tag_numbered (index_of t))) (every_at (λ k. f (tag_numbered k)) 14 p (index_of t) at.1)

-- no byte is 0 or CR
abbrev clear : List ℕ → Bool
clear [] = true
clear (b ∷ bs) = not (eqb 0x0D b) && (not (eqb 0 b) && clear bs)

clear_apart : (l w : List ℕ) → clear w ≡ true → Apart 0x0D l w
clear_apart l [] e = tt
clear_apart l (b ∷ bs) e =
    let r = both (not (eqb 0x0D b)) (not (eqb 0 b) && clear bs) e in
    let q = both (not (eqb 0 b)) (clear bs) r.1 in
    (not-true (eqb 0x0D b) r.0, not-true (eqb 0 b) q.0, clear_apart l bs q.1)

-- No byte of a name is 0 or CR.
pub name-apart : (l : List ℕ) (t : Tag) → Apart 0x0D l (name_of t)
name-apart l t = clear_apart l (name_of t) (each-tag (λ k. clear (name_of k)) tt t)

in_stop : (t a : List ℕ) (ts : List Tag) → tag_in ts (a ++ 0x0D ∷ t) ≡ tag_in ts a
in_stop t a [] = refl
in_stop t a (u ∷ us) = rw (stands_stop 0x0D t (name_of u) (name-apart t u) a, in_stop t a us)

-- The tag at the front of a line is the same in its file, where a CR closes the line and t follows.
pub tag_stop : (t a : List ℕ) → tag_at (a ++ 0x0D ∷ t) ≡ tag_at a
unfolding tag_at
tag_stop t a = in_stop t a tags

in_stands : (ts : List Tag) (t : Tag) (s : List ℕ) → tag_in ts s ≡ Some t → stands (name_of t) s ≡ true
in_stands [] t s e = let z : ◌≡◌ {A = ℕ} 0 1 = cc in absurd (omega arith)
in_stands (u ∷ us) t s e =
    cases (stands (name_of u) s)
    (λ h. let known = rw h at e in let same : u ≡ t = cc in rw (← same) h)
    (λ h. in_stands us t s (rw h at e))

-- Where a tag is found at the front of bytes, its name stands there.
pub tag-stands : (t : Tag) (s : List ℕ) → tag_at s ≡ Some t → stands (name_of t) s ≡ true
unfolding tag_at
tag-stands t s e = in_stands tags t s e

-- two words differ at a place that both have
abbrev clash : List ℕ → List ℕ → Bool
clash [] v = false
clash (x ∷ xs) [] = false
clash (x ∷ xs) (y ∷ ys) = not (eqb x y) || clash xs ys

clash-other : (w v s : List ℕ) → clash w v ≡ true → stands w s ≡ true → stands v s ≡ false
unfolding stands
clash-other [] v s c h = let z : ◌≡◌ {A = ℕ} 0 1 = cc in absurd (omega arith)
clash-other (x ∷ xs) [] s c h = let z : ◌≡◌ {A = ℕ} 0 1 = cc in absurd (omega arith)
clash-other (x ∷ xs) (y ∷ ys) s c h =
    let b = both (begins x s) (stands xs (drop 1 s)) h in
    cases (eqb x y)
    (λ e. let later = clash-other xs ys (drop 1 s) (rw e at c) b.1 in cases (begins y s) (λ q. rw (q, later)) (λ q. rw q))
    (λ e. rw (eqb-true (get_or s 0 0) x b.0, e))

-- a tag is in a list, and its name differs from the names before it
abbrev tells : Tag → List Tag → Bool
tells t [] = false
tells t (u ∷ us) = cond (eqb (index_of t) (index_of u)) true (clash (name_of t) (name_of u) && tells t us)

in_tag : (ts : List Tag) (t : Tag) (s : List ℕ) → tells t ts ≡ true → stands (name_of t) s ≡ true → tag_in ts s ≡ Some t
in_tag [] t s e h = let z : ◌≡◌ {A = ℕ} 0 1 = cc in absurd (omega arith)
in_tag (u ∷ us) t s e h =
    cases (eqb (index_of t) (index_of u))
    (λ q. rw (← index-once t u (eqb-true (index_of t) (index_of u) q), h))
    (λ q.
    let b = both (clash (name_of t) (name_of u)) (tells t us) (rw q at e) in
    rw (clash-other (name_of t) (name_of u) s b.0 h) (in_tag us t s b.1 h))

-- Where the name of a tag stands at the front of bytes, that tag is found there.
pub stands-tag : (t : Tag) (s : List ℕ) → stands (name_of t) s ≡ true → tag_at s ≡ Some t
unfolding tag_at
stands-tag t s h = in_tag tags t s (each-tag (λ k. tells k tags) tt t) h

-- The names of no two tags stand at the front of the same bytes; so no name is the beginning of another.
pub name-once : (t u : Tag) (s : List ℕ) → stands (name_of t) s ≡ true → stands (name_of u) s ≡ true → t ≡ u
name-once t u s h k = cc (stands-tag t s h, stands-tag u s k)

-- A name that stands at the front of bytes is no longer than they are.
pub name-long : (t : Tag) (s : List ℕ) → stands (name_of t) s ≡ true → length (name_of t) ≤ length s
name-long t s h = stands-long 0x0D [] (name_of t) (name-apart [] t) s h
