-- The tag at the front of bytes, by their first letter. Assumes nothing.
-- beginning   the tags of a list whose names begin with a letter
-- by_letter   an answer that is right among those is right among all
use Prim.Native.Nat.{ℕ}
use mathlib.Core.Path.{◌≡◌, refl, sym, ◌∙◌}
use mathlib.Core.Bool.{Bool, true, false, cond}
use mathlib.Core.List.{List, [], ◌∷◌}
use Rattle.std.specs.Prelude.{Option}
use lib.ListN.{get_or}
use lib.Dec.{eqb}
use Rattle.logic.specs.Cases.{cases}
use Rattle.characters.specs.Characters.{stands}
use Rattle.saptags.specs.declared.Tag.{Tag}
use Rattle.saptags.specs.Tags.{name_of, tags, tag_in, tag_at}

-- a word may stand at the front of bytes that begin with a letter
abbrev may : ℕ → List ℕ → Bool
may letter [] = true
may letter (b ∷ bs) = eqb letter b

may_not : (w s : List ℕ) → may (get_or s 0 0) w ≡ false → stands w s ≡ false
unfolding stands
may_not [] s e = e
may_not (b ∷ bs) s e = rw e

abbrev pub beginning : ℕ → List Tag → List Tag
beginning letter [] = []
beginning letter (t ∷ ts) = cond (may letter (name_of t)) (t ∷ beginning letter ts) (beginning letter ts)

in_beginning : (s : List ℕ) (ts : List Tag) → tag_in (beginning (get_or s 0 0) ts) s ≡ tag_in ts s
in_beginning s [] = refl
in_beginning s (t ∷ ts) =
    cases (may (get_or s 0 0) (name_of t)) (λ e. rw (e, in_beginning s ts)) (λ e. rw (e, may_not (name_of t) s e, in_beginning s ts))

pub by_letter : {byte : ℕ} {named : Option Tag} (s : List ℕ) (letter : ℕ) → byte ≡ get_or s 0 0 → byte ≡ letter
    → named ≡ tag_in (beginning letter tags) s → named ≡ tag_at s
unfolding tag_at
by_letter s letter e k found =
    let first : get_or s 0 0 ≡ letter = sym e ∙ k in
    found ∙ rw (← first) (in_beginning s tags)
