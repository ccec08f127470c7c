-- What the tags of a header state, and a header, but for where texts stand.
-- unplaced        what a tag states, but for the place
-- without_places   a header, but for the places of its texts
-- alike           what does not look at the place is the same where the same is stated but for the place
-- against-alike   so 53 is the same
-- header-alike    so the header is the same but for where texts stand
use Rattle.std.specs.Prelude.{Option, Some, None, ℕ, ◌≡◌, refl, cond}
use Rattle.std.proofs.Common.{sym, ap, ◌∙◌}
use Rattle.saptags.specs.declared.Tag.{Tag}
use Rattle.saptags.specs.declared.Tag.TheVariants as tag
use Rattle.saptext.specs.declared.Stated.{Stated}
use Rattle.saptext.specs.Stated.{given}
use Rattle.saprules.specs.Against.{is_stated, value_or, is_s, letter_of, against}
use Rattle.fields.specs.declared.Span.{Span}
use Rattle.sapheader.specs.declared.Header.{Header}
use Rattle.sapheader.specs.Header.{text_for, number_for, player_with, holds, header_for}

abbrev pub unplaced : Option Stated → Option Stated
unplaced None = None
unplaced (Some s) = given 1 s.value

abbrev pub without_place : Option Span → Option Span
without_place None = None
without_place (Some s) = Some (record { from = 0; len = s.len })

abbrev pub without_places : Header → Header
without_places h =
    record {
      player = h.player;
      songs = h.songs;
      default = h.default;
      stereo = h.stereo;
      ntsc = h.ntsc;
      covox = h.covox;
      stated = h.stated;
      fastplay = h.fastplay;
      author = without_place h.author;
      name = without_place h.name;
      date = without_place h.date;
      times = h.times;
      blocks = h.blocks;
      first = h.first;
    }

-- What does not look at the place is the same of two that state the same but for the place.
pub alike : {A : Type 0} (f : Option Stated → A) → ((place value : ℕ) → f (given place value) ≡ f (given 1 value))
    → (s r : Option Stated) → unplaced s ≡ unplaced r → f s ≡ f r
alike f h s r e = unplace s ∙ ap f e ∙ sym (unplace r)
  where
    unplace : (q : Option Stated) → f q ≡ f (unplaced q)
    unplace None = refl
    unplace (Some q) = h q.place q.value

-- tags that state the same but for the places, and as many TIMEs
module _ (g h : Tag → Option Stated) (same : (t : Tag) → unplaced (g t) ≡ unplaced (h t)) (m n : ℕ) (times : m ≡ n) where
  value-alike : (other : ℕ) (t : Tag) → value_or other (g t) ≡ value_or other (h t)
  value-alike other t = alike (value_or other) (λ p v. refl) (g t) (h t) (same t)

  stated_alike : (t : Tag) → is_stated (g t) ≡ is_stated (h t)
  stated_alike t = alike is_stated (λ p v. refl) (g t) (h t) (same t)

  text-alike : (t : Tag) → without_place (text_for (g t)) ≡ without_place (text_for (h t))
  text-alike t = alike (λ s. without_place (text_for s)) (λ p v. refl) (g t) (h t) (same t)

  rate_alike : holds (letter_of g) (is_stated (g tag.Ntsc)) (g tag.FastPlay) ≡ holds (letter_of h) (is_stated (h tag.Ntsc)) (h tag.FastPlay)
  rate_alike =
      rw (value-alike 0 tag.Type, stated_alike tag.Ntsc)
      (value-alike (cond (is_s (letter_of h)) 78 (cond (is_stated (h tag.Ntsc)) 262 312)) tag.FastPlay)

  -- The tags are against the type or against SONGS in the same way.
  pub against-alike : against g m ≡ against h n
  unfolding against
  against-alike =
      rw (value-alike 0 tag.Type, stated_alike tag.Init, stated_alike tag.Music, stated_alike tag.Player)
      (rw (value-alike 1 tag.Songs, value-alike 0 tag.DefSong, times))

  -- The header is the same but for where texts stand.
  pub header-alike : (blocks first : ℕ) → without_places (header_for g m blocks first) ≡ without_places (header_for h n blocks first)
  unfolding header_for
  header-alike blocks first = λ i.
      record {
        player =
            player_with (value-alike 0 tag.Type i) (value-alike 0 tag.Init i) (value-alike 0 tag.Music i)
            (alike number_for (λ p v. refl) (g tag.Player) (h tag.Player) (same tag.Player) i);
        songs = value-alike 1 tag.Songs i;
        default = value-alike 0 tag.DefSong i;
        stereo = stated_alike tag.Stereo i;
        ntsc = stated_alike tag.Ntsc i;
        covox = stated_alike tag.Covox i;
        stated = alike number_for (λ p v. refl) (g tag.FastPlay) (h tag.FastPlay) (same tag.FastPlay) i;
        fastplay = rate_alike i;
        author = text-alike tag.Author i;
        name = text-alike tag.Name i;
        date = text-alike tag.Date i;
        times = times i;
        blocks = blocks;
        first = first;
      }
