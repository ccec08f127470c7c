-- What is written reads back as what was to be written; where nothing is written the answer is 43, place 0.
-- By cases of a meaning.
-- reads_back   for every meaning
use Prim.Native.Nat.{ℕ, ◌+◌, ◌-◌, ◌%◌, ◌<◌}
use mathlib.Core.Path.{◌≡◌, refl, ap}
use mathlib.Core.Bool.{true, false, ◌||◌}
use native.Mathlib.Omega.{arith}
use native.Mathlib.Nat.{zero-add}
use lib.Dec.{T, eqb, ltb, eqb→eq, lit<}
use borrow.Author.Tests.{eq-eqb, le-leb, ltb-false, eqb-false}
use Rattle.logic.specs.Cases.{cases}
use Rattle.logic.specs.Truth.{neither}
use Rattle.refusals.specs.Numbers.Outcome.{accepted}
use Rattle.meaning.specs.declared.Bump.TheVariants.{Up, Down}
use Rattle.meaning.specs.declared.Note.{Note}
use Rattle.meaning.specs.declared.Meaning.{Meaning}
use Rattle.meaning.specs.declared.Meaning.TheVariants as M
use Rattle.meaning.specs.declared.Meaning.TheVariants.{Dcy, Rup, Cal, Bmp, Flt, Rng, Snc, Fx, Def, Atk, Sus, Lfo, Pv, Rdn, Wav, Fm, Rls, Res, ThreeOff, Vol, Tal, End, Hlt, Src, Dst, Pw, Tem, Utl, Pnt, Hed, Flg, Ps, Fs, Sca, Vdp, Vrt, Aut, Tps, Aux, Pvd, Pvr, Max, Utv, Fc, Rtp, Hld, Ms, Jif, Dtn, Por}
use Rattle.logic.specs.Every.{every_at}
use Rattle.std.specs.Prelude.{Option, Some, None}
use Rattle.note.specs.Reading.{note_of}
use Rattle.note.specs.Writing.{length_byte, tied_byte, tone_byte, two_bytes, note_spelling}
use Rattle.note.proofs.Back.{written-note_reads}
use Rattle.commandtable.specs.Codes.{DCY, RUP, CAL, DEF, ATK, SUS, LFO, RDN, WAV, F-M, RLS, RES, VOL, SRC}
use Rattle.command.specs.Others.{tempo_of}
use Rattle.spelling.specs.Counts.{pair, no_bytes, destination, tempo}
use Rattle.pair.specs.Pairs.{spelling_of}
use Rattle.pairlaws.proofs.ValueKinds.{ReadsBack, at_value}
use Rattle.pairlaws.proofs.ValuesBack.{counted_back, phrase-back, single-back, joined_back, signed_back}
use Rattle.pairlaws.proofs.JoinedBack.{pw_written, ms_written, por_written, jif-back, dtn-back}
use Rattle.pairlaws.proofs.SignedBack.{byte-up, byte_down, sca-up, sca-down, tps-back, rtp-back}

note-back : (n : Note) → ReadsBack (M.Note n) (note_spelling n)
note-back n =
    go (tied_byte (length_byte n.duration n.shape) n.tied) (tone_byte n.tone) (λ a b e. written-note_reads n a b e)
  where
    go : (x y : Option ℕ) → ((a b : ℕ) → two_bytes x y ≡ accepted (record { first = a; second = b }) → (a % 4 ≡ 0) × (note_of a b ≡ n) × (a < 256) × (b < 256))
        → ReadsBack (M.Note n) (two_bytes x y)
    go None y f = (refl, refl)
    go (Some a) None f = (refl, refl)
    go (Some a) (Some b) f = let r = f a b refl in (rw (eq-eqb (a % 4) 0 r.0) (ap (λ k. accepted (M.Note k)) r.1), r.2, r.3)

destination-back : (v : ℕ) → ReadsBack (Dst v) (destination v)
destination-back v =
    at_value Dst v 0 (pair 1 0x8F) _ (refl, lit< tt, lit< tt)
    (at_value Dst v 1 (pair 1 0xAF) _ (refl, lit< tt, lit< tt)
    (at_value Dst v 2 (pair 1 0xDF) _ (refl, lit< tt, lit< tt)
    (at_value Dst v 3 (pair 1 0xEF) no_bytes (refl, lit< tt, lit< tt) (refl, refl))))

-- TEM's byte of a value, from 1 on
tempo-back : (v : ℕ) → ReadsBack (Tem v) (tempo v)
tempo-back v =
    cases (eqb v 0 || ltb 256 v) (λ e. rw e (refl, refl))
    (λ e. let none = neither (eqb v 0) (ltb 256 v) e in
    let top = ltb-false 256 v none.1 in
    let some : v ≡ 0 → ⊥ = eqb-false v 0 none.0 in
    let s : v - 1 + 1 ≡ v = omega (arith, some) in
    let r : T (eqb (tempo_of (v % 256)) v) = rw (s) at (every_at (λ k. eqb (tempo_of ((k + 1) % 256)) (k + 1)) 256 tt (v - 1) (omega arith)) in
    rw e (rw (zero-add (v % 256)) (ap (λ k. accepted (Tem k)) (eqb→eq (tempo_of (v % 256)) v r)), lit< tt, omega arith))

pub reads_back : (m : Meaning) → ReadsBack m (spelling_of m)
reads_back (M.Note n) = note-back n
reads_back (Dcy v) = counted_back DCY Dcy (λ k. refl) v 15 0x00 16 tt
reads_back (Rup v) = counted_back RUP Rup (λ k. refl) v 31 0x01 8 tt
reads_back (Cal v) = phrase-back CAL Cal (λ k. refl) v 0x02 0x8B tt tt
reads_back (Bmp Up) = (refl, lit< tt, lit< tt)
reads_back (Bmp Down) = (refl, lit< tt, lit< tt)
reads_back (Flt true) = (refl, lit< tt, lit< tt)
reads_back (Flt false) = (refl, lit< tt, lit< tt)
reads_back (Rng true) = (refl, lit< tt, lit< tt)
reads_back (Rng false) = (refl, lit< tt, lit< tt)
reads_back (Snc true) = (refl, lit< tt, lit< tt)
reads_back (Snc false) = (refl, lit< tt, lit< tt)
reads_back (Fx true) = (refl, lit< tt, lit< tt)
reads_back (Fx false) = (refl, lit< tt, lit< tt)
reads_back (Def v) = phrase-back DEF Def (λ k. refl) v 0x06 0x83 tt tt
reads_back (Atk v) = counted_back ATK Atk (λ k. refl) v 15 0x04 8 tt
reads_back (Sus v) = counted_back SUS Sus (λ k. refl) v 15 0x84 8 tt
reads_back (Lfo v) = counted_back LFO Lfo (λ k. refl) v 1 0x63 8 tt
reads_back (Pv true) = (refl, lit< tt, lit< tt)
reads_back (Pv false) = (refl, lit< tt, lit< tt)
reads_back (Rdn v) = counted_back RDN Rdn (λ k. refl) v 31 0x05 8 tt
reads_back (Wav v) = counted_back WAV Wav (λ k. refl) v 7 0x07 32 tt
reads_back (Fm v) = counted_back F-M Fm (λ k. refl) v 7 0x17 32 tt
reads_back (Rls v) = counted_back RLS Rls (λ k. refl) v 15 0x08 16 tt
reads_back (Res v) = counted_back RES Res (λ k. refl) v 15 0x0A 16 tt
reads_back (ThreeOff true) = (refl, lit< tt, lit< tt)
reads_back (ThreeOff false) = (refl, refl)
reads_back (Vol v) = counted_back VOL Vol (λ k. refl) v 15 0x0E 16 tt
reads_back Tal = (refl, lit< tt, lit< tt)
reads_back End = (refl, lit< tt, lit< tt)
reads_back Hlt = (refl, lit< tt, lit< tt)
reads_back (Src v) = counted_back SRC Src (λ k. refl) v 2 0x1F 32 tt
reads_back (Dst v) = destination-back v
reads_back (Pw v) = joined_back Pw v 4095 0x02 16 tt pw_written
reads_back (Tem v) = tempo-back v
reads_back (Utl v) = single-back Utl 0x16 v 255 (λ k low. rw (zero-add k)) tt tt
reads_back (Pnt v) = single-back Pnt 0x26 v 255 (λ k low. rw (zero-add k)) tt tt
reads_back (Hed v) = single-back Hed 0x36 v 255 (λ k low. rw (zero-add k)) tt tt
reads_back (Flg v) = single-back Flg 0x46 v 255 (λ k low. rw (zero-add k)) tt tt
reads_back (Ps z) = signed_back Ps 0x56 128 127 (λ k low. rw (zero-add k, byte-up k low)) (λ k low. rw (zero-add (256 - (k + 1)), byte_down k low)) tt tt z
reads_back (Fs z) = signed_back Fs 0x66 128 127 (λ k low. rw (zero-add k, byte-up k low)) (λ k low. rw (zero-add (256 - (k + 1)), byte_down k low)) tt tt z
reads_back (Sca z) = signed_back Sca 0x6E 7 7 sca-up sca-down tt tt z
reads_back (Vdp v) = single-back Vdp 0x76 v 127 (λ k low. rw (zero-add k, le-leb k 127 low)) tt tt
reads_back (Vrt v) = single-back Vrt 0x86 v 255 (λ k low. rw (zero-add k)) tt tt
reads_back (Aut z) = signed_back Aut 0x96 128 127 (λ k low. rw (zero-add k, byte-up k low)) (λ k low. rw (zero-add (256 - (k + 1)), byte_down k low)) tt tt z
reads_back (Tps z) = tps-back z
reads_back (Aux v) = single-back Aux 0xB6 v 255 (λ k low. rw (zero-add k)) tt tt
reads_back (Pvd v) = single-back Pvd 0xC6 v 127 (λ k low. rw (zero-add k, le-leb k 127 low)) tt tt
reads_back (Pvr v) = single-back Pvr 0xD6 v 127 (λ k low. rw (zero-add k, le-leb k 127 low)) tt tt
reads_back (Max v) = single-back Max 0xE6 v 255 (λ k low. rw (zero-add k)) tt tt
reads_back (Utv v) = single-back Utv 0xF6 v 255 (λ k low. rw (zero-add k)) tt tt
reads_back (Fc v) = single-back Fc 0x0E v 255 (λ k low. rw (zero-add k)) tt tt
reads_back (Rtp z) = rtp-back z
reads_back (Hld v) = single-back Hld 0x4E v 255 (λ k low. rw (zero-add k)) tt tt
reads_back (Ms v) = joined_back Ms v 1023 0x1E 64 tt ms_written
reads_back (Jif z) = jif-back z
reads_back (Dtn z) = dtn-back z
reads_back (Por v) = joined_back Por v 16383 0x03 4 tt por_written
