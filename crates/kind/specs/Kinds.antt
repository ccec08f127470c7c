-- Document 01, 'Playing a voice': what a pair is to the structure of its voice. 'Events are all pairs but
-- HED, TAL, DEF, END, CAL'; HLT is an event too, with a kind of its own since tests 29 and 30 look for it; a
-- pair that is refused is known by its number, 27 or 28.
-- kind_of     a pair's kind, by what the pair means
-- Numbered   a kind's number: HED's is one byte, DEF's and CAL's are 0 to 23, a refused pair's is 27 or 28
use Rattle.std.specs.Prelude.{◌<◌, ◌≡◌, ◌⊎◌}
use Rattle.meaning.specs.declared.Meaning.{Meaning}
use Rattle.meaning.specs.declared.Meaning.TheVariants.{Note, Dcy, Rup, Cal, Bmp, Flt, Rng, Snc, Fx, Def, Atk, Sus, Lfo, Pv, Rdn, Wav, Fm, Rls, Res, ThreeOff, Vol, Tal, End, Hlt, Src, Dst, Pw, Tem, Utl, Pnt, Hed, Flg, Ps, Fs, Sca, Vdp, Vrt, Aut, Tps, Aux, Pvd, Pvr, Max, Utv, Fc, Rtp, Hld, Ms, Jif, Dtn, Por}
use Rattle.refusals.specs.Numbers.{Outcome}
use Rattle.refusals.specs.Numbers.Outcome.{accepted, refused}
use Rattle.kind.specs.declared.Kind.{Kind}

abbrev pub kind_of : Outcome Meaning → Kind
kind_of (refused number place) = Kind.Bad number
kind_of (accepted (Note n)) = Kind.Event
kind_of (accepted (Dcy v)) = Kind.Event
kind_of (accepted (Rup v)) = Kind.Event
kind_of (accepted (Cal v)) = Kind.Cal v
kind_of (accepted (Bmp b)) = Kind.Event
kind_of (accepted (Flt y)) = Kind.Event
kind_of (accepted (Rng y)) = Kind.Event
kind_of (accepted (Snc y)) = Kind.Event
kind_of (accepted (Fx y)) = Kind.Event
kind_of (accepted (Def v)) = Kind.Def v
kind_of (accepted (Atk v)) = Kind.Event
kind_of (accepted (Sus v)) = Kind.Event
kind_of (accepted (Lfo v)) = Kind.Event
kind_of (accepted (Pv y)) = Kind.Event
kind_of (accepted (Rdn v)) = Kind.Event
kind_of (accepted (Wav v)) = Kind.Event
kind_of (accepted (Fm v)) = Kind.Event
kind_of (accepted (Rls v)) = Kind.Event
kind_of (accepted (Res v)) = Kind.Event
kind_of (accepted (ThreeOff y)) = Kind.Event
kind_of (accepted (Vol v)) = Kind.Event
kind_of (accepted Tal) = Kind.Tal
kind_of (accepted End) = Kind.End
kind_of (accepted Hlt) = Kind.Hlt
kind_of (accepted (Src v)) = Kind.Event
kind_of (accepted (Dst v)) = Kind.Event
kind_of (accepted (Pw v)) = Kind.Event
kind_of (accepted (Tem v)) = Kind.Event
kind_of (accepted (Utl v)) = Kind.Event
kind_of (accepted (Pnt v)) = Kind.Event
kind_of (accepted (Hed v)) = Kind.Hed v
kind_of (accepted (Flg v)) = Kind.Event
kind_of (accepted (Ps z)) = Kind.Event
kind_of (accepted (Fs z)) = Kind.Event
kind_of (accepted (Sca z)) = Kind.Event
kind_of (accepted (Vdp v)) = Kind.Event
kind_of (accepted (Vrt v)) = Kind.Event
kind_of (accepted (Aut z)) = Kind.Event
kind_of (accepted (Tps z)) = Kind.Event
kind_of (accepted (Aux v)) = Kind.Event
kind_of (accepted (Pvd v)) = Kind.Event
kind_of (accepted (Pvr v)) = Kind.Event
kind_of (accepted (Max v)) = Kind.Event
kind_of (accepted (Utv v)) = Kind.Event
kind_of (accepted (Fc v)) = Kind.Event
kind_of (accepted (Rtp z)) = Kind.Event
kind_of (accepted (Hld v)) = Kind.Event
kind_of (accepted (Ms v)) = Kind.Event
kind_of (accepted (Jif z)) = Kind.Event
kind_of (accepted (Dtn z)) = Kind.Event
kind_of (accepted (Por v)) = Kind.Event

abbrev pub Numbered : Kind → Type 0
Numbered Kind.Event = Unit
Numbered (Kind.Hed n) = n < 256
Numbered Kind.Tal = Unit
Numbered (Kind.Def k) = k < 24
Numbered Kind.End = Unit
Numbered (Kind.Cal k) = k < 24
Numbered Kind.Hlt = Unit
Numbered (Kind.Bad n) = (n ≡ 27) ⊎ (n ≡ 28)
