-- Document 01, 'Playing a voice': what a pair is to the times of its voice. 'TEM, UTL and UTV hold for the
-- events after them'; notes last; 'absolute pitch and commands take 0'.
-- Timing     a note, a value that is set, or nothing of these
-- timing_of   a pair's, by what the pair means
use Rattle.std.specs.Prelude.{ℕ}
use Rattle.meaning.specs.declared.Note as declared
use Rattle.meaning.specs.declared.Meaning.{Meaning}
use Rattle.meaning.specs.declared.Meaning.TheVariants.{Note, Dcy, Rup, Cal, Bmp, Flt, Rng, Snc, Fx, Def, Atk, Sus, Lfo, Pv, Rdn, Wav, Fm, Rls, Res, ThreeOff, Vol, Tal, End, Hlt, Src, Dst, Pw, Tem, Utl, Pnt, Hed, Flg, Ps, Fs, Sca, Vdp, Vrt, Aut, Tps, Aux, Pvd, Pvr, Max, Utv, Fc, Rtp, Hld, Ms, Jif, Dtn, Por}
use Rattle.refusals.specs.Numbers.{Outcome}
use Rattle.refusals.specs.Numbers.Outcome.{accepted, refused}

pub data Timing : Type 0 where
  lasts : declared.Note → Timing
  sets_tempo sets_utl sets_utv : ℕ → Timing
  no_time : Timing

abbrev pub timing_of : Outcome Meaning → Timing
timing_of (refused number place) = no_time
timing_of (accepted (Note n)) = lasts n
timing_of (accepted (Dcy v)) = no_time
timing_of (accepted (Rup v)) = no_time
timing_of (accepted (Cal v)) = no_time
timing_of (accepted (Bmp b)) = no_time
timing_of (accepted (Flt y)) = no_time
timing_of (accepted (Rng y)) = no_time
timing_of (accepted (Snc y)) = no_time
timing_of (accepted (Fx y)) = no_time
timing_of (accepted (Def v)) = no_time
timing_of (accepted (Atk v)) = no_time
timing_of (accepted (Sus v)) = no_time
timing_of (accepted (Lfo v)) = no_time
timing_of (accepted (Pv y)) = no_time
timing_of (accepted (Rdn v)) = no_time
timing_of (accepted (Wav v)) = no_time
timing_of (accepted (Fm v)) = no_time
timing_of (accepted (Rls v)) = no_time
timing_of (accepted (Res v)) = no_time
timing_of (accepted (ThreeOff y)) = no_time
timing_of (accepted (Vol v)) = no_time
timing_of (accepted Tal) = no_time
timing_of (accepted End) = no_time
timing_of (accepted Hlt) = no_time
timing_of (accepted (Src v)) = no_time
timing_of (accepted (Dst v)) = no_time
timing_of (accepted (Pw v)) = no_time
timing_of (accepted (Tem v)) = sets_tempo v
timing_of (accepted (Utl v)) = sets_utl v
timing_of (accepted (Pnt v)) = no_time
timing_of (accepted (Hed v)) = no_time
timing_of (accepted (Flg v)) = no_time
timing_of (accepted (Ps z)) = no_time
timing_of (accepted (Fs z)) = no_time
timing_of (accepted (Sca z)) = no_time
timing_of (accepted (Vdp v)) = no_time
timing_of (accepted (Vrt v)) = no_time
timing_of (accepted (Aut z)) = no_time
timing_of (accepted (Tps z)) = no_time
timing_of (accepted (Aux v)) = no_time
timing_of (accepted (Pvd v)) = no_time
timing_of (accepted (Pvr v)) = no_time
timing_of (accepted (Max v)) = no_time
timing_of (accepted (Utv v)) = sets_utv v
timing_of (accepted (Fc v)) = no_time
timing_of (accepted (Rtp z)) = no_time
timing_of (accepted (Hld v)) = no_time
timing_of (accepted (Ms v)) = no_time
timing_of (accepted (Jif z)) = no_time
timing_of (accepted (Dtn z)) = no_time
timing_of (accepted (Por v)) = no_time
