-- Laws of ordered tests, for every list of them, and of answers.
-- passed_none, none_passed    a list passes exactly when none of its tests applies
-- first_answers               the answer is that of the first test that applies
-- none_append                 none of a list applies, so none of its second part
-- first_failed, first_append   a list in two parts: the second counts where the first passes
-- tested_all, tested-first     tests made one by one have the list's verdict
-- first_above                 the number with which tests refuse is above 0
-- numbered-number             a reason is the one that has its number
-- number-once                 no two reasons have the same number
-- accepted-once, refused-once   what is accepted is known by its value, a refusal by its number and place
-- outcome-once                no two answers are alike
-- two_ways                    nothing is both accepted and refused
-- guarded-passed, guarded-accepted   what comes after tests is accepted only where they pass
use Rattle.std.specs.Prelude.{Result, Ok, Err, ℕ, ◌<◌, ◌≡◌, refl, Bool, true, false, cond, List, [], ◌∷◌, ◌++◌}
use Rattle.std.proofs.Common.{arith, ap, sym, ◌∙◌}
use Rattle.logic.specs.Cases.{cases}
use Rattle.refusals.specs.declared.Reason.{Reason}
use Rattle.refusals.specs.declared.Reason.TheVariants.{TooShort, Magic, Version, DataOffset, RsidReserved, Songs, ReservedBits, MusPayload, NoPayload, PastMemory, RsidLoad, RsidInit, FreePages, MusShort, MusPastMemory, VoiceLength, VoicesPastFile, TextLines, BytesAfterText, UnassignedPair, ValueRange, HltMisplaced, Structure, HedZero, TooDeep, TooLong, MemorySize, VoiceNumber, ListLengths, NoPair, NoSuchSong, SapFirstLine, SapLine, SapTags, SapBlock}
use Rattle.refusals.specs.declared.Refusal.{Refusal}
use Rattle.refusals.specs.declared.Test.{Test}
use Rattle.refusals.specs.Numbers.{Outcome, outcome_of, number_of, number-above, reason_numbered}
use Rattle.refusals.specs.Numbers.Outcome.{accepted, refused}
use Rattle.refusals.specs.Tests.{Verdict, test, first_of, None, guarded, tested}

cond_passed : (b : Bool) (r : Reason) (v : Verdict) → cond b (Err r) v ≡ Ok tt → (b ≡ false) × (v ≡ Ok tt)
cond_passed true r v e = let z : ◌≡◌ {A = ℕ} 0 1 = cc in absurd (omega arith)
cond_passed false r v e = (refl, e)

-- Of a list that passes no test applies.
pub passed_none : (ts : List Test) → first_of ts ≡ Ok tt → None ts
passed_none [] e = tt
passed_none (t ∷ ts) e = let p = cond_passed t.applies t.reason (first_of ts) e in (p.0, passed_none ts p.1)

-- A list of which no test applies passes.
pub none_passed : (ts : List Test) → None ts → first_of ts ≡ Ok tt
none_passed [] h = refl
none_passed (t ∷ ts) h = rw h.0 (none_passed ts h.1)

-- 'the first that applies answers': where no test before it applies, a test that applies gives its reason.
pub first_answers : (before after : List Test) (r : Reason) → None before
    → first_of (before ++ test r true ∷ after) ≡ Err r
first_answers [] after r h = refl
first_answers (t ∷ ts) after r h = rw h.0 (first_answers ts after r h.1)

-- Where none of a list in two parts applies, none of the second part does.
pub none_append : (ts us : List Test) → None (ts ++ us) → None us
none_append [] us h = h
none_append (t ∷ ts) us h = none_append ts us h.1

-- the verdict of two parts: the second counts where the first passes
abbrev pub first_failed : Verdict → Verdict → Verdict
first_failed (Ok _) v = v
first_failed (Err r) v = Err r

-- A list in two parts has the verdict of the two.
pub first_append : (ts us : List Test) → first_of (ts ++ us) ≡ first_failed (first_of ts) (first_of us)
first_append [] us = refl
first_append (t ∷ ts) us = cases t.applies (λ e. rw e) (λ e. rw e (first_append ts us))

-- the tests made one by one, from a verdict on
abbrev pub tested_all : Verdict → List Test → Verdict
tested_all v [] = v
tested_all v (t ∷ ts) = tested_all (tested v t.applies t.reason) ts

tested_failed : (r : Reason) (ts : List Test) → tested_all (Err r) ts ≡ Err r
tested_failed r [] = refl
tested_failed r (t ∷ ts) = tested_failed r ts

-- Tests made one by one have the list's verdict.
pub tested-first : (ts : List Test) → tested_all (Ok tt) ts ≡ first_of ts
tested-first [] = refl
tested-first (t ∷ ts) = cases t.applies (λ e. rw e (tested_failed t.reason ts)) (λ e. rw e (tested-first ts))

-- Nothing is both accepted and refused.
pub two_ways : {A : Type 0} {a : A} {n p : ℕ} → refused n p ≡ accepted a → ⊥
two_ways e = let z : ◌≡◌ {A = ℕ} 0 1 = cc in omega arith

-- Something accepted is known by its value.
pub accepted-once : {A : Type 0} {a b : A} → ◌≡◌ {A = Outcome A} (accepted a) (accepted b) → a ≡ b
accepted-once e = cc

-- What comes after tests is accepted only where they pass.
pub guarded-passed : {A : Type 0} (v : Verdict) (o : Outcome A) (a : A) → guarded v o ≡ accepted a → (v ≡ Ok tt) × (o ≡ accepted a)
guarded-passed (Ok x) o a e = (refl, e)
guarded-passed (Err r) o a e = absurd (two_ways e)

-- Where a value comes after tests, something is accepted only where they pass, and it is that value.
pub guarded-accepted : {A : Type 0} (v : Verdict) (a b : A) → guarded v (accepted b) ≡ accepted a → (v ≡ Ok tt) × (b ≡ a)
guarded-accepted v a b e = let p = guarded-passed v (accepted b) a e in (p.0, accepted-once p.1)

-- A reason is the one that has its number.
pub numbered-number : (r : Reason) → reason_numbered (number_of r) ≡ Ok r
numbered-number TooShort = refl
numbered-number Magic = refl
numbered-number Version = refl
numbered-number DataOffset = refl
numbered-number RsidReserved = refl
numbered-number Songs = refl
numbered-number ReservedBits = refl
numbered-number MusPayload = refl
numbered-number NoPayload = refl
numbered-number PastMemory = refl
numbered-number RsidLoad = refl
numbered-number RsidInit = refl
numbered-number FreePages = refl
numbered-number MusShort = refl
numbered-number MusPastMemory = refl
numbered-number VoiceLength = refl
numbered-number VoicesPastFile = refl
numbered-number TextLines = refl
numbered-number BytesAfterText = refl
numbered-number UnassignedPair = refl
numbered-number ValueRange = refl
numbered-number HltMisplaced = refl
numbered-number Structure = refl
numbered-number HedZero = refl
numbered-number TooDeep = refl
numbered-number TooLong = refl
numbered-number MemorySize = refl
numbered-number VoiceNumber = refl
numbered-number ListLengths = refl
numbered-number NoPair = refl
numbered-number NoSuchSong = refl
numbered-number SapFirstLine = refl
numbered-number SapLine = refl
numbered-number SapTags = refl
numbered-number SapBlock = refl

-- No two reasons have the same number.
pub number-once : (r s : Reason) → number_of r ≡ number_of s → r ≡ s
number-once r s e = let both : Ok r ≡ Ok s = sym (numbered-number r) ∙ ap reason_numbered e ∙ numbered-number s in cc

-- A refusal is known by its number and place.
pub refused-once : {X : Type 0} (x y : Refusal) → ◌≡◌ {A = Outcome X} (refused (number_of x.reason) x.place) (refused (number_of y.reason) y.place) → x ≡ y
refused-once x y e =
    let number : number_of x.reason ≡ number_of y.reason = cc in
    let reason = number-once x.reason y.reason number in
    let place : x.place ≡ y.place = cc in
    λ i. record { reason = reason i; place = place i }

-- No two answers have the same outcome.
pub outcome-once : {A : Type 0} (a b : Result A Refusal) → outcome_of a ≡ outcome_of b → a ≡ b
outcome-once (Ok a) (Ok b) e = ap Ok (accepted-once e)
outcome-once (Ok a) (Err y) e = absurd (two_ways (sym e))
outcome-once (Err x) (Ok b) e = absurd (two_ways e)
outcome-once (Err x) (Err y) e = ap Err (refused-once x y e)

-- The number with which tests refuse is above 0.
pub first_above : (ts : List Test) (r : Reason) → first_of ts ≡ Err r → 0 < number_of r
first_above ts r e = number-above r
