-- Laws of reading and of the parts of an accepted file.
-- tune-once, tested-once, speed_once   no two answers have the same outcome
-- headed-guarded, read-headed   the outcome of the tests, with the header made, is that of the call
-- accepted-fits                 an accepted file's payload lies within the 65,536 cells
-- payload-whole                 its payload has as many bytes as the header says
-- text-part                     a text's span names the text
use Rattle.std.specs.Prelude.{Result, Ok, Err, ℕ, ◌+◌, ◌-◌, ◌≤◌, ◌≡◌, refl, List, length, take, drop}
use Rattle.std.proofs.Common.{sym, subst, ◌∙◌, ap, arith, length-take, length-drop, take-take, ltb-false}
use Rattle.logic.specs.Cases.{cases}
use Rattle.refusals.specs.Numbers.{Outcome, outcome_of}
use Rattle.refusals.specs.Numbers.Outcome.{accepted}
use Rattle.refusals.specs.declared.Refusal.{Refusal}
use Rattle.refusals.specs.Tests.{Verdict, first_of, guarded}
use Rattle.refusals.specs.Laws.{none_append, outcome-once}
use Rattle.fields.specs.Parts.{before_zero, part_of}
use Rattle.fields.specs.Laws.{take-before, length_before}
use Rattle.sidheader.specs.declared.Parts.{Parts}
use Rattle.sidheader.specs.Fields.{fields_of}
use Rattle.sidheader.specs.Payload.{addressed, payload_of}
use Rattle.sidrefusals.specs.HeaderTests.{header_tests}
use Rattle.sidrefusals.specs.PayloadTests.{payload_tests, sid_tests}
use Rattle.sid.specs.declared.Header.{Header}
use Rattle.sid.specs.Header.{header_of, text_at, span_at}
use Rattle.sid.specs.Answers.{sid_outcome, passing, tested_outcome, headed}
use Rattle.sid.specs.Acceptance.{header, accepted_none, accepted-header}

-- No two answers have the same outcome: an equation of `outcome_of` leaves the answer no freedom.
pub tune-once : (a b : Result Header Refusal) → outcome_of a ≡ outcome_of b → a ≡ b
tune-once = outcome-once

-- So it is with the answers of the tests.
pub tested-once : (a b : Result Parts Refusal) → outcome_of a ≡ outcome_of b → a ≡ b
tested-once = outcome-once

-- And with the answers to a song's number.
pub speed_once : (a b : Result ℕ Refusal) → outcome_of a ≡ outcome_of b → a ≡ b
speed_once = outcome-once

-- Making the header after the tests or inside them is the same.
pub headed-guarded : (f : List ℕ) (v : Verdict) (o : Outcome Parts) → headed f (guarded v o) ≡ guarded v (headed f o)
headed-guarded f (Ok u) o = refl
headed-guarded f (Err r) o = refl

-- What the tests come back with, with its header made, is what reading comes back with.
pub read-headed : (f : List ℕ) (o : Outcome Parts) → o ≡ tested_outcome f → headed f o ≡ sid_outcome f
unfolding tested_outcome sid_outcome
read-headed f o e = ap (headed f) e ∙ headed-guarded f (first_of (sid_tests f)) (accepted (passing (fields_of f) (payload_of f (fields_of f))))

-- The payload of an accepted file lies within the 65,536 cells.
pub accepted-fits : (f : List ℕ) (h : Header) → sid_outcome f ≡ accepted h → h.load + h.payload.len ≤ 65536
unfolding sid_tests header_of
accepted-fits f h e =
    let p = payload_of f (fields_of f) in
    let none = none_append (header_tests (fields_of f)) (payload_tests (fields_of f) p) (accepted_none f h e) in
    let fits = ltb-false 65536 (p.load + p.len) none.1.0 in
    subst (λ (k : Header). k.load + k.payload.len ≤ 65536) (accepted-header f h e) fits

-- Of any file, refused ones too: the payload's part of the file has the length that the header says.
pub payload-whole : (f : List ℕ) → length (part_of f (header f).payload) ≡ (header f).payload.len
unfolding payload_of header_of fields_of
payload-whole f = cases (addressed (fields_of f)) (λ e. rw e (size ((fields_of f).offset + 2))) (λ e. rw e (size (fields_of f).offset))
  where
    size : (from : ℕ) → length (take (length f - from) (drop from f)) ≡ length f - from
    size from = simp (length-take, length-drop) (omega arith)

-- A text's span names the text.
pub text-part : (f : List ℕ) (at : ℕ) → part_of f (span_at f at) ≡ text_at f at
text-part f at =
    let text = take 31 (drop at f) in
    let short : length (before_zero text) ≤ 31 = omega (arith, length_before 0 text, length-take 31 (drop at f)) in
    sym (take-take (length (before_zero text)) 31 (drop at f) short) ∙ take-before 0 text
