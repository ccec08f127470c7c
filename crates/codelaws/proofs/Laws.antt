-- The laws of codes, from those that are shown case by case.
-- coding_and_decoding   all of them
use mathlib.Core.Path.{sym, ◌∙◌, ap, subst}
use Rattle.refusals.specs.Laws.{accepted-once}
use Rattle.meaning.specs.declared.Meaning.{Meaning}
use Rattle.pairlaws.specs.Statements.{HasPair}
use Rattle.pairlaws.proofs.Laws.{reading_and_writing}
use Rattle.decoding.specs.Decoding.{decoded}
use Rattle.codelaws.specs.Statements.{Coded, CodingAndDecoding}
use Rattle.codelaws.proofs.Refused.{PairRefused}
use Rattle.codelaws.proofs.RefusedPairs.{pair-refused}
use Rattle.codelaws.proofs.Decoding.{Decodes}
use Rattle.codelaws.proofs.Decoded.{decodes}
use Rattle.codelaws.proofs.Coding.{coded}

written-coded : (m : Meaning) → HasPair m → Coded m
written-coded m h = coded m (reading_and_writing.read-written m h.first h.second h.means)

pub coding_and_decoding : CodingAndDecoding
coding_and_decoding = record {
  written-coded = written-coded;
  coded-once = λ m k hm hk e. accepted-once (sym (written-coded m hm).back ∙ ap decoded e ∙ (written-coded k hk).back);
  decoded-coded = λ n m e. subst (Decodes n) e (decodes n);
  undecoded = λ n number place e. subst (Decodes n) e (decodes n);
  pair-refused = λ a b number place e. subst PairRefused e (pair-refused a b);
}
