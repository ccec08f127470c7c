-- The laws of pairs, from the two that are shown case by case: what is written reads back, what is read is
-- written.
-- reading_and_writing   all of them
use Prim.Native.Nat.{ℕ}
use mathlib.Core.Path.{◌≡◌, sym, ◌∙◌, subst}
use Rattle.refusals.specs.Numbers.{Outcome}
use Rattle.refusals.specs.Numbers.Outcome.{accepted, refused}
use Rattle.refusals.specs.Laws.{two_ways, accepted-once}
use Rattle.meaning.specs.declared.Meaning.{Meaning}
use Rattle.meaning.specs.declared.Bytes.{Bytes}
use Rattle.spelling.specs.Counts.{pair, no_bytes}
use Rattle.pair.specs.Pairs.{spelling_of}
use Rattle.pair.specs.Preferred.{preferred}
use Rattle.pairlaws.specs.Statements.{Means, HasPair, ReadingAndWriting}
use Rattle.pairlaws.proofs.ValueKinds.{ReadsBack}
use Rattle.pairlaws.proofs.Written.{reads_back}
use Rattle.pairlaws.proofs.Read.{WrittenAs}
use Rattle.pairlaws.proofs.ReadWritten.{written_as_lem}

module _ (m : Meaning) where
  written_reads : (a b : ℕ) → spelling_of m ≡ pair a b → Means m a b
  written_reads a b e = subst (ReadsBack m) e (reads_back m)

  read-written : (a b : ℕ) → Means m a b → spelling_of m ≡ accepted (preferred a b)
  read-written a b means = subst (WrittenAs a b) means.0 (written_as_lem a b means.1 means.2)

  none_unwritten : (HasPair m → ⊥) → spelling_of m ≡ no_bytes
  none_unwritten none = go (spelling_of m) (reads_back m)
    where
      go : (o : Outcome Bytes) → ReadsBack m o → o ≡ no_bytes
      go (accepted bytes) means = absurd (none record { first = bytes.first; second = bytes.second; means = means })
      go (refused number place) is = λ i. refused (is.0 i) (is.1 i)

pub reading_and_writing : ReadingAndWriting
reading_and_writing = record {
  written_reads = written_reads;
  read-written = read-written;
  written-preferred = λ m a b e. accepted-once (sym (read-written m a b (written_reads m a b e)) ∙ e);
  unwritten_none = λ m e h. two_ways (sym e ∙ read-written m h.first h.second h.means);
  none_unwritten = none_unwritten;
  unwritten = λ m number place e. subst (ReadsBack m) e (reads_back m);
  preferred-means = λ m a b means. written_reads m (preferred a b).first (preferred a b).second (read-written m a b means);
  same_preferred = λ m a b c d one other. accepted-once (sym (read-written m a b one) ∙ read-written m c d other);
}
