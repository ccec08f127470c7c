-- `moves::noted::body_of` meets its contract, each pair by its own arm.
use Rattle.std.proofs.Common.{⊎_elim}
use mathlib.Core.Path.{refl}
use Rattle.moves.specs.Noted.{body_in, starts_after}
use Rattle.moves.proofs.noted.body_of.Goals as goal

pub returns-in-Repeat : goal.returns-in-Repeat
unfolding body_in starts_after
returns-in-Repeat c = ⊎_elim (λ p. rw p.1 (refl, refl)) (⊎_elim (λ e. rw e (refl, refl)) (λ e. rw e (refl, refl))) c.in-Repeat.is

pub returns-in-Phrase : goal.returns-in-Phrase
unfolding body_in starts_after
returns-in-Phrase c = rw (c.in-Phrase.is, c.from.ensures) (refl, refl)

pub returns-in-Call : goal.returns-in-Call
unfolding body_in starts_after
returns-in-Call c = rw (c.in-Call.is, c.from-in-Call-2.ensures, c.from-in-Call.ensures) (refl, refl)
