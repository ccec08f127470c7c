-- `mus::voices::accept_span` meets its contract.
use Prim.Native.Nat.{ℕ, ◌≤◌}
use mathlib.Core.Path.{sym, ap, subst, ◌∙◌}
use mathlib.Core.List.{List}
use lib.ListN.{length}
use Rattle.mus.specs.Voices.{voice_outcome}
use Rattle.mus.proofs.Outcomes.{part-short}
use Rattle.mus.proofs.voices.accept_span.Goals as goal

pub accept_voice-requires : goal.accept_voice-requires
accept_voice-requires c = (subst (λ (p : List ℕ). length p ≤ 65536) (sym c.part.ensures) (part-short c.args.file.now c.args.span.from c.args.span.len c.requires.0), c.requires.1)

pub returns : goal.returns
returns c = c.accept_voice.ensures ∙ ap (voice_outcome _) c.part.ensures
