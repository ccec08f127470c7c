-- `mus::text_line` meets its contract: the file's refusal, or the line of its song.
use Rattle.std.specs.Prelude.{ℕ, List, ◌≡◌}
use Rattle.std.proofs.Common.{ap, ◌∙◌}
use Rattle.std.proofs.lemmas.Result.{err_from_is_err_and}
use Rattle.refusals.specs.Numbers.{Outcome}
use Rattle.refusals.specs.Numbers.Outcome.{accepted}
use Rattle.refusals.specs.Tests.{and_then}
use Rattle.mus.specs.declared.Song.{Song}
use Rattle.mus.specs.Song.{mus_outcome}
use Rattle.mus.specs.Text.{song_line, line_asked}
use Rattle.mus.proofs.text_line.Goals as goal

line-answered : (f : List ℕ) (n : ℕ) (o : Outcome Song) → o ≡ mus_outcome f
    → and_then o (λ s. accepted (song_line s n)) ≡ line_asked f n
unfolding line_asked
line-answered f n o e = rw e

pub returns-in_err-accept : goal.returns-in_err-accept
returns-in_err-accept c =
    let r = err_from_is_err_and c.from_residual.result c.from_residual.ensures.1 in
    rw (r.1, r.2) (line-answered _ _ _ c.in_err-accept.ensures)

pub returns : goal.returns
returns c = ap accepted c.line_of.ensures ∙ line-answered _ _ _ c.in_ok-accept.ensures
