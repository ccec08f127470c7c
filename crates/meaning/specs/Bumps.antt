-- Document 01, 'A pair', the command BMP.
-- bump_of   the value that a number stands for: 0 UP, any other DN
use Rattle.std.specs.Prelude.{ℕ, cond, eqb}
use Rattle.meaning.specs.declared.Bump.{Bump}
use Rattle.meaning.specs.declared.Bump.TheVariants.{Up, Down}

abbrev pub bump_of : ℕ → Bump
bump_of v = cond (eqb v 0) Up Down
