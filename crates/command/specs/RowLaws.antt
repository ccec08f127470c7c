-- What holds of the meaning by each row that a first byte fits holds of the meaning that is found.
-- picked        of one of two, by a test
-- Each          of a table's rows
-- found-holds   of the meaning that is found
use Rattle.std.specs.Prelude.{ℕ, ◌+◌, ◌*◌, ◌≡◌, refl, Bool, true, false, cond, List, [], ◌∷◌}
use Rattle.meaning.specs.declared.Meaning.{Meaning}
use Rattle.refusals.specs.Numbers.{Outcome}
use Rattle.commandtable.specs.Patterns.{fits, number}
use Rattle.command.specs.Others.{FirstRow, row_found}

module _ (P : Outcome Meaning → Type 0) where
  -- What holds of one outcome where a test is true, and of another in any case, holds of the one that the
  -- test picks.
  pub picked : (t : Bool) (x y : Outcome Meaning) → (t ≡ true → P x) → P y → P (cond t x y)
  picked true x y p q = p refl
  picked false x y p q = q

  abbrev pub Each : List FirstRow → ℕ → ℕ → Type 0
  Each [] a b = Unit
  Each (r ∷ rs) a b = (fits r.pattern a ≡ true → P (r.means (number r.pattern a * 256 + b))) × Each rs a b

  -- What holds of the meaning by each row that the first byte fits, and of what else there is, holds of the
  -- meaning that is found.
  pub found-holds : (rs : List FirstRow) (a b : ℕ) (x : Outcome Meaning) → Each rs a b → P x → P (row_found rs a b x)
  found-holds [] a b x e h = h
  found-holds (r ∷ rs) a b x e h =
      picked (fits r.pattern a) (r.means (number r.pattern a * 256 + b)) (row_found rs a b x) e.0 (found-holds rs a b x e.1 h)
