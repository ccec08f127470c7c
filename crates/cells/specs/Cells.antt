-- Two lists filled in step, for the contract of the code that does it; proofs/Filling.antt shows that this
-- is the window of Window.antt.
-- cursor_after   the cursor after one event: it is passed over, or its cells are filled
-- cells_after    a list after it
use Rattle.std.specs.Prelude.{◌+◌, ◌-◌, List, cond, eqb, set}
use Rattle.cells.specs.declared.Cursor.{Cursor}

abbrev pub cursor_after : Cursor → Cursor
cursor_after c =
    cond (eqb c.skip 0) (record { skip = 0; filled = c.filled + 1 }) (record { skip = c.skip - 1; filled = c.filled })

abbrev pub cells_after : {A : Type 0} → Cursor → A → List A → List A
cells_after c x cells = cond (eqb c.skip 0) (set cells c.filled x) cells
