-- The line is what failed, a colon, the words, and the line's end. Where a part of it fails, the writer has
-- taken those before it.
use Rattle.std.specs.Prelude.{[], ◌∷◌, ◌++◌}
use Rattle.std.proofs.KnownBytes.{Appends-trans}
use Rattle.printing.proofs.Taken.{of_error, part_after, part_longer}
use Rattle.printing.proofs.output.write_failure.Goals as goal

pub returns-in_err-write-2-clause-failed : goal.returns-in_err-write-2-clause-failed
returns-in_err-write-2-clause-failed g c =
    let what = c.args.what.now in
    let words = c.words_of-words.result.now in
    let rest = words ++ (10 ∷ []) in
    let colon = part_longer _ _ (58 ∷ 32 ∷ []) rest c.in_err-write-2.ensures.failed in
    of_error c.from_residual-in_err-write-2.result
    (words, part_after _ _ _ what (58 ∷ 32 ∷ rest) c.in_ok-write.ensures.written colon)

pub returns-in_err-write-3-clause-failed : goal.returns-in_err-write-3-clause-failed
returns-in_err-write-3-clause-failed g c =
    let what = c.args.what.now in
    let words = c.words_of-words.result.now in
    let rest = words ++ (10 ∷ []) in
    let part = part_longer _ _ words (10 ∷ []) c.in_err-write-3.ensures.failed in
    let colon = part_after _ _ _ (58 ∷ 32 ∷ []) rest c.in_ok-write-2.ensures.written part in
    of_error c.from_residual-in_err-write-3.result
    (words, part_after _ _ _ what (58 ∷ 32 ∷ rest) c.in_ok-write.ensures.written colon)

pub returns-in_err-write-4-clause-failed : goal.returns-in_err-write-4-clause-failed
returns-in_err-write-4-clause-failed g c =
    let what = c.args.what.now in
    let words = c.words_of-words.result.now in
    let rest = words ++ (10 ∷ []) in
    let spoken = c.in_ok-write-3.ensures.written in
    let part = part_after _ _ _ words (10 ∷ []) spoken c.in_err-write-4.ensures.failed in
    let colon = part_after _ _ _ (58 ∷ 32 ∷ []) rest c.in_ok-write-2.ensures.written part in
    of_error c.from_residual-in_err-write-4.result
    (words, part_after _ _ _ what (58 ∷ 32 ∷ rest) c.in_ok-write.ensures.written colon)

pub returns-clause-written : goal.returns-clause-written
returns-clause-written g c =
    let what = c.args.what.now in
    let words = c.words_of-words.result.now in
    let rest = words ++ (10 ∷ []) in
    let spoken = c.in_ok-write-3.ensures.written in
    let part = Appends-trans _ _ _ words (10 ∷ []) spoken c.in_ok-write-4.ensures.written in
    let colon = Appends-trans _ _ _ (58 ∷ 32 ∷ []) rest c.in_ok-write-2.ensures.written part in
    (words, Appends-trans _ _ _ what (58 ∷ 32 ∷ rest) c.in_ok-write.ensures.written colon)
