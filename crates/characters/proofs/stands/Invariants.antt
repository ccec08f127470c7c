-- `stands` meets its contract: the bytes compared so far are the same. Assumes nothing.
use Rattle.characters.proofs.Words.{Same}
use Rattle.characters.proofs.stands.Given as goal

abbrev pub invariant-loop-n : goal.invariant-loop-n
invariant-loop-n l = Same l.bytes l.word l.n
