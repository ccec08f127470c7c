-- A write that a signal interrupted took nothing.
use Rattle.std.specs.Io.KnownBytes.{Keeps}
use Rattle.printing.proofs.output.write_some.Given as goal

abbrev pub invariant-loop : goal.invariant-loop
invariant-loop g l = Keeps (g.W.Write.contents l.initial.out) (g.W.Write.contents l.out)
