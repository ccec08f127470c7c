use Rattle.std.proofs.Common.{rules, ◌≡◌}
use Rattle.std.specs.Prelude.{◌==◌, position}
use Rattle.std.proofs.lemmas.Iterator.{YieldsList-from_slice}
use Rattle.std.proofs.lemmas.Iterator.Search.{position_from_yields_List}
use borrow.Author.Tests.{tests}
use Rattle.fields.proofs.Cut.{before_position}
use Rattle.fields.proofs.length_before.Goals as goal

pub returns : goal.returns
returns c =
    let place : c.position.result ≡ position (λ b. b == c.args.mark) c.args.s.now =
    position_from_yields_List (λ b. b == c.args.mark) _ _ _ c.position.ensures.ran (YieldsList-from_slice c.args.s.now cc) (λ x b q k. search (rules, tests)) in
    rw (c.unwrap_or.ensures, place) (before_position c.args.mark c.args.s.now)
