use Rattle.std.proofs.Common.{List, map, ap, ◌∙◌}
use Rattle.std.specs.Prelude.{get_or}
use Rattle.fmp_instructions.specs.Instructions.{BodyTables}
use Rattle.fmp_reachable.proofs.TestedLaws.{locals_found}
use Rattle.fmp_reachable.proofs.soundness.local_count.Goals as goal

pub returns : goal.returns
returns c =
    c.local_count.ensures
    ∙ ap (λ (bodies : List BodyTables). get_or (map (λ (b : BodyTables). b.locals) bodies) c.args.entry 0)
    c.body.ensures
    ∙ locals_found c.args.kernel.now.body c.args.entry
