use Rattle.std.proofs.Common.{subst, sym, List}
use Rattle.fmp_instructions.specs.Instructions.{BodyTables}
use Rattle.fmp_searching.proofs.ImageSites.{image_sites}
use Rattle.fmp_searching.proofs.at_calls.nevers_at_of.Goals as goal
use Rattle.fmp_searching.specs.Sites.{HasSites}

pub nevers_at_in-requires : goal.nevers_at_in-requires
nevers_at_in-requires c =
    subst (λ (code : List BodyTables). HasSites code) (sym c.code.ensures) (image_sites _ c.keeps_rules.ensures)
