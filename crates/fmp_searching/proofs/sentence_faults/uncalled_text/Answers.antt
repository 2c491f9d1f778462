use Rattle.std.proofs.Common.{subst, sym, List}
use Rattle.fmp_instructions.specs.Instructions.{BodyTables}
use Rattle.fmp_searching.proofs.ImageSites.{image_sites}
use Rattle.fmp_searching.specs.Sites.{HasSites}
use Rattle.fmp_searching.proofs.sentence_faults.uncalled_text.Goals as goal

pub calls-requires : goal.calls-requires
calls-requires c =
    subst (λ (code : List BodyTables). HasSites code) (sym c.code.ensures) (image_sites _ c.keeps_rules.ensures)
