use Rattle.std.proofs.Common.{subst, sym, List}
use Rattle.fmp_instructions.specs.Instructions.{BodyTables}
use Rattle.fmp_frames.specs.Sites.{HasSites}
use Rattle.fmp_looking.proofs.ImageSites.{image_sites}
use Rattle.fmp_looking.proofs.call_sentences.nevers_of.Goals as goal

pub nevers_in-requires : goal.nevers_in-requires
nevers_in-requires c =
    subst (λ (code : List BodyTables). HasSites code) (sym c.code.ensures) (image_sites _ c.keeps_rules.ensures)
