use Rattle.std.proofs.Common.{subst, sym, List}
use Rattle.fmp_instructions.specs.Instructions.{BodyTables}
use Rattle.fmp_frames.specs.Sites.{HasSites}
use Rattle.fmp_searching.proofs.ImageSites.{frame_sites}
use Rattle.fmp_searching.proofs.made.sites_of.Goals as goal

pub call_sites-requires : goal.call_sites-requires
call_sites-requires c =
    subst (λ (code : List BodyTables). HasSites code) (sym c.code.ensures) (frame_sites _ c.keeps_rules.ensures)
