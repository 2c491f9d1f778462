use Rattle.std.proofs.Common.{subst, sym, List}
use Rattle.fmp_instructions.specs.Instructions.{BodyTables}
use Rattle.fmp_frames.specs.Sites.{HasSites}
use Rattle.fmp_searching.proofs.ImageSites.{frame_sites}
use Rattle.fmp_searching.proofs.refused.refused_in.Goals as goal

pub refused_calls-requires : goal.refused_calls-requires
refused_calls-requires c =
    subst (λ (code : List BodyTables). HasSites code) (sym c.code.ensures) (frame_sites _ c.keeps_rules.ensures)
