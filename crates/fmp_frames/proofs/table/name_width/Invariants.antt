use Rattle.std.proofs.Common.{◌≡◌, drop, map}
use Rattle.fmp_base.specs.Names.{name_text}
use Rattle.fmp_frames.specs.Tables.{widest}
use Rattle.fmp_frames.proofs.table.name_width.Given as goal

abbrev pub invariant-loop-config : goal.invariant-loop-config
invariant-loop-config l =
    widest l.width (map (λ c. name_text c.name) (drop l.config-index l.tasks))
    ≡ widest 4 (map (λ c. name_text c.name) l.tasks)
