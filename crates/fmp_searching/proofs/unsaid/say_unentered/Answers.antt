use Rattle.std.proofs.Common.{w32}
use Rattle.std.proofs.lemmas.Int.{to_z-of_z}
use Rattle.fmp_searching.specs.Extent.{unentered_text}
use Rattle.fmp_searching.proofs.unsaid.say_unentered.Goals as goal

pub returns : goal.returns
unfolding unentered_text
returns c =
    rw (to_z-of_z w32 c.args.enters c.ranges.enters) at
    (rw (to_z-of_z w32 c.args.leaves c.ranges.leaves) at c.say_section_as.ensures)
