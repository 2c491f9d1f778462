use Rattle.std.proofs.Common.{◌≡◌, ◌++◌, drop}
use Rattle.fmp_frames.specs.Sites.{sites_from}
use Rattle.fmp_frames.proofs.sites.add_sites.Given as goal

abbrev pub invariant-loop-pc : goal.invariant-loop-pc
invariant-loop-pc l =
    l.sites.items ++ sites_from l.body l.pc (drop l.pc l.instructions)
    ≡ l.initial.sites.items ++ sites_from l.body 0 l.instructions
