use Rattle.std.proofs.Common.{◌≡◌, ◌++◌, drop, map}
use Rattle.fmp_instructions.specs.Instructions.{body_tables, code_tables}
use Rattle.fmp_frames.specs.Sites.{sites_of_bodies}
use Rattle.fmp_frames.proofs.sites.call_sites.Given as goal

abbrev pub invariant-loop-body : goal.invariant-loop-body
invariant-loop-body l =
    l.sites.items ++ sites_of_bodies l.body (map body_tables (drop l.body l.code.bodies.items))
    ≡ sites_of_bodies 0 (code_tables l.code)
