use Rattle.std.proofs.Common.{◌≡◌, ◌++◌, map, drop}
use Rattle.std.specs.Prelude.{flat_map}
use Rattle.fmp_server.specs.Framing.{framed}
use Rattle.fmp_server.proofs.server.framed.Given as goal

abbrev pub invariant-loop-message : goal.invariant-loop-message
invariant-loop-message l =
    l.out.items ++ flat_map framed (map (λ m. m.items) (drop l.message-index l.messages))
    ≡ flat_map framed (map (λ m. m.items) l.messages)
