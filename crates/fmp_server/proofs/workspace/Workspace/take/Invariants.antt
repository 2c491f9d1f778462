use Rattle.std.proofs.Common.{map, take}
use Rattle.fmp_server.specs.Workspaces.{AreTaken}
use Rattle.fmp_server.proofs.workspace.Workspace.take.Given as goal

abbrev pub invariant-loop-message : goal.invariant-loop-message
invariant-loop-message l =
    AreTaken (map (λ m. m.items) (take l.message-index l.messages)) l.initial.self l.self
    (map (λ b. b.items) l.out.items)
