use Rattle.std.proofs.Common.{◌≡◌, take, map}
use Rattle.fmp_tasklang.specs.Views.{body_view}
use Rattle.fmp_scopes.specs.Headings.{heading_of}
use Rattle.fmp_scopes.proofs.entries.check_entries.Given as goal

abbrev pub invariant-loop-body : goal.invariant-loop-body
invariant-loop-body l = l.headings.items ≡ map (λ b. heading_of (body_view b))
    (take l.body-index l.program.bodies.items)
