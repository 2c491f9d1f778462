use Rattle.std.proofs.Common.{◌∙◌, ap, sym}
use Rattle.fmp_lex.specs.Reading.{kinds_of}
use Rattle.fmp_server.specs.declared.roles.RoleWalk.{RoleWalk}
use Rattle.fmp_server.specs.Roles.{walked}
use Rattle.fmp_server.proofs.Naming.{walked_more, walked_past}
use Rattle.fmp_server.proofs.roles.named_at.Goals as goal
use Rattle.fmp_server.proofs.roles.named_at.Goals.{in-Some, in-None}

pub loop-before-preserved : goal.loop-before-preserved
loop-before-preserved c =
    let ks = kinds_of c.args.tokens.now in
    elim c.match-kind.branch [
      | in-Some w ↦
          w.walk-is ∙ w.take.ensures ∙ ap (λ (v : RoleWalk). walked v w.in-Some.kind) c.loop-before.invariant
          ∙ walked_more _ ks c.loop-before.before w.in-Some.kind
          (sym c.kind-in-loop-before.ensures.value ∙ w.in-Some.is)
      | in-None w ↦
          w.walk-is ∙ c.loop-before.invariant
          ∙ walked_past _ ks c.loop-before.before (sym c.kind-in-loop-before.ensures.value ∙ w.in-None.is)
    ]
