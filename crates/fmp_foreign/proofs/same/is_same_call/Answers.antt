use Rattle.std.proofs.Common.{◌≡◌, ◌∙◌, sym, ap}
use Rattle.fmp_base.specs.declared.calls.Call.{Call}
use Rattle.fmp_base.specs.Services.{arguments_of, service_of}
use Rattle.fmp_foreign.proofs.SameCalls.{same_calls}
use Rattle.fmp_foreign.proofs.same.is_same_call.Goals as goal

pub returns-then-is_same_service : goal.returns-then-is_same_service
returns-then-is_same_service c =
    let s = c.is_same_service.ensures in
    let l = c.are_same.ensures in
    let sa = c.service.ensures in
    let sb = c.service-2.ensures in
    let la = c.as_slice.ensures ∙ c.arguments.ensures in
    let lb = c.as_slice-then-is_same_service.ensures ∙ c.arguments-then-is_same_service.ensures in
    let same : service_of c.args.a ≡ service_of c.args.b = sym sa ∙ s.0 c.if-is_same_service.true ∙ sb in (
      λ t. same_calls c.args.a c.args.b same (sym la ∙ l.0 t ∙ lb),
      λ e. l.1
          (la ∙ ap (λ (k : Call). arguments_of k) e ∙ sym lb),
    )
