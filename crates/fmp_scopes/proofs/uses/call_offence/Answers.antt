use Rattle.std.proofs.Common.{◌≡◌, ◌-◌, map, min, take, drop, length, sym, ap, ◌∙◌, arith}
use Rattle.std.proofs.lemmas.List.{take_all, take_min, drop_min, take-map, drop-map, length-drop}
use Rattle.fmp_base.specs.Services.{out_place}
use Rattle.fmp_base.specs.Systems.{found}
use Rattle.fmp_tasklang.specs.Views.{expression_view, call_view}
use Rattle.fmp_scopes.specs.Naming.{uses_offence, arguments_uses}
use Rattle.fmp_scopes.specs.Scopes.{scope_view}
use Rattle.fmp_scopes.proofs.KnownNames.{call-uses}
use Rattle.fmp_scopes.proofs.uses.call_offence.Goals as goal

pub returns : goal.returns
returns c =
    let scope = scope_view c.args.names.now in
    let call = c.args.call.now in
    let args = call.arguments.items in
    let n = found 0 (out_place call.service) in
    let len : length c.as_slice-arguments.result.now ≡ length args = ap length c.as_slice-arguments.ensures in
    let before : c.least-before.result ≡ min n (length args) =
    c.least-before.ensures ∙ ap (λ m. min m (length c.as_slice-arguments.result.now)) c.before_out.ensures
    ∙ ap (min n) len in
    let back = c.as_slice-arguments.result.now in
    let last : c.arguments_offence-last.result ≡ uses_offence scope (arguments_uses
    (drop n (map expression_view args))) =
    c.arguments_offence-last.ensures
    ∙ ap (λ xs. uses_offence scope (arguments_uses (map expression_view xs)))
    (take_all (length back - c.least-before.result) (drop c.least-before.result back)
    (omega (arith, length-drop c.least-before.result back))
    ∙ ap (drop c.least-before.result) c.as_slice-arguments.ensures ∙ ap (λ m. drop m args) before ∙ drop_min n args)
    ∙ ap (λ xs. uses_offence scope (arguments_uses xs)) (sym (drop-map expression_view n args)) in
    let first : c.arguments_offence-first.result ≡ uses_offence scope (arguments_uses
    (take n (map expression_view args))) =
    c.arguments_offence-first.ensures
    ∙ ap (λ xs. uses_offence scope (arguments_uses (map expression_view xs)))
    (ap (take c.least-before.result) c.as_slice-arguments.ensures ∙ ap (λ m. take m args) before ∙ take_min n args)
    ∙ ap (λ xs. uses_offence scope (arguments_uses xs)) (sym (take-map expression_view n args)) in
    let whole = call-uses scope (call_view call) in
    cc
