use Rattle.std.proofs.Common.{[], ◌∷◌, None, codes, inl, inr, refl}
use Rattle.json.specs.Value.{value_view}
use Rattle.fmp_server.specs.declared.messages.Refusal.TheVariants as refusal
use Rattle.fmp_server.specs.Messages.{refused}
use Rattle.fmp_server.proofs.Joining.{then_ok}
use Rattle.fmp_server.proofs.Taking.{ok_both, only_invalid}
use Rattle.fmp_server.proofs.workspace.Workspace.read.Goals as goal

pub returns-in-Ok : goal.returns-in-Ok
returns-in-Ok c =
    then_ok c.take_value.result c.take_value.ensures
    (λ t. (t.1, inl (value_view c.in-Ok.value, t.0, c.in-Ok.ensures.ok.1, t.2, t.3), t.4))

pub returns : goal.returns
returns c =
    let told = c.from_slice.ensures in
    ok_both c.refuse_text.result c.refuse_text.ensures.refusal c.refuse_text.ensures.memory
    (λ said memory.
    let why = only_invalid _ c.in-Err.error c.in-Err.is memory told.invalid told.never_too_long told.never_duplicate in
    let sentence = codes "no JSON" in
    (refused None refusal.NoJson sentence ∷ [], inr (why, refl, (sentence, refl)), said))
