use Rattle.std.proofs.Common.{◌∙◌, ◌∷◌, [], ◌++◌, List, ap}
use Rattle.fmp_server.specs.declared.documents.Document.{Document}
use Rattle.fmp_server.proofs.documents.Documents.open.Goals as goal

pub returns : goal.returns
returns c =
    let d : Document = record { uri = c.in_ok-from_str.field-0; text = c.in_ok-from_str-2.field-0 } in (
      d,
      record { uri_is = c.in_ok-from_str.ensures.ok; text_is = c.in_ok-from_str-2.ensures.ok },
      c.in_ok-push.ensures.items ∙ ap (λ (ds : List Document). ds ++ d ∷ []) c.close.ensures,
    )
