use Rattle.std.proofs.Common.{List, ap, ◌∙◌, ◌++◌, append_assoc}
use Rattle.fmp_fields.specs.declared.field.What.{What}
use Rattle.fmp_fields.specs.declared.owner.Owner.TheVariants as owner
use Rattle.fmp_fields.specs.Pieces.{body_fields, processor_fields}
use Rattle.fmp_fields.proofs.piece.push_whole_processor.Goals as goal

pub returns : goal.returns
returns c =
    let body = body_fields (owner.Handler c.args.p) c.args.room in
    c.in_ok-push_body.ensures
    ∙ (ap (λ (l : List What). l ++ body) c.in_ok-push_processor.ensures
    ∙ append_assoc c.args.fields.now.items (processor_fields c.args.p) body)
