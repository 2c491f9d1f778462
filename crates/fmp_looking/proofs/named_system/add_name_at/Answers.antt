use Rattle.std.proofs.Common.{◌∙◌, ◌++◌, List, ap, append-nil, sym}
use Rattle.fmp_base.specs.declared.names.Name.{Name}
use Rattle.fmp_looking.proofs.NameLemmas.{name_missing}
use Rattle.fmp_looking.proofs.named_system.add_name_at.Goals as goal

pub returns-in-None : goal.returns-in-None
returns-in-None c =
    let names = c.args.names.now.items in
    sym (append-nil names)
    ∙ ap (λ (more : List Name). names ++ more)
    (name_missing c.args.after_head c.args.tokens.now c.args.at (sym c.in-None.is ∙ c.kind.ensures.value))
