use Rattle.std.proofs.Common.{◌++◌, ap, ◌∙◌, codes, List, map}
use Rattle.std.proofs.lemmas.Result.{on_ok_weaker}
use Rattle.fmp_base.specs.declared.systems.MessageConfig.{MessageConfig}
use Rattle.fmp_base.specs.declared.systems.SharedWordConfig.{SharedWordConfig}
use Rattle.fmp_export.proofs.Appended.{two}
use Rattle.fmp_export.specs.Files.{c_kind}
use Rattle.fmp_toppers.specs.Declarations.{own_objects}
use Rattle.fmp_toppers.proofs.declarations.append_own_objects.Goals as goal

pub returns : goal.returns
unfolding own_objects
returns c =
    let sys = c.args.system.now in
    let messages = λ (xs : List MessageConfig). c_kind (codes "Messages.") (map (λ (x : MessageConfig). x.name) xs) in
    let words = λ (xs : List SharedWordConfig).
    c_kind (codes "Shared words.") (map (λ (x : SharedWordConfig). x.name) xs) in
    let e1 = c.in_ok-append_kind.ensures
    ∙ ap (λ xs. c.args.out.now.items ++ messages xs) c.deref.ensures.value in
    on_ok_weaker c.append_kind-2.result
    (λ e. two c.args.out.now.items (messages sys.messages.items) (words sys.shared_words.items) _ _ e1
    (e ∙ ap (λ xs. c.append_kind.new.out.items ++ words xs) c.deref-2.ensures.value))
    c.append_kind-2.ensures
