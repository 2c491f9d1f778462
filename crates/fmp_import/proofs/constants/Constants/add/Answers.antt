use Rattle.std.proofs.Common.{◌≡◌, ◌∙◌, List, ◌∷◌, [], ◌++◌, ap}
use Rattle.std.specs.Int.{w64}
use mir.Val.{of_z, to_z}
use Rattle.fmp_import.specs.declared.constants.Definition.{Definition}
use Rattle.fmp_import.proofs.constants.Constants.add.Goals as goal

-- the definition that is added
abbrev definition : goal.In_ok-push-in-Some-Ok → Definition
definition c = record {
  name = c.in-Some-Ok.name;
  value = to_z w64 (of_z w64 c.in-Some-Ok.field-0-1.value);
  terms = c.in-Some-Ok.field-0-1.terms;
}

-- it comes last
added : (c : goal.In_ok-push-in-Some-Ok) → c.push.new.self.items ≡ c.args.self.now ++ definition c ∷ []
added c =
    let seen : c.self.inside.definitions.items ≡ c.args.self.now = c.self.view_is in
    let more = λ (definitions : List Definition). definitions ++ definition c ∷ [] in
    c.in_ok-push-in-Some-Ok.ensures.items ∙ ap more seen

pub returns-in_ok-push-in-Some-Ok-clause-defined : goal.returns-in_ok-push-in-Some-Ok-clause-defined
returns-in_ok-push-in-Some-Ok-clause-defined c = (definition c, c.in-Some-Ok.ensures'.value, added c)

pub returns-in_ok-push-in-Some-Ok-clause-given : goal.returns-in_ok-push-in-Some-Ok-clause-given
returns-in_ok-push-in-Some-Ok-clause-given c = (definition c, added c)

pub returns-in_ok-push-in-Some-Ok-clause-more : goal.returns-in_ok-push-in-Some-Ok-clause-more
returns-in_ok-push-in-Some-Ok-clause-more c = (definition c ∷ [], added c)
