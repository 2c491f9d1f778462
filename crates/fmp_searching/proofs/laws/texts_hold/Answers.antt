use Rattle.fmp_codegen.specs.Tie.{CodeTied, SameLocals, longest}
use Rattle.fmp_instructions.specs.Machine.{code_meaning}
use Rattle.fmp_schedules.proofs.CompletedLaws.{does-beside, holds-at-all, holds-there-at-all}
use Rattle.fmp_tasklang.specs.Scopes.{scope_of}
use Rattle.fmp_tasklang.specs.Texts.{body_at, text_meaning}
use Rattle.fmp_searching.proofs.laws.texts_hold.Goals as goal

pub returns-clause-all : goal.returns-clause-all
returns-clause-all c = λ cfg src i b rules n forbidden rest low holds.
    let bodies = b.tasks.bodies in
    holds-at-all rules i.system (CodeTied i.system bodies i.code)
    (λ body. SameLocals (scope_of i.system (body_at bodies body))) (code_meaning i.code)
    (text_meaning i.system bodies) (longest i.code) (c.built_image_does_text.ensures cfg src i b) n low
    forbidden rest holds

pub returns-clause-there : goal.returns-clause-there
returns-clause-there c = λ cfg src i b rules n forbidden there low holds.
    let bodies = b.tasks.bodies in
    holds-there-at-all rules i.system (CodeTied i.system bodies i.code)
    (λ body. SameLocals (scope_of i.system (body_at bodies body))) (code_meaning i.code)
    (text_meaning i.system bodies) (longest i.code) (c.built_image_does_text.ensures cfg src i b) n low
    forbidden there holds

pub returns-clause-done : goal.returns-clause-done
returns-clause-done c = λ cfg src i b rules n forbidden t es low all.
    let bodies = b.tasks.bodies in
    does-beside rules i.system (CodeTied i.system bodies i.code)
    (λ body. SameLocals (scope_of i.system (body_at bodies body))) (code_meaning i.code)
    (text_meaning i.system bodies) (longest i.code) (c.built_image_does_text.ensures cfg src i b) n low
    forbidden t es all
