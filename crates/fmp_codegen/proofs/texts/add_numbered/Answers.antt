use Rattle.std.proofs.Common.{List, map, refl, sym, ap, ◌∙◌, rules}
use Rattle.fmp_base.specs.Systems.{tables_of}
use Rattle.fmp_tasklang.specs.Views.{body_view}
use Rattle.fmp_scopes.specs.declared.headings.Heading.{Heading}
use Rattle.fmp_codegen.specs.Compiling.{body_offence}
use Rattle.fmp_codegen.proofs.TextMaking.{made-stays, made-stops, made-more, code-more, some-there, none-there}
use Rattle.fmp_codegen.proofs.texts.add_numbered.Goals as goal

pub returns-then-is_some : goal.returns-then-is_some
returns-then-is_some c = λ bodies are.
    let made = c.args.made.now in
    let there = some-there made.offence (search rules) in
    made-stays (tables_of c.args.objects.now.system.now) bodies (body_view c.args.body.now) made there.0 there.1 are

pub returns-in_ok-append-in-Ok-2 : goal.returns-in_ok-append-in-Ok-2
returns-in_ok-append-in-Ok-2 c = λ bodies are.
    let made = c.args.made.now in
    let fine = none-there made.offence (search rules) in
    made-more (tables_of c.args.objects.now.system.now) bodies (body_view c.args.body.now) made _ fine are
    (search rules) refl (search rules)
    (code-more made.bodies.items _ c.in_ok-code-in-Ok.code _ c.in_ok-append-in-Ok.ensures c.in_ok-code-in-Ok.ensures)

pub returns-in-Err : goal.returns-in-Err
returns-in-Err c = λ bodies are.
    let made = c.args.made.now in
    let tables = tables_of c.args.objects.now.system.now in
    let fine = none-there made.offence (search rules) in
    let judged = ap (λ (hs : List Heading). body_offence tables (map (λ (h : Heading). h.name) hs)
    (body_view c.args.body.now))
    (sym c.deref.ensures.value)
    ∙ c.in-Err.ensures.first in
    made-stops tables bodies (body_view c.args.body.now) made _ fine are c.in-Err.offence judged refl
