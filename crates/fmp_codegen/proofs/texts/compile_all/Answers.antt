use Rattle.std.proofs.Common.{◌≤◌, length}
use Rattle.fmp_base.specs.Systems.{tables_of}
use Rattle.fmp_lex.specs.Faults.{text_max}
use Rattle.fmp_codegen.proofs.TextMaking.{text-compiled, text-stopped, not_long}
use Rattle.fmp_codegen.proofs.texts.compile_all.Goals as goal

pub returns-in-Ok-compile_tokens : goal.returns-in-Ok-compile_tokens
returns-in-Ok-compile_tokens c =
    let text = c.args.text.now in
    let list = c.in-Ok.list in
    let made = c.in-Ok-compile_tokens.made in
    let x = c.in-Ok-compile_tokens.ensures in
    let short : length text ≤ text_max = not_long text list c.in-Ok.ensures.too_long in
    text-compiled (tables_of c.args.objects.now.system.now) made x.0 x.1 list.tokens text
    (short, c.in-Ok.ensures.cut, x.2) c.answer.result c.answer.ensures

pub returns-in-Ok : goal.returns-in-Ok
returns-in-Ok c =
    let text = c.args.text.now in
    let list = c.in-Ok.list in
    let short : length text ≤ text_max = not_long text list c.in-Ok.ensures.too_long in
    let first = rw c.in-Err-Fault.field-0-is at c.in-Err-Fault.ensures in
    text-stopped (tables_of c.args.objects.now.system.now) text list.tokens c.in-Err-Fault.fault.at list.end
    c.in-Err-Fault.fault.why c.fault_at.result short c.in-Ok.ensures.cut first c.in-Ok.ensures.end c.fault_at.ensures
