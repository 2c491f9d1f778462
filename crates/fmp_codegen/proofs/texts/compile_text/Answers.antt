use Rattle.std.proofs.Common.{Ok}
use Rattle.fmp_base.specs.Systems.{tables_of}
use Rattle.fmp_codegen.specs.Texts.{IsStreamed}
use Rattle.fmp_codegen.proofs.TextMaking.{text-streamed, compiled-few, compiled-low}
use Rattle.fmp_codegen.proofs.texts.compile_text.Goals as goal

pub returns-in-Some-clause-compiled : goal.returns-in-Some-clause-compiled
returns-in-Some-clause-compiled c =
    let tables = tables_of c.args.system.now in
    let streamed : IsStreamed tables c.args.text.now c.in-Some.made = rw c.in-Some.is at c.in_ok-made.ensures in
    let made = c.text_of.ensures in
    text-streamed tables c.args.text.now c.in-Some.made c.text_of.result streamed made.headings made.code

pub returns-in-Some-clause-few : goal.returns-in-Some-clause-few
returns-in-Some-clause-few c =
    compiled-few (tables_of c.args.system.now) c.args.text.now (Ok c.text_of.result) (returns-in-Some-clause-compiled c)

pub returns-in-Some-clause-low : goal.returns-in-Some-clause-low
returns-in-Some-clause-low c =
    compiled-low (tables_of c.args.system.now) c.args.text.now (Ok c.text_of.result) (returns-in-Some-clause-compiled c)

pub returns-clause-few : goal.returns-clause-few
returns-clause-few c =
    compiled-few (tables_of c.args.system.now) c.args.text.now c.compile_all.result c.compile_all.ensures

pub returns-clause-low : goal.returns-clause-low
returns-clause-low c =
    compiled-low (tables_of c.args.system.now) c.args.text.now c.compile_all.result c.compile_all.ensures
