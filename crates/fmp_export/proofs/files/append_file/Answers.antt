use Rattle.std.proofs.Common.{◌++◌, ap, ◌∙◌, codes, map}
use Rattle.std.proofs.lemmas.Result.{on_ok_weaker}
use Rattle.fmp_tasklang.specs.Views.{body_view}
use Rattle.fmp_export.specs.Bodies.{c_commented_bodies}
use Rattle.fmp_export.specs.Files.{c_file}
use Rattle.fmp_export.specs.Sources.{head_of, source_view}
use Rattle.fmp_export.proofs.Appended.{two}
use Rattle.fmp_export.proofs.files.append_file.Goals as goal

pub returns : goal.returns
unfolding c_file
returns c =
    let s = source_view c.args.source.now in
    let bodies = c.args.program.now.bodies.items in
    let p = codes "#include \"bodies.h\"\n#include \"task.h\"\n" in
    let q = c_commented_bodies s (head_of s) (map body_view bodies) in
    on_ok_weaker c.append_commented_bodies.result
    (λ e. two c.args.out.now.items p q _ _ c.in_ok-append.ensures
    (e
    ∙ ap (λ bs. c.append.new.out.items ++ c_commented_bodies s c.head.result.now (map body_view bs))
    c.deref.ensures.value
    ∙ ap (λ h. c.append.new.out.items ++ c_commented_bodies s h (map body_view bodies)) c.head.ensures))
    c.append_commented_bodies.ensures
