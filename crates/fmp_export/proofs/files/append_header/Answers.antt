use Rattle.std.proofs.Common.{◌++◌, ap, ◌∙◌, codes, map}
use Rattle.std.proofs.lemmas.Result.{on_ok_weaker}
use Rattle.fmp_base.specs.Systems.{tables_of}
use Rattle.fmp_tasklang.specs.Views.{body_view}
use Rattle.fmp_export.specs.declared.files.TheConstants.{HEADER_START}
use Rattle.fmp_export.specs.Bodies.{c_prototypes}
use Rattle.fmp_export.specs.Files.{c_enumeration, c_header, c_kinds}
use Rattle.fmp_export.proofs.Appended.{two}
use Rattle.fmp_export.proofs.files.append_header.Goals as goal

pub returns : goal.returns
unfolding c_header
returns c =
    let p = HEADER_START.now in
    let q = c_enumeration (c_kinds (tables_of c.args.system.now)) in
    let r = c_prototypes (map body_view c.args.program.now.bodies.items) in
    let s = codes "\n#endif\n" in
    let prototypes = c.in_ok-append_prototypes.ensures
    ∙ ap (λ bs. c.append_enumeration.new.out.items ++ c_prototypes (map body_view bs)) c.deref.ensures.value in
    on_ok_weaker c.append-2.result
    (λ e. two c.args.out.now.items p (q ++ (r ++ s)) _ _ c.in_ok-append.ensures
    (two c.append.new.out.items q (r ++ s) _ _ c.in_ok-append_enumeration.ensures
    (two c.append_enumeration.new.out.items r s _ _ prototypes e)))
    c.append-2.ensures
