use Rattle.std.proofs.Common.{◌++◌, ap, ◌∙◌, codes, map}
use Rattle.std.proofs.lemmas.Result.{on_ok_weaker}
use Rattle.fmp_base.specs.Systems.{tables_of}
use Rattle.fmp_tasklang.specs.Views.{body_view}
use Rattle.fmp_export.proofs.Appended.{two}
use Rattle.fmp_export.specs.Bodies.{c_prototypes}
use Rattle.fmp_export.specs.Files.{c_enumeration}
use Rattle.fmp_toppers.specs.Declarations.{interrupt_prototype, own_objects, prototypes}
use Rattle.fmp_toppers.specs.Lines.{lines}
use Rattle.fmp_toppers.proofs.declarations.append_all_prototypes.Goals as goal

pub returns : goal.returns
unfolding prototypes
returns c =
    let sys = c.args.system.now in
    let t1 = c_enumeration (own_objects (tables_of sys)) in
    let t2 = c_prototypes (map body_view c.args.program.now.bodies.items) in
    let t3 = lines interrupt_prototype sys.interrupts.items in
    let t4 = codes "\n#endif\n\n#endif\n" in
    let e1 = c.in_ok-append_enumeration.ensures in
    let e2 = c.in_ok-append_prototypes.ensures
    ∙ ap (λ bs. c.append_enumeration.new.out.items ++ c_prototypes (map body_view bs)) c.deref.ensures.value in
    let e3 = c.in_ok-append_interrupt_prototypes.ensures
    ∙ ap (λ xs. c.append_prototypes.new.out.items ++ lines interrupt_prototype xs) c.deref-2.ensures.value in
    on_ok_weaker c.append.result
    (λ e. two c.args.out.now.items t1 (t2 ++ (t3 ++ t4)) _ _ e1
    (two c.append_enumeration.new.out.items t2 (t3 ++ t4) _ _ e2
    (two c.append_prototypes.new.out.items t3 t4 _ _ e3
    e)))
    c.append.ensures
