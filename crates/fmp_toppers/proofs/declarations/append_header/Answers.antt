use Rattle.std.proofs.Common.{◌++◌, ap, ◌∙◌, codes, map}
use Rattle.std.proofs.lemmas.Result.{on_ok_weaker}
use Rattle.fmp_base.specs.Systems.{tables_of}
use Rattle.fmp_tasklang.specs.Views.{body_view}
use Rattle.fmp_export.proofs.Appended.{two}
use Rattle.fmp_toppers.specs.declared.heads.TheConstants.{HEADER_HEAD}
use Rattle.fmp_toppers.specs.Declarations.{definitions, header_file, interrupt_table, prototypes}
use Rattle.fmp_toppers.proofs.declarations.append_header.Goals as goal

pub returns : goal.returns
unfolding header_file
returns c =
    let sys = c.args.system.now in
    let bs = map body_view c.args.program.now.bodies.items in
    let t1 = HEADER_HEAD.now in
    let t2 = definitions c.args.target (tables_of sys) in
    let t3 = interrupt_table sys.interrupts.items in
    let t4 = codes "#ifndef TOPPERS_MACRO_ONLY\n\n" in
    let t5 = prototypes (tables_of sys) bs in
    let e1 = c.in_ok-append.ensures in
    let e2 = c.in_ok-append_definitions.ensures in
    let e3 = c.in_ok-append_interrupt_table.ensures
    ∙ ap (λ xs. c.append_definitions.new.out.items ++ interrupt_table xs) c.deref.ensures.value in
    let e4 = c.in_ok-append-2.ensures in
    on_ok_weaker c.append_all_prototypes.result
    (λ e. two c.args.out.now.items t1 (t2 ++ (t3 ++ (t4 ++ t5))) _ _ e1
    (two c.append.new.out.items t2 (t3 ++ (t4 ++ t5)) _ _ e2
    (two c.append_definitions.new.out.items t3 (t4 ++ t5) _ _ e3
    (two c.append_interrupt_table.new.out.items t4 t5 _ _ e4
    e))))
    c.append_all_prototypes.ensures
