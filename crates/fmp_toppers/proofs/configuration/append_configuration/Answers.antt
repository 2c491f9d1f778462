use Rattle.std.proofs.Common.{◌++◌, ap, ◌∙◌, List, map}
use Rattle.std.proofs.lemmas.Result.{on_ok_weaker}
use Rattle.fmp_base.specs.declared.systems.TaskConfig.{TaskConfig}
use Rattle.fmp_base.specs.declared.systems.CyclicConfig.{CyclicConfig}
use Rattle.fmp_base.specs.declared.systems.InterruptConfig.{InterruptConfig}
use Rattle.fmp_base.specs.Systems.{tables_of}
use Rattle.fmp_tasklang.specs.Views.{body_view}
use Rattle.fmp_export.proofs.Appended.{two}
use Rattle.fmp_toppers.specs.declared.heads.TheConstants.{CONFIGURATION_HEAD}
use Rattle.fmp_toppers.specs.Configuration.{configuration_file, cyclic_line, interrupt_line, object_lines, task_line}
use Rattle.fmp_toppers.specs.Lines.{lines}
use Rattle.fmp_toppers.proofs.configuration.append_configuration.Goals as goal

pub returns : goal.returns
unfolding configuration_file
returns c =
    let k = c.args.target in
    let sys = c.args.system.now in
    let bs = map body_view c.args.bodies.now in
    let t1 = CONFIGURATION_HEAD.now in
    let t2 = lines (task_line k bs) sys.tasks.items in
    let t3 = object_lines k bs (tables_of sys) in
    let t4 = lines (cyclic_line k bs) sys.cyclics.items in
    let t5 = lines (interrupt_line k bs) sys.interrupts.items in
    let e1 = c.in_ok-append.ensures in
    let e2 = c.in_ok-append_lines.ensures
    ∙ ap (λ (xs : List TaskConfig). c.append.new.out.items ++ lines (task_line k bs) xs) c.deref.ensures.value in
    let e3 = c.in_ok-append_objects.ensures in
    let e4 = c.in_ok-append_lines-2.ensures
    ∙ ap (λ (xs : List CyclicConfig). c.append_objects.new.out.items ++ lines (cyclic_line k bs) xs)
    c.deref-2.ensures.value in
    on_ok_weaker c.append_lines-3.result
    (λ e. two c.args.out.now.items t1 (t2 ++ (t3 ++ (t4 ++ t5))) _ _ e1
    (two c.append.new.out.items t2 (t3 ++ (t4 ++ t5)) _ _ e2
    (two c.append_lines.new.out.items t3 (t4 ++ t5) _ _ e3
    (two c.append_objects.new.out.items t4 t5 _ _ e4
    (e
    ∙ ap (λ (xs : List InterruptConfig). c.append_lines-2.new.out.items ++ lines (interrupt_line k bs) xs)
    c.deref-3.ensures.value)))))
    c.append_lines-3.ensures
