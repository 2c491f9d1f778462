use Rattle.std.proofs.Common.{◌++◌, ap, ◌∙◌, map}
use Rattle.std.proofs.lemmas.Result.{on_ok_weaker}
use Rattle.fmp_tasklang.specs.Views.{body_view}
use Rattle.fmp_export.proofs.Appended.{two}
use Rattle.fmp_export.specs.Bodies.{c_bodies}
use Rattle.fmp_toppers.specs.declared.heads.TheConstants.{BODIES_HEAD}
use Rattle.fmp_toppers.specs.Declarations.{bodies_file, interrupt_function, message_table, word_table}
use Rattle.fmp_toppers.specs.Lines.{lines}
use Rattle.fmp_toppers.proofs.declarations.append_bodies_file.Goals as goal

pub returns : goal.returns
unfolding bodies_file
returns c =
    let k = c.args.target in
    let sys = c.args.system.now in
    let bs = c.args.program.now.bodies.items in
    let t1 = BODIES_HEAD.now in
    let t2 = word_table sys.shared_words.items in
    let t3 = message_table k sys.messages.items in
    let t4 = c_bodies (map body_view bs) in
    let t5 = lines (interrupt_function (map body_view bs)) sys.interrupts.items in
    let e1 = c.in_ok-append.ensures in
    let e2 = c.in_ok-append_word_table.ensures
    ∙ ap (λ xs. c.append.new.out.items ++ word_table xs) c.deref.ensures.value in
    let e3 = c.in_ok-append_message_table.ensures
    ∙ ap (λ xs. c.append_word_table.new.out.items ++ message_table k xs) c.deref-2.ensures.value in
    let e4 = c.in_ok-append_bodies.ensures
    ∙ ap (λ xs. c.append_message_table.new.out.items ++ c_bodies (map body_view xs)) c.deref-3.ensures.value in
    on_ok_weaker c.append_interrupt_functions.result
    (λ e. two c.args.out.now.items t1 (t2 ++ (t3 ++ (t4 ++ t5))) _ _ e1
    (two c.append.new.out.items t2 (t3 ++ (t4 ++ t5)) _ _ e2
    (two c.append_word_table.new.out.items t3 (t4 ++ t5) _ _ e3
    (two c.append_message_table.new.out.items t4 t5 _ _ e4
    (e
    ∙ ap (λ ys. c.append_bodies.new.out.items ++ lines (interrupt_function (map body_view ys)) c.deref-5.result.now)
    c.deref-4.ensures.value
    ∙ ap (λ xs. c.append_bodies.new.out.items ++ lines (interrupt_function (map body_view bs)) xs)
    c.deref-5.ensures.value)))))
    c.append_interrupt_functions.ensures
