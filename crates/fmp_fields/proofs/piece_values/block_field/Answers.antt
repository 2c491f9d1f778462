use Rattle.std.proofs.Common.{◌≡◌, ℕ, ap, sym, ◌∙◌, subst}
use Rattle.std.specs.Prelude.{IfSome}
use Rattle.fmp_base.specs.declared.states.TaskBlock.{TaskBlock}
use Rattle.fmp_base.specs.States.{KernelState, task_at}
use Rattle.fmp_fields.specs.FieldNumbers.{block_number}
use Rattle.fmp_fields.proofs.BlockNumbers.{block-told}
use Rattle.fmp_fields.proofs.piece_values.block_field.Goals as goal

pub returns : goal.returns
returns c = λ w came e.
    let f = c.args.what in
    let t = c.args.t in
    let state = c.args.tables.now.state in
    let told = block-told c.args.tables.now.system w came f t c.requires in
    subst (λ (n : ℕ). IfSome c.block_value.result (λ m. m ≡ n))
    (ap (λ (k : ℕ). block_number k c.task.result f) c.clock.ensures.value
    ∙ (ap (λ (x : TaskBlock). block_number state.clock x f) c.task.ensures
    ∙ (ap (λ (s : KernelState). block_number s.clock (task_at s.tasks t) f) (sym e) ∙ sym told)))
    c.block_value.ensures.value
