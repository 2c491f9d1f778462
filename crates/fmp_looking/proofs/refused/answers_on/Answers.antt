use Rattle.std.proofs.Common.{ℕ, ◌∙◌, ap}
use Rattle.std.proofs.lemmas.Result.{IfOk-weaker}
use Rattle.fmp_instructions.specs.Machine.{code_meaning}
use Rattle.fmp_frames.specs.Answers.{answers_in as answers_of}
use Rattle.fmp_looking.proofs.refused.answers_on.Goals as goal

pub answers_in-requires : goal.answers_in-requires
answers_in-requires c = record { few = c.requires.few }

pub returns : goal.returns
returns c =
    IfOk-weaker c.answers_in.result _ _
    (λ answers h. h
    ∙ ap (λ (t : ℕ). answers_of code_meaning c.args.kernel.now c.args.events.now t) c.task_count.ensures)
    c.answers_in.ensures
