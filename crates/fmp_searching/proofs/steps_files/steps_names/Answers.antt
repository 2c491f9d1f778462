use Rattle.std.proofs.Common.{◌∙◌, ◌++◌, ◌+◌, ◌∷◌, [], List, ℕ, ap, sym}
use Rattle.fmp_searching.specs.Sources.{steps_name}
use Rattle.fmp_searching.proofs.Endings.{names_more}
use Rattle.fmp_searching.proofs.steps_files.steps_names.Goals as goal

pub loop-i-preserved : goal.loop-i-preserved
loop-i-preserved c =
    c.in_ok-add_steps_name.ensures
    ∙ ap (λ (names : List (List ℕ)). names ++ steps_name c.args.out.now (c.loop-i.i + 1) ∷ []) c.loop-i.invariant
    ∙ sym (names_more c.args.out.now c.loop-i.i)
