use Rattle.std.proofs.Common.{◌∙◌, ◌++◌, ℕ, List, ap, refl}
use Rattle.fmp_base.specs.Systems.{tables_of}
use Rattle.fmp_frames.specs.declared.variable.Variable.{Variable}
use Rattle.fmp_frames.specs.Declarations.{variables_of}
use Rattle.fmp_frames.specs.Dumps.{first_text, head_text}
use Rattle.fmp_frames.specs.Frames.{table_of}
use Rattle.fmp_frames.specs.Values.{values_of}
use Rattle.fmp_frames.proofs.dump.Waves.new.Goals as goal

pub returns : goal.returns
returns c =
    let sys = tables_of c.args.sys.now in
    let setup = table_of c.args.setup.now in
    let head = c.in_ok-variables.ensures in
    let values = c.in_ok-values.ensures
    ∙ ap (λ (vs : List Variable). values_of setup vs) (c.deref.ensures.value ∙ head.0) in
    record {
      variables = head.0;
      values = values;
      events = refl;
      text = c.in_ok-append_first.ensures
          ∙ ap (λ (xs : List ℕ). xs ++ first_text c.deref-2.result.now c.deref-3.result.now) head.1
          ∙ ap (λ (vs : List Variable). head_text sys ++ first_text vs c.deref-3.result.now)
          (c.deref-2.ensures.value ∙ head.0)
          ∙ ap (λ (xs : List ℕ). head_text sys ++ first_text (variables_of sys) xs) (c.deref-3.ensures.value ∙ values);
    }
