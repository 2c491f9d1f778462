use Rattle.std.proofs.Common.{◌∙◌, ◌++◌, ℕ, List, ap}
use Rattle.fmp_frames.specs.declared.declarations.Declaration.{Declaration}
use Rattle.fmp_frames.specs.Declarations.{variables_in}
use Rattle.fmp_frames.specs.Dumps.{head_of}
use Rattle.fmp_frames.proofs.head.DumpHead.new.Goals as goal

pub returns : goal.returns
returns c =
    let declared = c.in_ok-declared.ensures in (
      c.in_ok-variables.ensures
          ∙ ap (λ (ds : List Declaration). variables_in ds) (c.deref.ensures.value ∙ declared),
      c.in_ok-append_head.ensures
          ∙ ap (λ (xs : List ℕ). xs ++ head_of c.deref-2.result.now) c.new-text.ensures.items
          ∙ ap (λ (ds : List Declaration). head_of ds) (c.deref-2.ensures.value ∙ declared),
    )
