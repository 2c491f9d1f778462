use Rattle.std.proofs.Common.{ap₂, sym, ◌∙◌, ◌∷◌, List}
use Rattle.std.specs.List.{list_any}
use Rattle.fmp_base.specs.declared.events.Line.{Line}
use Rattle.fmp_schedules.specs.Schedules.{is_told}
use Rattle.fmp_schedules.specs.Monitors.{is_broken_along}
use Rattle.fmp_searching.proofs.laws.texts_never_tell.Goals as goal

pub returns : goal.returns
returns c = λ cfg src i b rules n forbidden rest low holds es schedule.
    let like = c.built_image_prints_text.ensures cfg src i b n es low in
    record {
      prints = like;
      never =
          ap₂
          (λ (first : List Line) (more : List (List Line)). is_told forbidden (first ∷ more))
          (sym like.first_lines)
          (sym like.lines)
          ∙ holds.never es schedule;
      by_lines =
          ap₂
          (λ (first : List Line) (more : List (List Line)).
          list_any (λ s. is_broken_along s (first ∷ more)) rules.monitors)
          (sym like.first_lines)
          (sym like.lines)
          ∙ holds.by_lines es schedule;
    }
