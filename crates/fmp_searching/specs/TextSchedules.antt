-- What two texts mean along the schedules of their image.
use Rattle.std.specs.Prelude.{◌≡◌, ℕ, List, ◌∷◌, Bool, false}
use Rattle.std.specs.List.{list_any}
use Rattle.fmp_base.specs.declared.events.Event.{Event}
use Rattle.fmp_base.specs.declared.events.Line.{Line}
use Rattle.fmp_base.specs.Setups.{setup}
use Rattle.fmp_codegen.specs.Runs.{PrintsText}
use Rattle.fmp_image_bytes.specs.Images.{ImageTables}
use Rattle.fmp_schedules.specs.declared.monitor.Monitor.{Monitor}
use Rattle.fmp_schedules.specs.Schedules.{is_told}
use Rattle.fmp_schedules.specs.Monitors.{is_broken_along}
use Rattle.fmp_tasklang.specs.Texts.{text_meaning}
use Rattle.fmp_tasklang.specs.Trees.{BodyTree}

-- The image of bodies, run over events within n instructions a stretch, prints what the bodies mean over the events
-- that it did; and in what they mean no forbidden line is told, and no line breaks one of these sentences.
pub record NeverTold (i : ImageTables) (bodies : List BodyTree) (n : ℕ) (forbidden : Line → Bool)
    (monitors : List Monitor) (es : List Event) : Type 0 where
  pub prints : PrintsText i.system bodies i.code n es
  pub never :
      is_told forbidden ((setup i.system (text_meaning i.system bodies)).lines ∷ prints.trace.events) ≡ false
  pub by_lines :
      list_any
      (λ s. is_broken_along s ((setup i.system (text_meaning i.system bodies)).lines ∷ prints.trace.events))
      monitors
      ≡ false
