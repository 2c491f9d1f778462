-- How commands end that compare or judge runs, by what was made of the runs.
use Rattle.std.proofs.Common.{ℕ, ◌≡◌, ◌⊎◌, List, Option, Result, Ok, Err, IfErr, IfOk, option_map}
use Rattle.std.specs.Global.{Vec}
use Rattle.fmp_cfgparse.specs.Configurations.{Describes}
use Rattle.fmp_files.specs.Deeds.{Deed}
use Rattle.fmp_files.specs.Outside.{Files}
use Rattle.fmp_files.specs.Prints.{Prints}
use Rattle.fmp_image.specs.Building.{Builds}
use Rattle.fmp_looking.specs.declared.built_system.BuiltSystem.{BuiltSystem}
use Rattle.fmp_looking.specs.declared.exit.ViewExit.{ViewExit}
use Rattle.fmp_looking.specs.declared.wanted.Testing.{Testing}
use Rattle.fmp_looking.specs.declared.why.Why.{Why}
use Rattle.fmp_looking.specs.TestDeeds.{EndsTest, IsDone, IsRefusal}
use Rattle.fmp_view.specs.declared.asking.RunFiles.{RunFiles}
use Rattle.fmp_view.specs.declared.asking.RunPair.{RunPair}
use Rattle.fmp_view.specs.Verdicts.{EndsDiff, EndsFound, EndsTestTexts, EndsWhy, IsFilesDifference, IsWhyOf}
use Rattle.fmp_looking.proofs.TestEnds.{not_done}
use Rattle.fmp_view.proofs.Endings.{done_of}

pub ends_compared : (files : Files) (p : RunPair) (made : Result (Option (Vec ℕ)) ViewExit)
    (before after : Option (List Deed)) (status : ℕ)
    → IfOk made (λ text. IsFilesDifference files p (option_map (λ t. t.items) text))
    → IfOk made (λ text. IsDone status → EndsFound (option_map (λ t. t.items) text) before after status)
    → IfErr made (λ _. IsRefusal status) → IsDone status → EndsDiff files p before after status
ends_compared files p (Ok text) before after status is found refused done =
    record { text = option_map (λ t. t.items) text; is = is; ends = found done }
ends_compared files p (Err exit) before after status is found refused done = absurd (not_done status refused done)

pub ends_explained : (files : Files) (r : RunFiles) (why : Why) (made : Result (Vec ℕ) ViewExit)
    (before after : Option (List Deed)) (status : ℕ) → IfOk made (λ text. IsWhyOf files r why text.items)
    → IfOk made (λ text. IsDone status → Prints before text.items after) → (status ≡ 0) ⊎ IsRefusal status
    → IfErr made (λ _. IsRefusal status) → IsDone status → EndsWhy files r why before after status
ends_explained files r why (Ok text) before after status is prints ends refused done =
    record { text = text.items; is = is; printed = prints done; ended = done_of status 0 ends done }
ends_explained files r why (Err exit) before after status is prints ends refused done =
    absurd (not_done status refused done)

pub ends_built : (files : Files) (cfg src : List ℕ) (built : BuiltSystem) (testing : Testing)
    (before after : Option (List Deed)) (status : ℕ) → EndsTest files built testing before after status
    → Builds cfg src built.image.now → Describes cfg built.configured.now
    → EndsTestTexts files cfg src testing before after status
ends_built files cfg src built testing before after status ends builds described =
    record { built = built; builds = builds; described = described; ends = ends }
