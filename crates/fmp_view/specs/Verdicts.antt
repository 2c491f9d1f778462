-- How commands end that compare and judge runs: with 4 where runs differ or one fails, and with 0 where they do not.
use Rattle.std.specs.Prelude.{ℕ, ◌≡◌, List, [], ◌∷◌, Option, Some, None, IfSome}
use Rattle.std.specs.Fmt.{with_newline}
use Rattle.fmp_cfgparse.specs.Configurations.{Describes}
use Rattle.fmp_files.specs.Deeds.{Deed, Does, said}
use Rattle.fmp_files.specs.Outside.{Files}
use Rattle.fmp_files.specs.Prints.{Prints}
use Rattle.fmp_foreign.specs.Foreign.{foreign_meaning}
use Rattle.fmp_foreign.specs.Hosting.{reaction}
use Rattle.fmp_image.specs.Building.{Builds}
use Rattle.fmp_instructions.specs.Machine.{code_meaning}
use Rattle.fmp_kernel.specs.Comings.{reaction_of}
use Rattle.fmp_looking.specs.declared.built_system.BuiltSystem.{BuiltSystem}
use Rattle.fmp_looking.specs.declared.wanted.Testing.{Testing}
use Rattle.fmp_looking.specs.declared.exit.ViewExit.{ViewExit}
use Rattle.fmp_looking.specs.declared.why.Why.{Why}
use Rattle.fmp_looking.specs.Differences.{IsDifference}
use Rattle.fmp_looking.specs.Exits.{exit_message}
use Rattle.fmp_looking.specs.Looks.{OfImage, OfRecording, OfSteps, OfSystem}
use Rattle.fmp_looking.specs.TestDeeds.{EndsTest}
use Rattle.fmp_looking.specs.Whys.{IsWhyAt}
use Rattle.fmp_recording.specs.Replaying.{new_kernel}
use Rattle.fmp_replay.specs.Replays.{kernel_after}
use Rattle.fmp_searching.specs.Claimed.{IsFile}
use Rattle.fmp_view.specs.declared.asking.RunFiles.{RunFiles}
use Rattle.fmp_view.specs.declared.asking.RunPair.{RunPair}
use Rattle.fmp_view.specs.Runs.{OfRun}

-- what was found is printed, with status 4; with 0 nothing was found
abbrev pub EndsFound : (found : Option (List ℕ)) → (before after : Option (List Deed)) → (status : ℕ) → Type 0
EndsFound None before after status = Does before [] after × (status ≡ 0)
EndsFound (Some text) before after status = Prints before text after × (status ≡ 4)

-- it was said why nothing is made of a run, where the sentence of that is defined
abbrev pub SaysExit : ViewExit → (before after : Option (List Deed)) → Type 0
SaysExit exit before after =
    IfSome (with_newline (exit_message exit)) (λ line. Does before (said line ∷ []) after)

-- a text says what each task of a run waits or spins for after an event
abbrev pub IsWhyOf : Files → RunFiles → Why → (text : List ℕ) → Type 0
IsWhyOf files r why text =
    OfRun files r
    (λ bound i es. IsWhyAt why code_meaning (reaction_of code_meaning) (kernel_after i bound []) es text)
    (λ sys gs times. IsWhyAt why foreign_meaning reaction (new_kernel sys) gs text)

-- this was printed
pub record EndsWhy (files : Files) (r : RunFiles) (why : Why) (before after : Option (List Deed)) (status : ℕ) : Type 0
  where
    pub text : List ℕ
    pub is : IsWhyOf files r why text
    pub printed : Prints before text after
    pub ended : status ≡ 0

-- the difference of two runs over the texts of these bytes: of an image with the bound of a stretch, or of recordings
abbrev pub IsDifferenceOf : (bound : Option ℕ) → (system a b : List ℕ) → Option (List ℕ) → Type 0
IsDifferenceOf (Some bound) system a b text =
    OfImage system (λ i. OfSteps i a (λ xs. OfSteps i b (λ ys.
    IsDifference code_meaning (reaction_of code_meaning) (kernel_after i bound []) xs ys text)))
IsDifferenceOf None system a b text =
    OfSystem system (λ sys. OfRecording sys a (λ xs. OfRecording sys b (λ ys.
    IsDifference foreign_meaning reaction (new_kernel sys) xs ys text)))

-- the same of the texts of files
pub record IsFilesDifference (files : Files) (p : RunPair) (text : Option (List ℕ)) : Type 0 where
  pub system : List ℕ
  pub is_system : IsFile files p.system.now system
  pub a : List ℕ
  pub is_a : IsFile files p.a.now a
  pub b : List ℕ
  pub is_b : IsFile files p.b.now b
  pub is : IsDifferenceOf p.bound system a b text

-- two runs were compared: this is printed of them
pub record EndsDiff (files : Files) (p : RunPair) (before after : Option (List Deed)) (status : ℕ) : Type 0 where
  pub text : Option (List ℕ)
  pub is : IsFilesDifference files p text
  pub ends : EndsFound text before after status

-- a test was made of the system that two texts build
pub record EndsTestTexts (files : Files) (cfg src : List ℕ) (t : Testing) (before after : Option (List Deed))
    (status : ℕ) : Type 0 where
  pub built : BuiltSystem
  pub builds : Builds cfg src built.image.now
  pub described : Describes cfg built.configured.now
  pub ends : EndsTest files built t before after status

-- the same of the texts of two files
pub record EndsTestFiles (files : Files) (t : Testing) (before after : Option (List Deed)) (status : ℕ) : Type 0 where
  pub cfg : List ℕ
  pub is_cfg : IsFile files t.cfg.now cfg
  pub src : List ℕ
  pub is_src : IsFile files t.src.now src
  pub ends : EndsTestTexts files cfg src t before after status
