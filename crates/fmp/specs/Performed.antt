-- What carrying out a command gives, or why it gives nothing.
use Rattle.std.specs.Prelude.{ℕ, List, [], Option, None, Some, ◌≡◌, ◌++◌, codes, decimal, length, slice_get, unwrap_or}
use Rattle.fmp_files.specs.Endings.{IsMemory}
use Rattle.fmp_image.specs.Building.{Builds, IsBuildFault}
use Rattle.fmp_engine.specs.Built.{CanBuild}
use Rattle.fmp_engine.specs.declared.counts.EventCounts.{EventCounts}
use Rattle.fmp_engine.specs.declared.fault.SimFault.TheVariants as sim
use Rattle.fmp_engine.specs.declared.hosting.HostFault.TheVariants as host
use Rattle.fmp_engine.specs.declared.hosting.Workload.{Workload}
use Rattle.fmp_engine.specs.Hosting.{Hosts, HostsTexts, IsWhyHost}
use Rattle.fmp_engine.specs.Simulations.{IsWhySim, PrintsTexts, Simulates}
use Rattle.fmp_image_bytes.specs.Images.{ImageTables, Spells}
use Rattle.fmp_lex.specs.declared.fault.BuildFault.TheVariants as build
use Rattle.fmp.specs.declared.asking.Cmd.{Cmd}
use Rattle.fmp.specs.declared.asking.Cmd.TheVariants as cmd
use Rattle.fmp.specs.declared.perform.Exit.{Exit}
use Rattle.fmp.specs.declared.perform.Exit.TheVariants.{Build, Sim, Host, Failed}
use Rattle.fmp.specs.declared.perform.TheConstants.{STORED_CONFIG, STORED_TASKS, STORED_STEPS, STORED_BOUND}

-- the status of an end: 1 for a fault of what was read, 3 for a failure
abbrev pub status_of : Exit → ℕ
status_of (Build _) = 1
status_of (Sim _) = 1
status_of (Host _) = 1
status_of (Failed _) = 3

-- what was read k-th, counted from 0
abbrev pub input_at : List (List ℕ) → ℕ → List ℕ
input_at inputs k = unwrap_or (slice_get inputs k) []

-- two texts build an image, and `ok` is printed
pub record Checks (cfg src out : List ℕ) : Type 0 where
  pub builds : CanBuild cfg src
  pub text : out ≡ codes "ok\n"

-- two texts build an image: the bytes of the file spell it, and `ok` is printed with how many they are
pub record BuildsFile (cfg src file out : List ℕ) : Type 0 where
  pub image : ImageTables
  pub built : Builds cfg src image
  pub spelled : Spells image file
  pub text : out ≡ codes "ok " ++ (decimal (length file) ++ codes "\n")

-- What is printed is what an image prints over the steps; and where two texts build the image, it is what they mean.
pub record RunsImage (image steps : List ℕ) (n : ℕ) (out : List ℕ) : Type 0 where
  pub printed : Simulates image steps n [] out
  pub meant : (cfg src : List ℕ) (i : ImageTables) (b : Builds cfg src i) → Spells i image
      → PrintsTexts i b.tasks.bodies steps n [] out

-- The file has the journal that the threads of an image made, and what is printed is what the image prints over it; and
-- where two texts build the image, it is what they mean over the journal.
pub record HostsImage (image : List ℕ) (work : Workload) (file out : List ℕ) : Type 0 where
  pub counts : EventCounts
  pub hosted : Hosts image work file out counts
  pub meant : (cfg src : List ℕ) (i : ImageTables) (b : Builds cfg src i) → Spells i image
      → HostsTexts i b.tasks.bodies work file out

-- two texts build an image, and what is printed is what they mean over the steps that the run of the image finished
pub record RunsTexts (cfg src steps : List ℕ) (n : ℕ) (out : List ℕ) : Type 0 where
  pub image : ImageTables
  pub built : Builds cfg src image
  pub meant : PrintsTexts image built.tasks.bodies steps n [] out

-- the most interrupts that a host raises
abbrev pub interrupts_max : ℕ
interrupts_max = 65536

-- the workload that a command asks for
abbrev pub work_of : (turns ticks bound : ℕ) → (interrupt : Option ℕ) → Workload
work_of turns ticks bound None =
    record { turns = turns; ticks = ticks; interrupt = 1; interrupts = 0; bound = bound }
work_of turns ticks bound (Some i) =
    record { turns = turns; ticks = ticks; interrupt = i; interrupts = interrupts_max; bound = bound }

-- What is written and printed is what a command asks for, given what was read.
abbrev pub CarriesOut : Cmd → List (List ℕ) → (file out : List ℕ) → Type 0
CarriesOut (cmd.Check _ _) inputs file out = Checks (input_at inputs 0) (input_at inputs 1) out × (file ≡ [])
CarriesOut (cmd.Build _ _ _) inputs file out = BuildsFile (input_at inputs 0) (input_at inputs 1) file out
CarriesOut (cmd.Sim _ _ bound) inputs file out =
    RunsImage (input_at inputs 0) (input_at inputs 1) bound out × (file ≡ [])
CarriesOut (cmd.Host _ _ turns ticks bound tick_us interrupt) inputs file out =
    HostsImage (input_at inputs 0) (work_of turns ticks bound interrupt) file out
CarriesOut cmd.Stored inputs file out =
    RunsTexts STORED_CONFIG.now STORED_TASKS.now STORED_STEPS.now STORED_BOUND out × (file ≡ [])

-- why two texts build no image
abbrev pub IsWhyNoImage : (cfg src : List ℕ) → Exit → Type 0
IsWhyNoImage cfg src (Build (build.At file place why)) = IsBuildFault cfg src (build.At file place why)
IsWhyNoImage cfg src (Build build.Memory) = ⊥
IsWhyNoImage cfg src (Sim f) = ⊥
IsWhyNoImage cfg src (Host f) = ⊥
IsWhyNoImage cfg src (Failed f) = IsMemory f

-- why an image is not run
abbrev pub IsWhyNoRun : (image steps : List ℕ) → Exit → Type 0
IsWhyNoRun image steps (Build f) = ⊥
IsWhyNoRun image steps (Sim sim.Memory) = ⊥
IsWhyNoRun image steps (Sim f) = IsWhySim f image steps
IsWhyNoRun image steps (Host f) = ⊥
IsWhyNoRun image steps (Failed f) = IsMemory f

-- why an image is not run by threads
abbrev pub IsWhyNotHosted : (image : List ℕ) → Workload → Exit → Type 0
IsWhyNotHosted image work (Build f) = ⊥
IsWhyNotHosted image work (Sim f) = ⊥
IsWhyNotHosted image work (Host host.Memory) = ⊥
IsWhyNotHosted image work (Host f) = IsWhyHost f image work
IsWhyNotHosted image work (Failed f) = IsMemory f

-- why two texts are not built and run
pub data IsWhyNotRun (cfg src steps : List ℕ) (e : Exit) : Type 0 where
  no_image : IsWhyNoImage cfg src e → IsWhyNotRun cfg src steps e
  no_run : (image : ImageTables) (bytes : List ℕ) → Builds cfg src image → Spells image bytes → IsWhyNoRun bytes steps e
      → IsWhyNotRun cfg src steps e

-- why a command is not carried out, given what was read
abbrev pub IsWhyNot : Cmd → List (List ℕ) → Exit → Type 0
IsWhyNot (cmd.Check _ _) inputs e = IsWhyNoImage (input_at inputs 0) (input_at inputs 1) e
IsWhyNot (cmd.Build _ _ _) inputs e = IsWhyNoImage (input_at inputs 0) (input_at inputs 1) e
IsWhyNot (cmd.Sim _ _ _) inputs e = IsWhyNoRun (input_at inputs 0) (input_at inputs 1) e
IsWhyNot (cmd.Host _ _ turns ticks bound tick_us interrupt) inputs e =
    IsWhyNotHosted (input_at inputs 0) (work_of turns ticks bound interrupt) e
IsWhyNot cmd.Stored inputs e = IsWhyNotRun STORED_CONFIG.now STORED_TASKS.now STORED_STEPS.now e
