-- What is made of a run.
use Rattle.std.specs.Prelude.{◌≡◌, ℕ, List}
use Rattle.fmp_base.specs.Meanings.{Meaning}
use Rattle.fmp_base.specs.Steps.{Reaction}
use Rattle.fmp_base.specs.Systems.{SystemTables}
use Rattle.fmp_frames.specs.DumpedRuns.{dump_text}
use Rattle.fmp_frames.specs.Frames.{frames_of_each}
use Rattle.fmp_frames.specs.Shown.{frame_now}
use Rattle.fmp_kernel.specs.KernelViews.{KernelView}
use Rattle.fmp_looking.specs.declared.commands.RunOutput.{RunOutput}
use Rattle.fmp_looking.specs.declared.commands.RunOutput.TheVariants as output

-- a waveform is the dump of the run: of setup and of each event that is done or keeps a place
abbrev pub IsOutput : {B C X : Type 0} → RunOutput → SystemTables → (B → Meaning C)
    → (KernelView B C → X → Reaction C) → KernelView B C → List X → (out : List ℕ) → Type 0
IsOutput (output.Table form) sys meaning reaction k xs out = Unit {0}
IsOutput output.Dump sys meaning reaction k xs out =
    out ≡ dump_text sys (frame_now meaning k) (frames_of_each meaning reaction k xs)
IsOutput output.Calls sys meaning reaction k xs out = Unit {0}
