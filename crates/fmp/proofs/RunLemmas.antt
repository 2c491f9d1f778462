-- What a run of two texts means, and why it is refused, once their image is built.
use Rattle.std.proofs.Common.{ℕ, List, []}
use Rattle.fmp_image.specs.Building.{Builds}
use Rattle.fmp_engine.specs.Simulations.{PrintsTexts, Simulates}
use Rattle.fmp_image_bytes.specs.Images.{ImageTables, Spells}
use Rattle.fmp.specs.declared.perform.Exit.{Exit}
use Rattle.fmp.specs.Performed.{IsWhyNoRun, IsWhyNotRun, RunsImage, RunsTexts, no_run}

module _ (cfg src steps bytes : List ℕ) (image : ImageTables) (b : Builds cfg src image) (s : Spells image bytes) where
  pub run_refused : (e : Exit) → IsWhyNoRun bytes steps e → IsWhyNotRun cfg src steps e
  run_refused e h = no_run image bytes b s h

  pub run_means : (n : ℕ) (text : List ℕ) → RunsImage bytes steps n text → RunsTexts cfg src steps n text
  run_means n text h = record { image = image; built = b; meant = h.meant cfg src image b s }

-- what an image prints is what two texts mean that build it
pub runs_image : (image steps : List ℕ) (n : ℕ)
    → ((cfg src : List ℕ) (i : ImageTables) (b : Builds cfg src i) → Spells i image
    → (text : List ℕ) → Simulates image steps n [] text → PrintsTexts i b.tasks.bodies steps n [] text)
    → (text : List ℕ) → Simulates image steps n [] text → RunsImage image steps n text
runs_image image steps n headline text s =
    record { printed = s; meant = λ cfg src i b spelled. headline cfg src i b spelled text s }
