-- The system and the text of an image, after setup.
use Rattle.std.proofs.Common.{◌≡◌, ◌∙◌, ap, sym, subst, ℕ, ◌<◌, List, length}
use Rattle.fmp_base.specs.Setups.{setup}
use Rattle.fmp_base.specs.Systems.{SystemTables}
use Rattle.fmp_contexts.specs.Contexts.{Entered}
use Rattle.fmp_instructions.specs.Instructions.{BodyTables}
use Rattle.fmp_instructions.specs.Machine.{code_meaning}
use Rattle.fmp_image_bytes.specs.Images.{ImageTables, IsImage}
use Rattle.fmp_kernel.specs.KernelViews.{view_of_setup}
use Rattle.fmp_replay.proofs.Entries.{entered}
use Rattle.fmp_checked.specs.Checking.{IsTextOf, TextKernel}

abbrev pub has_body : List BodyTables → ℕ → Type 0
has_body bodies body = body < length bodies

module _ (i : ImageTables) (code : List BodyTables) (sys : SystemTables) where
  -- the body of each task and handler is there
  pub bodies_are_there : IsImage i → code ≡ i.code → sys ≡ i.system → Entered has_body code sys
  bodies_are_there lawful c s =
      subst (λ (x : List BodyTables). Entered has_body x sys) (sym c)
      (subst (λ (t : SystemTables). Entered has_body i.code t) (sym s) (entered i lawful))

  pub text_begun : (bound : ℕ) (k : TextKernel) → k ≡ view_of_setup code bound sys (setup sys (code_meaning code))
      → code ≡ i.code → sys ≡ i.system → IsTextOf i bound k
  text_begun bound k is c s =
      is
      ∙ ap (λ (x : List BodyTables). view_of_setup x bound sys (setup sys (code_meaning x))) c
      ∙ ap (λ (t : SystemTables). view_of_setup i.code bound t (setup t (code_meaning i.code))) s
