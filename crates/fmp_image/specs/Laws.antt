-- What holds of building: two texts have one answer.
use Rattle.std.specs.Prelude.{◌≡◌, ℕ, List}
use Rattle.fmp_lex.specs.declared.fault.BuildFault.{BuildFault}
use Rattle.fmp_lex.specs.declared.fault.BuildFault.TheVariants.{Memory}
use Rattle.fmp_image_bytes.specs.Images.{ImageTables}
use Rattle.fmp_image.specs.Building.{Builds, IsBuildFault}

-- two texts build at most one image, or have at most one first fault apart from running out of memory, and never both
pub record HaveOneAnswer (cfg src : List ℕ) : Type 0 where
  pub one_image : (i j : ImageTables) → Builds cfg src i → Builds cfg src j → i ≡ j
  pub one_fault :
      (f g : BuildFault) → IsBuildFault cfg src f → IsBuildFault cfg src g → (f ≡ Memory → ⊥) → (g ≡ Memory → ⊥) → f ≡ g
  pub not_both : (i : ImageTables) (f : BuildFault) → Builds cfg src i → IsBuildFault cfg src f → f ≡ Memory
