-- What building two texts gives.
use Rattle.std.specs.Prelude.{◌≡◌, ◌++◌, ℕ, List}
use Rattle.fmp_image_bytes.specs.Images.{ImageTables, Spells}
use Rattle.fmp_image.specs.Building.{Builds}

-- two texts build an image
pub record CanBuild (cfg src : List ℕ) : Type 0 where
  pub image : ImageTables
  pub built : Builds cfg src image

-- two texts build an image, and what was appended spells it
pub record AppendsImage (cfg src before after : List ℕ) : Type 0 where
  pub image : ImageTables
  pub built : Builds cfg src image
  pub bytes : List ℕ
  pub spelled : Spells image bytes
  pub text : after ≡ before ++ bytes
