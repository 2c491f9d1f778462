-- What `export --toppers` writes.
use Rattle.std.specs.Prelude.{◌⊎◌, ℕ, List, [], ◌∷◌, Ok, Option, codes, map}
use Rattle.std.specs.List.{AllByRecursion}
use Rattle.fmp_diagnosis.specs.declared.sentence.Texts.{Texts}
use Rattle.fmp_files.specs.Deeds.{Deed, Does, Says, wrote}
use Rattle.fmp_files.specs.Outside.{Files}
use Rattle.fmp_image.specs.Building.{Builds}
use Rattle.fmp_image_bytes.specs.Images.{ImageTables}
use Rattle.fmp_toppers.specs.declared.files.ToppersFiles.{ToppersFiles}
use Rattle.fmp_toppers.specs.declared.target.Target.{Target}
use Rattle.fmp_toppers.specs.Files.{IsExported}
use Rattle.fmp_view.specs.declared.targeting.Targeting.{Targeting}
use Rattle.fmp_searching.specs.Claimed.{IsFile}
use Rattle.fmp_searching.specs.Deeds.{TellsOnly}
use Rattle.fmp_view.specs.Apart.{IsApartFromTexts}
use Rattle.fmp_view.specs.Begun.{BeginsDeeds}
use Rattle.fmp_view.specs.Exports.{in_folder}

-- the files of a target, for the system that a text builds with a configuration
pub record IsTargetOf (k : Target) (cfg src : List ℕ) (e : ToppersFiles) : Type 0 where
  pub image : ImageTables
  pub builds : Builds cfg src image
  pub exported : IsExported k image.system src (Ok e)

-- the files of a folder are written
abbrev pub target_files : (folder : List ℕ) → ToppersFiles → List Deed
target_files folder e =
    wrote (in_folder folder (codes "system.cfg")) e.configuration.items
    ∷ (wrote (in_folder folder (codes "bodies.h")) e.header.items
    ∷ (wrote (in_folder folder (codes "bodies.c")) e.bodies.items ∷ []))

-- the files of a folder are those of two texts
pub record HasTargetedTexts
    (k : Target) (t : Texts) (folder : List ℕ) (before after : Option (List Deed))
    : Type 0
  where
    pub exported : ToppersFiles
    pub is : IsTargetOf k t.cfg.now t.src.now exported
    pub written : Does before (target_files folder exported) after

-- these deeds were begun, and a failure was said
pub record Stops (deeds : List Deed) (before after : Option (List Deed)) : Type 0 where
  pub between : Option (List Deed)
  pub begun : BeginsDeeds deeds before between
  pub said : Says between after

-- the files of a folder, of two texts, were begun
pub record HasBegunTexts (k : Target) (t : Texts) (folder : List ℕ) (before after : Option (List Deed)) : Type 0 where
  pub exported : ToppersFiles
  pub is : IsTargetOf k t.cfg.now t.src.now exported
  pub stops : Stops (target_files folder exported) before after

-- nothing was written but something was told; or files were begun
abbrev pub StopsTexts : Target → Texts → (folder : List ℕ) → (before after : Option (List Deed)) → Type 0
StopsTexts k t folder before after = TellsOnly before after ⊎ HasBegunTexts k t folder before after

-- the same of the texts of two files
pub record HasTargetedFiles (files : Files) (x : Targeting) (before after : Option (List Deed)) : Type 0 where
  pub texts : Texts
  pub is_cfg : IsFile files x.names.cfg.now texts.cfg.now
  pub is_src : IsFile files x.names.src.now texts.src.now
  pub has : HasTargetedTexts x.target texts x.folder.now before after

pub record HasBegunFiles (files : Files) (x : Targeting) (before after : Option (List Deed)) : Type 0 where
  pub texts : Texts
  pub is_cfg : IsFile files x.names.cfg.now texts.cfg.now
  pub is_src : IsFile files x.names.src.now texts.src.now
  pub has : HasBegunTexts x.target texts x.folder.now before after

abbrev pub StopsFiles : Files → Targeting → (before after : Option (List Deed)) → Type 0
StopsFiles files x before after = TellsOnly before after ⊎ HasBegunFiles files x before after

-- the same, and none of the files of the folder is one of the two that are read
pub record HasTargeted (files : Files) (x : Targeting) (before after : Option (List Deed)) : Type 0 where
  pub apart :
      AllByRecursion (IsApartFromTexts files x.names)
      (map (in_folder x.folder.now) (codes "system.cfg" ∷ (codes "bodies.h" ∷ (codes "bodies.c" ∷ []))))
  pub has : HasTargetedFiles files x before after

-- the same of files that are begun
pub record HasBegun (files : Files) (x : Targeting) (before after : Option (List Deed)) : Type 0 where
  pub apart :
      AllByRecursion (IsApartFromTexts files x.names)
      (map (in_folder x.folder.now) (codes "system.cfg" ∷ (codes "bodies.h" ∷ (codes "bodies.c" ∷ []))))
  pub has : HasBegunFiles files x before after

-- an export that fails: nothing was written but something was told; or the files of the folder were begun
abbrev pub StopsTarget : Files → Targeting → (before after : Option (List Deed)) → Type 0
StopsTarget files x before after = TellsOnly before after ⊎ HasBegun files x before after
