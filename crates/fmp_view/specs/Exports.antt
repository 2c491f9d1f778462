-- What `export` writes.
use Rattle.std.specs.Prelude.{◌≡◌, ◌⊎◌, ℕ, List, [], ◌∷◌, ◌++◌, Bool, Ok, Option, codes, false, map, true}
use Rattle.std.specs.List.{AllByRecursion}
use Rattle.fmp_diagnosis.specs.declared.sentence.Texts.{Texts}
use Rattle.fmp_files.specs.Deeds.{Deed, Does, Says, wrote}
use Rattle.fmp_files.specs.Outside.{Files}
use Rattle.fmp_image.specs.Building.{Builds}
use Rattle.fmp_image_bytes.specs.Images.{ImageTables}
use Rattle.fmp_export.specs.declared.files.ExportedText.{ExportedText}
use Rattle.fmp_export.specs.declared.project.TheConstants.{MAKEFILE}
use Rattle.fmp_export.specs.Files.{IsExportedWith}
use Rattle.fmp_view.specs.Apart.{IsApartFromTexts}
use Rattle.fmp_view.specs.Begun.{BeginsDeeds}
use Rattle.fmp_view.specs.declared.exporting.Exporting.{Exporting}
use Rattle.fmp_view.specs.declared.exporting.Project.{Project}
use Rattle.fmp_searching.specs.Claimed.{IsFile}
use Rattle.fmp_searching.specs.Deeds.{TellsOnly}

-- the C of the bodies of a text, for the system that it builds with a configuration, with the text's lines or without
pub record IsExportOf (lines : Bool) (cfg src : List ℕ) (e : ExportedText) : Type 0 where
  pub image : ImageTables
  pub builds : Builds cfg src image
  pub exported : IsExportedWith lines image.system src (Ok e)

-- the name of a file of a folder
abbrev pub in_folder : (folder file : List ℕ) → List ℕ
in_folder folder file = folder ++ (codes "/" ++ file)

-- the main program is written, unless it is kept
abbrev pub main_file : (folder main : List ℕ) → (keeps_main : Bool) → List Deed
main_file folder main true = []
main_file folder main false = wrote (in_folder folder (codes "main.c")) main ∷ []

-- the files of a folder are written
abbrev pub project : (folder : List ℕ) → Texts → ExportedText → (keeps_main : Bool) → List Deed
project folder t e keeps_main =
    wrote (in_folder folder (codes "bodies.h")) e.header.items
    ∷ (wrote (in_folder folder (codes "bodies.c")) e.bodies.items
    ∷ (wrote (in_folder folder (codes "system.cfg")) t.cfg.now
    ∷ (wrote (in_folder folder (codes "system.src")) t.src.now
    ∷ (wrote (in_folder folder (codes "Makefile")) MAKEFILE.now
    ∷ main_file folder e.main.items keeps_main))))

abbrev pub files_of : Project → (keeps_main : Bool) → List Deed
files_of p keeps_main = project p.folder.now p.texts p.exported.now keeps_main

-- a main program that can be read is kept
abbrev pub KeepsMain : Files → (folder : List ℕ) → (keeps_main : Bool) → Type 0
KeepsMain files folder keeps_main =
    files.can_fail (in_folder folder (codes "main.c")) ≡ false → keeps_main ≡ true

-- the files of a folder are those of two texts
pub record HasExportedTexts (files : Files) (lines : Bool) (t : Texts) (folder : List ℕ)
    (before after : Option (List Deed)) : Type 0 where
  pub exported : ExportedText
  pub is : IsExportOf lines t.cfg.now t.src.now exported
  pub keeps_main : Bool
  pub keeps : KeepsMain files folder keeps_main
  pub written : Does before (project folder t exported keeps_main) after

-- the files of a folder are begun, and a failure was said
pub record Stops (files : Files) (p : Project) (before after : Option (List Deed)) : Type 0 where
  pub keeps_main : Bool
  pub keeps : KeepsMain files p.folder.now keeps_main
  pub between : Option (List Deed)
  pub begun : BeginsDeeds (files_of p keeps_main) before between
  pub said : Says between after

-- the same of two texts
pub record HasBegunTexts (files : Files) (lines : Bool) (t : Texts) (folder : List ℕ)
    (before after : Option (List Deed)) : Type 0 where
  pub exported : ExportedText
  pub is : IsExportOf lines t.cfg.now t.src.now exported
  pub keeps_main : Bool
  pub keeps : KeepsMain files folder keeps_main
  pub between : Option (List Deed)
  pub begun : BeginsDeeds (project folder t exported keeps_main) before between
  pub said : Says between after

-- nothing was written but something was told; or files were begun
abbrev pub StopsTexts : Files → (lines : Bool) → Texts → (folder : List ℕ) → (before after : Option (List Deed))
    → Type 0
StopsTexts files lines t folder before after = TellsOnly before after ⊎ HasBegunTexts files lines t folder before after

-- the same of the texts of two files
pub record HasExportedFiles (files : Files) (x : Exporting) (before after : Option (List Deed)) : Type 0 where
  pub texts : Texts
  pub is_cfg : IsFile files x.names.cfg.now texts.cfg.now
  pub is_src : IsFile files x.names.src.now texts.src.now
  pub has : HasExportedTexts files x.lines texts x.folder.now before after

pub record HasBegunFiles (files : Files) (x : Exporting) (before after : Option (List Deed)) : Type 0 where
  pub texts : Texts
  pub is_cfg : IsFile files x.names.cfg.now texts.cfg.now
  pub is_src : IsFile files x.names.src.now texts.src.now
  pub has : HasBegunTexts files x.lines texts x.folder.now before after

abbrev pub StopsFiles : Files → Exporting → (before after : Option (List Deed)) → Type 0
StopsFiles files x before after = TellsOnly before after ⊎ HasBegunFiles files x before after

-- the files of a folder, with the main program
abbrev pub project_files : List (List ℕ)
project_files =
    codes "bodies.h" ∷ (codes "bodies.c" ∷ (codes "system.cfg" ∷ (codes "system.src"
    ∷ (codes "Makefile" ∷ (codes "main.c" ∷ [])))))

-- the same, and none of the files of the folder is one of the two that are read
pub record HasExported (files : Files) (x : Exporting) (before after : Option (List Deed)) : Type 0 where
  pub apart : AllByRecursion (IsApartFromTexts files x.names) (map (in_folder x.folder.now) project_files)
  pub has : HasExportedFiles files x before after

-- the same of files that are begun
pub record HasBegun (files : Files) (x : Exporting) (before after : Option (List Deed)) : Type 0 where
  pub apart : AllByRecursion (IsApartFromTexts files x.names) (map (in_folder x.folder.now) project_files)
  pub has : HasBegunFiles files x before after

-- an export that fails: nothing was written but something was told; or the files of the folder were begun
abbrev pub StopsExport : Files → Exporting → (before after : Option (List Deed)) → Type 0
StopsExport files x before after = TellsOnly before after ⊎ HasBegun files x before after
