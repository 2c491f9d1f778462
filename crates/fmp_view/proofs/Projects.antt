-- What an export writes.
use Rattle.std.proofs.Common.{◌≡◌, ℕ, Bool, true, IfOk, List, [], ◌∷◌, Option, Result, Ok, Err, inl, inr, map, refl}
use Rattle.std.proofs.Common.{subst}
use Rattle.std.specs.Prelude.{OnErr}
use Rattle.std.specs.List.{AllByRecursion}
use Rattle.fmp_diagnosis.specs.declared.sentence.Texts.{Texts}
use Rattle.fmp_export.specs.declared.files.ExportedText.{ExportedText}
use Rattle.fmp_export.specs.Files.{IsExportedWith}
use Rattle.fmp_files.specs.Deeds.{Deed, Does, wrote}
use Rattle.fmp_files.specs.Outside.{Files}
use Rattle.fmp_image.specs.Building.{Builds}
use Rattle.fmp_image_bytes.specs.Images.{ImageTables}
use Rattle.fmp_lex.specs.declared.fault.BuildFault.{BuildFault}
use Rattle.fmp_view.specs.declared.exporting.Exporting.{Exporting}
use Rattle.fmp_view.specs.declared.exporting.Project.{Project}
use Rattle.fmp_view.specs.Apart.{IsApartFromTexts}
use Rattle.fmp_view.specs.Begun.{BeginsDeeds}
use Rattle.fmp_view.specs.Exports.{IsExportOf, KeepsMain, StopsExport, StopsFiles, StopsTexts, files_of, in_folder}
use Rattle.fmp_view.specs.Exports.{project_files}
use Rattle.fmp_searching.specs.Claimed.{IsFile}
use Rattle.fmp_searching.proofs.Printing.{does_then}
use Rattle.fmp_view.proofs.BegunDeeds.{begun_nothing}

-- the C of the system that two texts build is their C
pub exports_of : (lines : Bool) (cfg src : List ℕ) (i : ImageTables) → Builds cfg src i
    → (r : Result ExportedText BuildFault) → IsExportedWith lines i.system src r → IfOk r (IsExportOf lines cfg src)
exports_of lines cfg src i builds (Ok e) exported = record { image = i; builds = builds; exported = exported }
exports_of lines cfg src i builds (Err fault) exported = tt

-- a file was written, and then others
pub written : (a b c : Option (List Deed)) (name bytes same : List ℕ) (deeds : List Deed) → bytes ≡ same
    → Does a (wrote name bytes ∷ []) b → Does b deeds c → Does a (wrote name same ∷ deeds) c
written a b c name bytes same deeds e h k =
    does_then a b c (wrote name same ∷ []) deeds (subst (λ bs. Does a (wrote name bs ∷ []) b) e h) k

-- none of the files of a folder was begun
pub project_begun : {A E : Type 0} (result : Result A E) (files : Files) (p : Project) (a : Option (List Deed))
    → OnErr result
    ((keeps_main : Bool) × KeepsMain files p.folder.now keeps_main × BeginsDeeds (files_of p keeps_main) a a)
project_begun (Ok x) files p a = tt
project_begun (Err e) files p a = (true, (λ _. refl), begun_nothing (files_of p true) a)

-- an export of the texts of two files that fails
pub stops_files : (files : Files) (x : Exporting) (texts : Texts) (a b : Option (List Deed))
    → IsFile files x.names.cfg.now texts.cfg.now → IsFile files x.names.src.now texts.src.now
    → StopsTexts files x.lines texts x.folder.now a b → StopsFiles files x a b
stops_files files x texts a b cfg src (inl tells) = inl tells
stops_files files x texts a b cfg src (inr has) = inr (record { texts = texts; is_cfg = cfg; is_src = src; has = has })

-- the same, into files that are none of the two
pub stops_export : (files : Files) (x : Exporting) (a b : Option (List Deed))
    → AllByRecursion (IsApartFromTexts files x.names) (map (in_folder x.folder.now) project_files)
    → StopsFiles files x a b → StopsExport files x a b
stops_export files x a b apart (inl tells) = inl tells
stops_export files x a b apart (inr has) = inr (record { apart = apart; has = has })
