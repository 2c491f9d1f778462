-- What an export for a target writes.
use Rattle.std.proofs.Common.{ℕ, IfOk, List, [], ◌∷◌, Option, Result, Ok, Err, codes, inl, inr, map}
use Rattle.std.specs.List.{AllByRecursion}
use Rattle.fmp_diagnosis.specs.declared.sentence.Texts.{Texts}
use Rattle.fmp_files.specs.Deeds.{Deed}
use Rattle.fmp_files.specs.Outside.{Files}
use Rattle.fmp_image.specs.Building.{Builds}
use Rattle.fmp_image_bytes.specs.Images.{ImageTables}
use Rattle.fmp_toppers.specs.declared.files.ToppersFiles.{ToppersFiles}
use Rattle.fmp_toppers.specs.declared.files.ToppersRefusal.{ToppersRefusal}
use Rattle.fmp_toppers.specs.declared.target.Target.{Target}
use Rattle.fmp_toppers.specs.Files.{IsExported}
use Rattle.fmp_searching.specs.Claimed.{IsFile}
use Rattle.fmp_view.specs.declared.targeting.Targeting.{Targeting}
use Rattle.fmp_view.specs.Apart.{IsApartFromTexts}
use Rattle.fmp_view.specs.Exports.{in_folder}
use Rattle.fmp_view.specs.Targets.{IsTargetOf, StopsFiles, StopsTarget, StopsTexts}

-- the files of the system that two texts build are their files
pub targets_of : (k : Target) (cfg src : List ℕ) (i : ImageTables) → Builds cfg src i
    → (r : Result ToppersFiles ToppersRefusal)
    → IsExported k i.system src r → IfOk r (IsTargetOf k cfg src)
targets_of k cfg src i builds (Ok e) exported = record { image = i; builds = builds; exported = exported }
targets_of k cfg src i builds (Err refusal) exported = tt

-- an export for a target of the texts of two files that fails
pub stops_files : (files : Files) (x : Targeting) (texts : Texts) (a b : Option (List Deed))
    → IsFile files x.names.cfg.now texts.cfg.now → IsFile files x.names.src.now texts.src.now
    → StopsTexts x.target texts x.folder.now a b → StopsFiles files x a b
stops_files files x texts a b cfg src (inl tells) = inl tells
stops_files files x texts a b cfg src (inr has) = inr (record { texts = texts; is_cfg = cfg; is_src = src; has = has })

-- the same, into files that are none of the two
pub stops_target : (files : Files) (x : Targeting) (a b : Option (List Deed))
    → AllByRecursion (IsApartFromTexts files x.names)
    (map (in_folder x.folder.now) (codes "system.cfg" ∷ (codes "bodies.h" ∷ (codes "bodies.c" ∷ []))))
    → StopsFiles files x a b → StopsTarget files x a b
stops_target files x a b apart (inl tells) = inl tells
stops_target files x a b apart (inr has) = inr (record { apart = apart; has = has })
