-- The files of the bodies that a text spells.
use Rattle.std.proofs.Common.{◌≡◌, sym, subst, ℕ, Bool, List, Ok}
use Rattle.fmp_base.specs.Systems.{SystemTables}
use Rattle.fmp_lex.specs.declared.token.Token.{Token}
use Rattle.fmp_lex.specs.Cutting.{Cuts}
use Rattle.fmp_tasklang.specs.declared.trees.Program.{Program}
use Rattle.fmp_tasklang.specs.Reading.{IsRead}
use Rattle.fmp_tasklang.specs.Views.{program_view}
use Rattle.fmp_export.specs.declared.files.ExportedText.{ExportedText}
use Rattle.fmp_export.specs.Files.{AreFiles, IsExportedWith}
use Rattle.fmp_export.specs.Sources.{SourceText}

pub is_exported :
    (s : SystemTables) (text : List ℕ) (p : Program) (us : List Token) (lines : Bool) (source : SourceText)
    (e : ExportedText) → IsRead text (Ok p) → ((ts : List Token) → Cuts text 0 ts → ts ≡ us) →
    source ≡ record { text = text; tokens = us; lines = lines } → AreFiles s source (program_view p) e →
    IsExportedWith lines s text (Ok e)
is_exported s text p us lines source e read only is files =
    let ts = read.0.0 in
    let spells = read.0.1 in
    let same =
    subst (λ vs. AreFiles s (record { text = text; tokens = vs; lines = lines }) (program_view p) e)
    (sym (only ts spells.1)) (subst (λ v. AreFiles s v (program_view p) e) is files) in
    (ts, program_view p, spells, same)
