-- What is found in the texts that are open.
use Rattle.std.specs.Prelude.{◌≡◌, ℕ, ◌+◌, ◌-◌, List, ◌∷◌}
use Rattle.fmp_diagnosis.specs.declared.reports.FaultReport.{FaultReport}
use Rattle.fmp_diagnosis.specs.declared.sentence.Texts.{Texts}
use Rattle.fmp_diagnosis.specs.Reports.{IsFinding, text_of}
use Rattle.fmp_warnings.specs.declared.further.ToldFault.{ToldFault}
use Rattle.fmp_warnings.specs.declared.verdicts.TextsFault.{TextsFault}
use Rattle.fmp_warnings.specs.declared.verdicts.TextsVerdict.{TextsVerdict}
use Rattle.fmp_warnings.specs.declared.verdicts.TextsVerdict.TheVariants as verdict
use Rattle.fmp_warnings.specs.Further.{AreFurther, both_of}
use Rattle.fmp_warnings.specs.Verdicts.{IsFound}
use Rattle.fmp_server.specs.declared.diagnostics.Found.{Found}
use Rattle.fmp_server.specs.declared.diagnostics.Found.TheVariants as found
use Rattle.fmp_server.specs.declared.positions.TextRange.{TextRange}
use Rattle.fmp_server.specs.Positions.{IsLineStart, IsRange}

-- what is told of the first fault of two texts
pub record IsTold (t : Texts) (f : TextsFault) (told : ToldFault) : Type 0 where
  pub file : told.file ≡ f.file
  pub is_finding : IsFinding (text_of t f.file) f.position f.kind told.finding

-- what is told of two texts of which this is the first fault: that one, and those after it
abbrev pub AreFaults : Texts → TextsFault → List ToldFault → Type 0
AreFaults t f told =
    (first : ToldFault) × (more : List ToldFault) × IsTold t f first × AreFurther (both_of t) f more
    × (told ≡ first ∷ more)

-- of two texts with a fault their faults are found, of others their warnings
abbrev pub AreFindingsOf : Texts → TextsVerdict → Found → Type 0
AreFindingsOf t (verdict.Faulty f) (found.Faults told) = AreFaults t f told.items
AreFindingsOf t (verdict.Sound _) (found.Warnings _) = Unit {0}
AreFindingsOf _ _ _ = ⊥

abbrev pub AreFindings : Texts → Found → Type 0
AreFindings t found = (v : TextsVerdict) × IsFound t.cfg.now t.src.now v × AreFindingsOf t v found

-- What a finding marks: from its column up to that after it, in its line. Columns are counted in bytes, from 1.
pub record IsMarked (text : List ℕ) (f : FaultReport) (r : TextRange) : Type 0 where
  pub begin : ℕ
  pub start : IsLineStart text (f.line - 1) begin
  pub range : IsRange text (f.line - 1) (begin + (f.excerpt.column - 1)) (begin + (f.end - 1)) r
