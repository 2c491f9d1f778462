-- A finding as an object of JSON.
use Rattle.std.specs.Prelude.{ℕ, List, ◌++◌, codes}
use Rattle.std.specs.Str.Lossy.{utf8_lossy}
use Rattle.json.specs.Token.{Token}
use Rattle.fmp_json.specs.Members.{number_member, object_line, text_member}
use Rattle.fmp_diagnosis.specs.declared.reports.FaultReport.{FaultReport}

-- where a finding stands, under the name of its file
abbrev pub position_members : (name : List ℕ) → FaultReport → List Token
position_members name f =
    text_member (codes "file") name
    ++ number_member (codes "line") f.line
    ++ number_member (codes "column") f.excerpt.column
    ++ number_member (codes "end") f.end

-- all members of a finding of this code and with this sentence
abbrev pub members : (name : List ℕ) → FaultReport → (code sentence : List ℕ) → List Token
members name f code sentence =
    position_members name f ++ text_member (codes "code") code ++ text_member (codes "sentence") sentence

-- a finding of the text of a file of this name, as an object in one line
abbrev pub record_text : (name : List ℕ) → FaultReport → List ℕ
record_text name f = object_line (members name f (f.code.now ++ f.refusal.now) (utf8_lossy f.sentence.items))
