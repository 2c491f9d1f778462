-- Members of objects of JSON: where calls stand, and lists of texts.
use Rattle.std.specs.Prelude.{ℕ, List, [], ◌++◌, Option, Some, None, codes, map}
use Rattle.fmp_frames.specs.CallPositions.{position_of}
use Rattle.fmp_frames.specs.declared.call_positions.CallPosition.{CallPosition}
use Rattle.fmp_json.specs.Members.{number_member}
use Rattle.fmp_question.specs.declared.site.CallSite.{CallSite}
use Rattle.fmp_searching.specs.Sources.{SourceTables}
use Rattle.fmp_searching.specs.declared.records.RecordPosition.{RecordPosition}
use Rattle.json.specs.Token.{Token, string}

-- a member whose value is a number, if there is one
abbrev pub number_or_none : (name : List ℕ) → Option ℕ → List Token
number_or_none name None = []
number_or_none name (Some n) = number_member name n

-- where a call stands in the text of the bodies
abbrev pub position_members : Option RecordPosition → List Token
position_members None = []
position_members (Some p) = number_or_none (codes "line") p.line ++ number_or_none (codes "column") p.column

-- texts as strings
abbrev pub string_tokens : List (List ℕ) → List Token
string_tokens texts = map (λ text. string text) texts

-- where a call stands, as far as that is known
abbrev pub known_position : Option CallPosition → RecordPosition
known_position None = record { line = None; column = None }
known_position (Some p) = record { line = Some p.line; column = Some p.column }

abbrev pub call_position : SourceTables → CallSite → RecordPosition
call_position s site = known_position (position_of s.claim.image.code s.positions site.body site.pc)
