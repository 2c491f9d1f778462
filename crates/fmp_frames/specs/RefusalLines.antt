-- Lines that tell calls that are refused.
use Rattle.std.specs.Prelude.{ℕ, List, [], ◌∷◌, ◌++◌, Option, Some, None, codes, decimal}
use Rattle.std.specs.List.{flat_map}
use Rattle.fmp_base.specs.declared.codes.Er.{Er}
use Rattle.fmp_base.specs.Codes.{code_name}
use Rattle.fmp_base.specs.Services.{service_name}
use Rattle.fmp_json.specs.Members.{list_begin, list_end, number_member, object_line, text_member}
use Rattle.fmp_frames.specs.declared.call_positions.CallPosition.{CallPosition}
use Rattle.fmp_frames.specs.declared.positioned_lines.LineForm.{LineForm}
use Rattle.fmp_frames.specs.declared.positioned_lines.LineForm.TheVariants as form
use Rattle.fmp_frames.specs.declared.refusals.Refusal.{Refusal}
use Rattle.fmp_frames.specs.declared.refusals.Refusal.TheVariants as refusal
use Rattle.fmp_frames.specs.declared.sites.CallSite.{CallSite}
use Rattle.fmp_frames.specs.Refusals.{Refused}
use Rattle.json.specs.Token.{Token, string}

-- how often a call was refused
abbrev pub refusal_words : Refusal → List ℕ
refusal_words refusal.Always = codes " is always refused:"
refusal_words refusal.Sometimes = codes " is sometimes refused:"

-- where a call stands: in this file, or in the code
abbrev pub site_text : (file : List ℕ) → Option CallPosition → CallSite → List ℕ
site_text file (Some p) s = file ++ (codes ":" ++ (decimal p.line ++ (codes ":" ++ decimal p.column)))
site_text file None s = codes "body " ++ (decimal s.body ++ (codes " at " ++ decimal s.pc))

abbrev pub name_text : Er → List ℕ
name_text c = codes " " ++ code_name c

-- a line for readers
unfoldable pub refused_text : (file : List ℕ) → Option CallPosition → Refused → List ℕ
refused_text file position r =
    site_text file position r.site
    ++ (codes ": "
    ++ (service_name r.service
    ++ (refusal_words r.refusal ++ (flat_map (λ c. name_text c) r.answers ++ codes "\n"))))

-- where a call stands, in its text or in the code, as members of an object
abbrev pub site_members : Option CallPosition → CallSite → List Token
site_members (Some p) s = number_member (codes "line") p.line ++ number_member (codes "column") p.column
site_members None s = number_member (codes "body") s.body ++ number_member (codes "place") s.pc

abbrev pub refusal_word : Refusal → List ℕ
refusal_word refusal.Always = codes "always"
refusal_word refusal.Sometimes = codes "sometimes"

abbrev pub name_tokens : List Er → List Token
name_tokens [] = []
name_tokens (c ∷ cs) = string (code_name c) ∷ name_tokens cs

abbrev pub code_members : List Er → List Token
code_members cs = list_begin (codes "answers") ++ (name_tokens cs ++ list_end)

-- an object of JSON in a line
abbrev pub refused_record : Option CallPosition → Refused → List ℕ
refused_record position r =
    object_line
    (site_members position r.site
    ++ (text_member (codes "call") (service_name r.service)
    ++ (text_member (codes "refused") (refusal_word r.refusal) ++ code_members r.answers)))

-- a line of this form
abbrev pub refused_line : LineForm → (file : List ℕ) → Option CallPosition → Refused → List ℕ
refused_line form.Text file position r = refused_text file position r
refused_line form.Record file position r = refused_record position r
