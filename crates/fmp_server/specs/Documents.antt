-- The texts that are open in an editor, and which of them belong together.
use Rattle.std.specs.Prelude.{◌≡◌, ℕ, ◌-◌, ◌&&◌, Bool, false, not, if◌then◌else◌, List, [], ◌∷◌, ◌++◌, codes}
use Rattle.std.specs.Prelude.{filter, find}
use Rattle.std.specs.Prelude.{Option, Some, None, length, nat_eq, option_map, string_bytes, take}
use Rattle.std.specs.List.{ends_with}
use Rattle.std.specs.Str.{bytes_eq}
use Rattle.fmp_diagnosis.specs.Culprits.{HasTokens}
use Rattle.fmp_lex.specs.declared.fault.TextFile.{TextFile}
use Rattle.fmp_lex.specs.declared.fault.TextFile.TheVariants as file
use Rattle.fmp_lex.specs.declared.token.Token.{Token}
use Rattle.fmp_server.specs.declared.documents.CutTexts.{CutTexts}
use Rattle.fmp_server.specs.declared.documents.Document.{Document}
use Rattle.fmp_server.specs.declared.documents.OpenTexts.{OpenTexts}
use Rattle.fmp_server.specs.Roles.{same_file}

-- the document is that of a URI
abbrev pub is_of : (uri : List ℕ) → Document → Bool
is_of uri d = bytes_eq (string_bytes d.uri) uri

-- the document has this URI and this text
pub record IsDocument (uri text : List ℕ) (d : Document) : Type 0 where
  pub uri_is : string_bytes d.uri ≡ uri
  pub text_is : string_bytes d.text ≡ text

-- all but that of a URI
abbrev pub without : (uri : List ℕ) → List Document → List Document
without uri ds = filter (λ d. not (is_of uri d)) ds

-- a document is opened, or its text is changed: it is the only one of its URI
abbrev pub IsOpened : (uri text : List ℕ) → (old new : List Document) → Type 0
IsOpened uri text old new = (d : Document) × IsDocument uri text d × (new ≡ without uri old ++ d ∷ [])

-- which text of a system a file has, by the end of its URI
abbrev pub file_of : (uri : List ℕ) → Option TextFile
file_of uri =
    if ends_with nat_eq uri (codes ".cfg") then Some file.Configuration
    else (if ends_with nat_eq uri (codes ".src") then Some file.Source else None)

-- a URI without that end, which has four bytes: both texts of a system have the same
abbrev pub stem_of : (uri : List ℕ) → List ℕ
stem_of uri = take (length uri - 4) uri

abbrev pub is_file : Option TextFile → TextFile → Bool
is_file None f = false
is_file (Some g) f = same_file g f

-- the document is this text of the system of a URI
abbrev pub is_text_of : (uri : List ℕ) → TextFile → Document → Bool
is_text_of uri f d =
    is_file (file_of (string_bytes d.uri)) f && bytes_eq (stem_of (string_bytes d.uri)) (stem_of uri)

-- these are the texts of the system of a URI, as far as they are among the documents
pub record AreTextsOf (uri : List ℕ) (ds : List Document) (o : OpenTexts) : Type 0 where
  pub file_is : file_of uri ≡ Some o.file
  pub cfg_is : option_map (λ d. d.now) o.cfg ≡ find (is_text_of uri file.Configuration) ds
  pub src_is : option_map (λ d. d.now) o.src ≡ find (is_text_of uri file.Source) ds

abbrev pub text_in : OpenTexts → TextFile → Option Document
text_in o file.Configuration = option_map (λ d. d.now) o.cfg
text_in o file.Source = option_map (λ d. d.now) o.src

abbrev pub text_or_none : Option Document → List ℕ
text_or_none None = []
text_or_none (Some d) = string_bytes d.text

-- the bytes of one of the texts; none if it is not open
abbrev pub bytes_of : OpenTexts → TextFile → List ℕ
bytes_of o f = text_or_none (text_in o f)

abbrev pub tokens_of : CutTexts → TextFile → List Token
tokens_of c file.Configuration = c.cfg.tokens
tokens_of c file.Source = c.src.tokens

-- the texts, cut into their tokens
pub record AreCut (o : OpenTexts) (c : CutTexts) : Type 0 where
  pub open_is : c.open ≡ o
  pub tokens_are : (f : TextFile) → HasTokens (bytes_of o f) (tokens_of c f)
