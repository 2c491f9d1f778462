-- The positions of a name that an editor asks for, and the name at a position.
use Rattle.std.specs.Prelude.{◌≡◌, ◌⊎◌, ℕ, Bool, true, not, List, [], ◌∷◌, ◌++◌, Option, Some, None, filter, flat_map}
use Rattle.std.specs.Prelude.{codes, string_bytes}
use Rattle.json.specs.Token.{Token, begin_array, begin_object, end_array, end_object, null}
use Rattle.fmp_lex.specs.declared.fault.TextFile.{TextFile}
use Rattle.fmp_lex.specs.declared.fault.TextFile.TheVariants as file
use Rattle.fmp_lex.specs.declared.position.TokenPosition.{TokenPosition}
use Rattle.fmp_lex.specs.Reading.{kinds_of}
use Rattle.fmp_server.specs.declared.documents.CutTexts.{CutTexts}
use Rattle.fmp_server.specs.declared.documents.Document.{Document}
use Rattle.fmp_server.specs.declared.documents.OpenTexts.{OpenTexts}
use Rattle.fmp_server.specs.declared.messages.RequestId.{RequestId}
use Rattle.fmp_server.specs.declared.navigation.WantedPositions.{WantedPositions}
use Rattle.fmp_server.specs.declared.navigation.WantedPositions.TheVariants as wanted
use Rattle.fmp_server.specs.declared.positions.Position.{Position}
use Rattle.fmp_server.specs.declared.positions.TextRange.{TextRange}
use Rattle.fmp_server.specs.declared.roles.Named.{Named}
use Rattle.fmp_server.specs.declared.roles.NamePosition.{NamePosition}
use Rattle.fmp_server.specs.Documents.{AreCut, bytes_of, text_in, tokens_of}
use Rattle.fmp_server.specs.Messages.{answer, edits, location, member_begin}
use Rattle.fmp_server.specs.Positions.{AreRanges, IsOffset}
use Rattle.fmp_server.specs.Roles.{IsLastWordAt, named_at, positions_of, uses}

-- a position is asked for
abbrev pub wants : WantedPositions → (declares : Bool) → Bool
wants wanted.Declarations d = d
wants wanted.Uses d = not d
wants wanted.All d = true

-- those of these positions that are asked for
abbrev pub wanted_of : WantedPositions → List NamePosition → List TokenPosition
wanted_of w ps = positions_of (filter (λ (p : NamePosition). wants w p.declares) ps)

-- these positions of a text, each as a location
abbrev pub AreLocations : (uri text : List ℕ) → List TokenPosition → List Token → Type 0
AreLocations uri text ps out =
    (ranges : List TextRange) × AreRanges text ps ranges × (out ≡ flat_map (λ r. location uri r) ranges)

-- those positions of a name in one text that are asked for, if the text is open
abbrev pub AreLocationsIn : CutTexts → TextFile → Named → WantedPositions → Option Document → List Token → Type 0
AreLocationsIn c f n w None out = out ≡ []
AreLocationsIn c f n w (Some d) out =
    AreLocations (string_bytes d.uri) (string_bytes d.text) (wanted_of w (uses n f (tokens_of c f))) out

-- those of both texts
pub record AreAllLocations (c : CutTexts) (n : Named) (w : WantedPositions) (out : List Token) : Type 0 where
  pub cfg : List Token
  pub src : List Token
  pub cfg_are : AreLocationsIn c file.Configuration n w (text_in c.open file.Configuration) cfg
  pub src_are : AreLocationsIn c file.Source n w (text_in c.open file.Source) src
  pub all : out ≡ begin_array ∷ [] ++ cfg ++ src ++ end_array ∷ []

-- the name at a position of the text that is meant stands for this
pub record IsNamed (c : CutTexts) (p : Position) (n : Named) : Type 0 where
  pub offset : ℕ
  pub at : ℕ
  pub offset_is : IsOffset (bytes_of c.open c.open.file) p offset
  pub word : IsLastWordAt (tokens_of c c.open.file) offset at
  pub named : named_at c.open.file (kinds_of (tokens_of c c.open.file)) at ≡ Some n

-- no word stands at a position of the text that is meant, or one that is no name
pub record HasNoName (c : CutTexts) (p : Position) : Type 0 where
  pub offset : ℕ
  pub offset_is : IsOffset (bytes_of c.open c.open.file) p offset
  pub none : (at : ℕ) → IsLastWordAt (tokens_of c c.open.file) offset at
      → named_at c.open.file (kinds_of (tokens_of c c.open.file)) at ≡ None

-- The answer with the positions of the name at a position that are asked for; or null where there is no name.
abbrev pub IsPositionsAnswer : OpenTexts → RequestId → Position → WantedPositions → List ℕ → Type 0
IsPositionsAnswer o id p w bytes =
    (c : CutTexts) × AreCut o c
    × (((n : Named) × (out : List Token) × IsNamed c p n × AreAllLocations c n w out × (bytes ≡ answer id out))
    ⊎ (HasNoName c p × (bytes ≡ answer id (null ∷ []))))

-- the edits of one text, if it is open: a name in place of another, at each of its positions
abbrev pub AreEditsIn : CutTexts → TextFile → Named → (name : List ℕ) → Option Document → List Token → Type 0
AreEditsIn c f n name None out = out ≡ []
AreEditsIn c f n name (Some d) out =
    (ranges : List TextRange)
    × AreRanges (string_bytes d.text) (positions_of (uses n f (tokens_of c f))) ranges
    × (out ≡ edits (string_bytes d.uri) ranges name)

-- those of one text, and then those of the other
pub record AreBothEdits (c : CutTexts) (n : Named) (name : List ℕ) (out : List Token) : Type 0 where
  pub cfg : List Token
  pub src : List Token
  pub cfg_are : AreEditsIn c file.Configuration n name (text_in c.open file.Configuration) cfg
  pub src_are : AreEditsIn c file.Source n name (text_in c.open file.Source) src
  pub all : out ≡ cfg ++ src

-- the same as the changes of a workspace
pub record AreAllEdits (c : CutTexts) (n : Named) (name : List ℕ) (out : List Token) : Type 0 where
  pub both : List Token
  pub both_are : AreBothEdits c n name both
  pub all : out ≡ ((begin_object ∷ member_begin (codes "changes") ++ both) ++ end_object ∷ []) ++ end_object ∷ []
