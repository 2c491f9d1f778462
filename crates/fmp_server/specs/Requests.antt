-- What requests and notifications have as their parameters, and the answers to requests about the texts of a system.
use Rattle.std.specs.Prelude.{◌≡◌, ◌⊎◌, Bool, false, if◌then◌else◌, List, [], ◌∷◌, Option, Some, None, ℕ, bytes_eq}
use Rattle.std.specs.Prelude.{codes, option_and_then}
use Rattle.json.specs.Find.{as_array, as_str, get}
use Rattle.json.specs.Json.{Items, Json, boolean, item, no_items}
use Rattle.json.specs.Token.{null}
use Rattle.fmp_server.specs.declared.documents.Document.{Document}
use Rattle.fmp_server.specs.declared.documents.OpenTexts.{OpenTexts}
use Rattle.fmp_server.specs.declared.messages.Refusal.{Refusal}
use Rattle.fmp_server.specs.declared.messages.Refusal.TheVariants as refusal
use Rattle.fmp_server.specs.declared.messages.RequestId.{RequestId}
use Rattle.fmp_server.specs.declared.navigation.WantedPositions.{WantedPositions}
use Rattle.fmp_server.specs.declared.navigation.WantedPositions.TheVariants as wanted
use Rattle.fmp_server.specs.declared.positions.Position.{Position}
use Rattle.fmp_server.specs.declared.requests.Query.{Query}
use Rattle.fmp_server.specs.declared.requests.Query.TheVariants as query
use Rattle.fmp_server.specs.Hovers.{IsHover}
use Rattle.fmp_server.specs.Messages.{HasSymbols, HasWords, IsPositionOf, answer, in_document, in_params, refused}
use Rattle.fmp_server.specs.Navigation.{IsPositionsAnswer}
use Rattle.fmp_server.specs.Renaming.{IsRenameAnswer}

-- the text that a message opens a document with
abbrev pub opened_text : Json → Option (List ℕ)
opened_text m = option_and_then as_str (in_document (codes "text") m)

-- the last of the items of an array
abbrev pub last_item : Items → Option Json
last_item no_items = None
last_item (item j no_items) = Some j
last_item (item j js) = last_item js

-- the text of a change that is whole: one without a range
abbrev pub text_unless : (range : Option Json) → Json → Option (List ℕ)
text_unless None change = option_and_then as_str (get (codes "text") change)
text_unless (Some range) change = None

-- the text that a message changes a document to: that of its last change, if it is whole
abbrev pub changed_text : Json → Option (List ℕ)
changed_text m =
    option_and_then (λ change. text_unless (get (codes "range") change) change)
    (option_and_then last_item (option_and_then as_array (in_params (codes "contentChanges") m)))

-- the text with which a document is opened or changed by a notification of this method
abbrev pub text_by : (method : List ℕ) → Json → Option (List ℕ)
text_by method m =
    if bytes_eq method (codes "textDocument/didOpen") then opened_text m
    else (if bytes_eq method (codes "textDocument/didChange") then changed_text m else None)

-- what a method asks about a text
abbrev pub query_of : (method : List ℕ) → Option Query
query_of method =
    if bytes_eq method (codes "textDocument/documentSymbol") then Some query.Outline
    else (if bytes_eq method (codes "textDocument/hover") then Some query.Hover
    else (if bytes_eq method (codes "textDocument/completion") then Some query.Completion
    else (if bytes_eq method (codes "textDocument/definition") then Some query.Definition
    else (if bytes_eq method (codes "textDocument/references") then Some query.References
    else (if bytes_eq method (codes "textDocument/rename") then Some query.Rename else None)))))

-- the new name that a message asks for
abbrev pub new_name_in : Json → Option (List ℕ)
new_name_in m = option_and_then as_str (in_params (codes "newName") m)

-- `includeDeclaration` is true
abbrev pub is_true : Option Json → Bool
is_true (Some (boolean b)) = b
is_true _ = false

-- which positions a message asks for: those of declarations too, if it says so
abbrev pub wanted_in : Json → WantedPositions
wanted_in m =
    if is_true (option_and_then (get (codes "includeDeclaration")) (in_params (codes "context") m))
    then wanted.All else wanted.Uses

-- the request is refused for this reason
abbrev pub IsRefused : RequestId → Refusal → List ℕ → Type 0
IsRefused id r bytes = (sentence : List ℕ) × (bytes ≡ refused (Some id) r sentence)

-- the answer to what a message asks about a position of the texts of a system
abbrev pub IsAnswerAt : Query → OpenTexts → RequestId → Json → Position → List ℕ → Type 0
IsAnswerAt query.Outline o id m p bytes = HasSymbols id bytes
IsAnswerAt query.Hover o id m p bytes = IsHover o id p bytes
IsAnswerAt query.Completion o id m p bytes = HasWords id bytes
IsAnswerAt query.Definition o id m p bytes = IsPositionsAnswer o id p wanted.Declarations bytes
IsAnswerAt query.References o id m p bytes = IsPositionsAnswer o id p (wanted_in m) bytes
IsAnswerAt query.Rename o id m p bytes =
    ((name : List ℕ) × (new_name_in m ≡ Some name) × IsRenameAnswer o id p name bytes)
    ⊎ (new_name_in m ≡ None) × IsRefused id refusal.WrongParameters bytes

-- the answer to what a message asks that is about no position: it is refused, unless it needs none
abbrev pub IsAnswerWithoutPosition : Query → RequestId → List ℕ → Type 0
IsAnswerWithoutPosition query.Outline id bytes = HasSymbols id bytes
IsAnswerWithoutPosition _ id bytes = IsRefused id refusal.WrongParameters bytes

-- the same where the message may be about a position or not
abbrev pub IsAnswerFor : Query → OpenTexts → RequestId → Json → Option Position → List ℕ → Type 0
IsAnswerFor q o id m None bytes = IsAnswerWithoutPosition q id bytes
IsAnswerFor q o id m (Some p) bytes = IsAnswerAt q o id m p bytes

-- the answer to what a message asks about the texts of a system, where the one that is meant may not be open
abbrev pub IsAnswerOn : Query → OpenTexts → RequestId → Json → Option Document → List ℕ → Type 0
IsAnswerOn q o id m None bytes = bytes ≡ answer id (null ∷ [])
IsAnswerOn q o id m (Some d) bytes = (p : Option Position) × IsPositionOf m p × IsAnswerFor q o id m p bytes
