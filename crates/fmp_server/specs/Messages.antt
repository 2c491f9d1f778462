-- What stands in messages: those of JSON-RPC that come, and those that go.
use Rattle.std.specs.Prelude.{◌≡◌, ◌≢◌, ◌⊎◌, ℕ, ℤ, negsuc, List, [], ◌∷◌, ◌++◌, Option, Some, None, Err, Ok}
use Rattle.std.specs.Prelude.{MatchOption, codes, drop, false, flat_map, length, ok_or, option_and_then}
use Rattle.std.specs.Fmt.{signed_decimal}
use Rattle.std.specs.Int.{w64}
use Rattle.std.specs.Str.Parse.{ParsesSigned, ParsesUnsigned}
use Rattle.json.specs.Find.{as_number, as_str, get}
use Rattle.json.specs.Json.{Json}
use Rattle.json.specs.Print.{print}
use Rattle.json.specs.Token.{Token, begin_array, begin_object, boolean, end_array, end_object, key, null, number}
use Rattle.json.specs.Token.{string}
use Rattle.fmp_json.specs.Members.{list_begin, number_member, text_member}
use Rattle.fmp_server.specs.declared.messages.Message.{Message}
use Rattle.fmp_server.specs.declared.messages.Message.TheVariants as message
use Rattle.fmp_server.specs.declared.messages.Refusal.{Refusal}
use Rattle.fmp_server.specs.declared.messages.Refusal.TheVariants as refusal
use Rattle.fmp_server.specs.declared.messages.RequestId.{RequestId}
use Rattle.fmp_server.specs.declared.messages.RequestId.TheVariants as request
use Rattle.fmp_server.specs.declared.positions.Position.{Position}
use Rattle.fmp_server.specs.declared.positions.TextRange.{TextRange}

-- a member whose value is an object begins
abbrev pub member_begin : (name : List ℕ) → List Token
member_begin name = key name ∷ begin_object ∷ []

abbrev pub position : Position → List Token
position p =
    begin_object ∷ [] ++ number_member (codes "line") p.line ++ number_member (codes "character") p.character
    ++ end_object ∷ []

abbrev pub range : TextRange → List Token
range r =
    begin_object ∷ [] ++ key (codes "start") ∷ [] ++ position r.start ++ key (codes "end") ∷ [] ++ position r.end
    ++ end_object ∷ []

abbrev pub range_member : List ℕ → TextRange → List Token
range_member name r = key name ∷ [] ++ range r

abbrev pub location : List ℕ → TextRange → List Token
location uri r =
    begin_object ∷ [] ++ text_member (codes "uri") uri ++ range_member (codes "range") r ++ end_object ∷ []

abbrev pub edit : TextRange → List ℕ → List Token
edit r text =
    begin_object ∷ [] ++ range_member (codes "range") r ++ text_member (codes "newText") text ++ end_object ∷ []

-- a member with edits of a text: a name in place of what each of these ranges has
abbrev pub edits : (uri : List ℕ) → List TextRange → (name : List ℕ) → List Token
edits uri ranges name = key uri ∷ begin_array ∷ flat_map (λ r. edit r name) ranges ++ end_array ∷ []

-- ---- messages that come

-- a member of the parameters of a message, and of the document that they are about
abbrev pub in_params : (name : List ℕ) → Json → Option Json
in_params name m = option_and_then (get name) (get (codes "params") m)

abbrev pub in_document : (name : List ℕ) → Json → Option Json
in_document name m = option_and_then (get name) (in_params (codes "textDocument") m)

abbrev pub method_in : Json → Option (List ℕ)
method_in m = option_and_then as_str (get (codes "method") m)

abbrev pub uri_in : Json → Option (List ℕ)
uri_in m = option_and_then as_str (in_document (codes "uri") m)

-- the number that a value spells, if there is a value and it spells one
abbrev pub SpellsNumber : Option Json → Option ℕ → Type 0
SpellsNumber None r = r ≡ None
SpellsNumber (Some j) r = MatchOption (as_number j) (r ≡ None) (λ digits. ParsesUnsigned 64 10 digits (ok_or r digits))

abbrev pub position_by : (line character : Option ℕ) → Option Position
position_by (Some line) (Some character) = Some (record { line = line; character = character })
position_by _ _ = None

-- the position that a message is about, if it is about one
pub record IsPositionOf (m : Json) (p : Option Position) : Type 0 where
  pub line : Option ℕ
  pub character : Option ℕ
  pub line_is : SpellsNumber (option_and_then (get (codes "line")) (in_params (codes "position") m)) line
  pub character_is : SpellsNumber (option_and_then (get (codes "character")) (in_params (codes "position") m)) character
  pub position_is : p ≡ position_by line character

-- the value is this id: a text, or else a number
abbrev pub IsId : Json → RequestId → Type 0
IsId j (request.Text text) = as_str j ≡ Some text.now
IsId j (request.Number n) =
    (digits : List ℕ) × (as_str j ≡ None) × (as_number j ≡ Some digits) × ParsesSigned {E = List ℕ} w64 10 digits (Ok n)

-- the message has this id
abbrev pub HasId : Json → RequestId → Type 0
HasId m id = (j : Json) × (get (codes "id") m ≡ Some j) × IsId j id

abbrev pub HasNoId : Json → Type 0
HasNoId m = get (codes "id") m ≡ None

-- the value is no id
abbrev pub IsNoId : Json → Type 0
IsNoId j = (as_str j ≡ None) × MatchOption (as_number j) (Unit {0}) (λ digits. ParsesSigned w64 10 digits (Err digits))

-- the message has an id that is none
abbrev pub HasWrongId : Json → Type 0
HasWrongId m = (j : Json) × (get (codes "id") m ≡ Some j) × IsNoId j

-- the message has a result or an error, as an answer has
abbrev pub IsAnswer : Json → Type 0
IsAnswer m = (get (codes "result") m ≢ None) ⊎ (get (codes "error") m ≢ None)

-- neither a request nor a notification
abbrev pub IsNoCall : Json → Type 0
IsNoCall m = (method_in m ≡ None) ⊎ HasWrongId m

-- A request has an id and a method, a notification has a method and no id.
abbrev pub IsMessage : Json → Message → Type 0
IsMessage m (message.Request id method) = HasId m id × (method_in m ≡ Some method.now)
IsMessage m (message.Notification method) = HasNoId m × (method_in m ≡ Some method.now)
IsMessage m message.Answer = IsNoCall m × IsAnswer m
IsMessage m message.Invalid = IsNoCall m × (IsAnswer m → ⊥)

-- ---- messages that go

abbrev pub head : List Token
head = begin_object ∷ [] ++ text_member (codes "jsonrpc") (codes "2.0")

-- the id of a request, or null where it is not known
abbrev pub id_token : Option RequestId → Token
id_token None = null
id_token (Some (request.Number n)) = number (signed_decimal n)
id_token (Some (request.Text text)) = string text.now

abbrev pub answer_head : RequestId → List Token
answer_head id = head ++ key (codes "id") ∷ id_token (Some id) ∷ [] ++ key (codes "result") ∷ []

abbrev pub notification_head : (method : List ℕ) → List Token
notification_head method = head ++ text_member (codes "method") method ++ key (codes "params") ∷ []

-- a message that was begun, ended
abbrev pub ended : List Token → List ℕ
ended tokens = print (tokens ++ end_object ∷ [])

-- the answer to a request, with a value as its result
abbrev pub answer : RequestId → (value : List Token) → List ℕ
answer id value = ended (answer_head id ++ value)

-- the request is answered with some value
abbrev pub IsAnswered : RequestId → List ℕ → Type 0
IsAnswered id bytes = (value : List Token) × (bytes ≡ answer id value)

-- a list of symbols
abbrev pub symbol_list : (symbols : List Token) → List Token
symbol_list symbols = (begin_array ∷ [] ++ symbols) ++ end_array ∷ []

-- a complete list of words
abbrev pub word_list_begin : List Token
word_list_begin = begin_object ∷ key (codes "isIncomplete") ∷ boolean false ∷ list_begin (codes "items")

abbrev pub word_list : (words : List Token) → List Token
word_list words = ((word_list_begin ++ words) ++ end_array ∷ []) ++ end_object ∷ []

-- the request is answered with symbols; with words
abbrev pub HasSymbols : RequestId → List ℕ → Type 0
HasSymbols id bytes = (symbols : List Token) × (bytes ≡ answer id (symbol_list symbols))

abbrev pub HasWords : RequestId → List ℕ → Type 0
HasWords id bytes = (words : List Token) × (bytes ≡ answer id (word_list words))

-- the notification of a method, with a value as its parameters
abbrev pub notification : (method : List ℕ) → (value : List Token) → List ℕ
notification method value = ended (notification_head method ++ value)

-- the codes of the protocol
abbrev pub code : Refusal → ℤ
code refusal.NoJson = negsuc 32699
code refusal.NoRequest = negsuc 32599
code refusal.UnknownMethod = negsuc 32600
code refusal.WrongParameters = negsuc 32601
code refusal.NotInitialized = negsuc 32001
code refusal.Failed = negsuc 32802

-- the error with which a request is refused
abbrev pub error : Refusal → (sentence : List ℕ) → List Token
error r sentence =
    key (codes "error") ∷ begin_object ∷ key (codes "code") ∷ number (signed_decimal (code r)) ∷ []
    ++ text_member (codes "message") sentence ++ end_object ∷ []

abbrev pub refused : Option RequestId → Refusal → (sentence : List ℕ) → List ℕ
refused id r sentence = ended (head ++ key (codes "id") ∷ id_token id ∷ [] ++ error r sentence)

-- what is said, in Markdown
abbrev pub contents : (said : List ℕ) → List Token
contents said =
    member_begin (codes "contents") ++ text_member (codes "kind") (codes "markdown")
    ++ text_member (codes "value") said ++ end_object ∷ []

-- what is said of a range
abbrev pub hover : TextRange → (said : List ℕ) → List Token
hover r said = begin_object ∷ [] ++ contents said ++ range_member (codes "range") r ++ end_object ∷ []

-- something was written after what stood
abbrev pub Adds : {A : Type 0} → (old new : List A) → Type 0
Adds old new = new ≡ old ++ drop (length old) new
