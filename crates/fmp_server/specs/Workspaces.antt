-- What the server answers to messages, and what it knows after them: the texts that are open, and how far it has come.
use Rattle.std.specs.Prelude.{◌≡◌, ◌⊎◌, ℕ, Bool, true, false, if◌then◌else◌, List, [], ◌∷◌, ◌++◌, Option, Some, None}
use Rattle.std.specs.Prelude.{bytes_eq, codes}
use Rattle.std.specs.Str.{IsUtf8}
use Rattle.json.specs.Json.{Json, document}
use Rattle.json.specs.Token.{Token, null}
use Rattle.fmp_lex.specs.declared.fault.TextFile.{TextFile}
use Rattle.fmp_server.specs.declared.documents.Document.{Document}
use Rattle.fmp_server.specs.declared.documents.OpenTexts.{OpenTexts}
use Rattle.fmp_server.specs.declared.messages.Message.{Message}
use Rattle.fmp_server.specs.declared.messages.Message.TheVariants as message
use Rattle.fmp_server.specs.declared.messages.Refusal.TheVariants as refusal
use Rattle.fmp_server.specs.declared.messages.RequestId.{RequestId}
use Rattle.fmp_server.specs.declared.requests.Query.{Query}
use Rattle.fmp_server.specs.declared.workspace.Stage.{Stage}
use Rattle.fmp_server.specs.declared.workspace.Stage.TheVariants as stage
use Rattle.fmp_server.specs.declared.workspace.Workspace.{Workspace}
use Rattle.fmp_server.specs.Documents.{AreTextsOf, IsOpened, file_of, text_in, without}
use Rattle.fmp_server.specs.Messages.{IsAnswered, IsMessage, answer, notification, refused, uri_in}
use Rattle.fmp_server.specs.Requests.{IsAnswerOn, IsRefused, query_of, text_by}

-- the status of the program, once `exit` has come
abbrev pub status_of : Stage → Option ℕ
status_of (stage.Ended status) = Some status
status_of _ = None

-- the answer to what a message asks about the document of a URI: null if that is no text of a system
abbrev pub IsAnswerAbout : Query → List Document → RequestId → Json → (uri : List ℕ) → Option TextFile → List ℕ → Type 0
IsAnswerAbout q ds id m uri None bytes = bytes ≡ answer id (null ∷ [])
IsAnswerAbout q ds id m uri (Some file) bytes =
    (o : OpenTexts) × AreTextsOf uri ds o × IsAnswerOn q o id m (text_in o o.file) bytes

-- the answer to a request about a document: an unknown method, or one without a URI, is refused
abbrev pub IsQueryAnswer : List Document → RequestId → Option Query → Json → Option (List ℕ) → List ℕ → Type 0
IsQueryAnswer ds id None m uri bytes = IsRefused id refusal.UnknownMethod bytes
IsQueryAnswer ds id (Some q) m None bytes = IsRefused id refusal.WrongParameters bytes
IsQueryAnswer ds id (Some q) m (Some uri) bytes = IsAnswerAbout q ds id m uri (file_of uri) bytes

-- how far the server has come after a request
abbrev pub stage_after : Stage → (method : List ℕ) → Stage
stage_after stage.Fresh method = if bytes_eq method (codes "initialize") then stage.Running else stage.Fresh
stage_after stage.Running method = if bytes_eq method (codes "shutdown") then stage.ShutDown else stage.Running
stage_after s method = s

-- the answer to a request before `initialize` has come, which may be that
abbrev pub IsFirstReply : (initializes : Bool) → RequestId → List ℕ → Type 0
IsFirstReply true id bytes = IsAnswered id bytes
IsFirstReply false id bytes = IsRefused id refusal.NotInitialized bytes

-- the answer to a request between `initialize` and `shutdown`, which may be one of them
abbrev pub IsRunningReply : (shuts_down initializes : Bool) → List Document → RequestId → (method : List ℕ) → Json
    → List ℕ → Type 0
IsRunningReply true initializes ds id method m bytes = bytes ≡ answer id (null ∷ [])
IsRunningReply false true ds id method m bytes = IsRefused id refusal.NoRequest bytes
IsRunningReply false false ds id method m bytes = IsQueryAnswer ds id (query_of method) m (uri_in m) bytes

-- the answer to a request; after `shutdown` each is refused
abbrev pub IsReply : Stage → List Document → RequestId → (method : List ℕ) → Json → List ℕ → Type 0
IsReply stage.Fresh ds id method m bytes = IsFirstReply (bytes_eq method (codes "initialize")) id bytes
IsReply stage.Running ds id method m bytes =
    IsRunningReply (bytes_eq method (codes "shutdown")) (bytes_eq method (codes "initialize")) ds id method m bytes
IsReply stage.ShutDown ds id method m bytes = IsRefused id refusal.NoRequest bytes
IsReply (stage.Ended status) ds id method m bytes = IsRefused id refusal.NoRequest bytes

-- these messages are notifications of what is found in texts
abbrev pub AreNotifications : List (List ℕ) → Type 0
AreNotifications [] = Unit {0}
AreNotifications (x ∷ xs) =
    ((value : List Token) × (x ≡ notification (codes "textDocument/publishDiagnostics") value)) × AreNotifications xs

-- messages were written after those that stood: notifications of what is found in texts
pub record Notifies (old new : List (List ℕ)) : Type 0 where
  pub more : List (List ℕ)
  pub are : AreNotifications more
  pub is : new ≡ old ++ more

-- the texts that are open after a notification about a document
abbrev pub IsEdited : (closes : Bool) → (text : Option (List ℕ)) → (uri : List ℕ) → (old new : List Document) → Type 0
IsEdited true text uri old new = new ≡ without uri old
IsEdited false (Some text) uri old new = IsOpened uri text old new
IsEdited false None uri old new = new ≡ old

-- A notification about a document: `didOpen` and `didChange` give it a text, `didClose` closes it. Those of other
-- methods, or without the URI of a document, do nothing.
abbrev pub IsDocumentTaken : (method : List ℕ) → Json → Option (List ℕ) → (old new : List Document) → Type 0
IsDocumentTaken method m None old new = new ≡ old
IsDocumentTaken method m (Some uri) old new =
    IsEdited (bytes_eq method (codes "textDocument/didClose")) (text_by method m) uri old new

-- the status of the program if `exit` comes now
abbrev pub exit_status : Stage → ℕ
exit_status stage.ShutDown = 0
exit_status _ = 1

-- a notification other than `exit`: documents change only between `initialize` and `shutdown`
abbrev pub IsNoticeTaken : Stage → (method : List ℕ) → Json → (old new : List Document) → Type 0
IsNoticeTaken stage.Running method m old new = IsDocumentTaken method m (uri_in m) old new
IsNoticeTaken _ method m old new = new ≡ old

-- what is known after a notification, which may be `exit`
abbrev pub IsNotified : (exits : Bool) → Stage → (method : List ℕ) → Json → (old new : List Document) → Stage → Type 0
IsNotified true s method m old new after = (new ≡ old) × (after ≡ stage.Ended (exit_status s))
IsNotified false s method m old new after = IsNoticeTaken s method m old new × (after ≡ s)

-- A message is taken, and these answer it: a request is answered once, by its id; what is no message is refused.
abbrev pub IsTaken : Message → Json → (old : Workspace) → Workspace → (answers : List (List ℕ)) → Type 0
IsTaken (message.Request id method) m old new answers =
    (bytes : List ℕ) × (answers ≡ bytes ∷ []) × IsReply old.stage old.documents.list.items id method.now m bytes
    × (new.stage ≡ stage_after old.stage method.now) × (new.documents.list.items ≡ old.documents.list.items)
IsTaken (message.Notification method) m old new answers =
    AreNotifications answers
    × IsNotified (bytes_eq method.now (codes "exit")) old.stage method.now m old.documents.list.items
    new.documents.list.items new.stage
IsTaken message.Answer m old new answers = (answers ≡ []) × (new ≡ old)
IsTaken message.Invalid m old new answers =
    (new ≡ old) × ((sentence : List ℕ) × (answers ≡ refused None refusal.NoRequest sentence ∷ []))

-- bytes are taken as a message: what is no JSON is refused
abbrev pub IsRead : (bytes : List ℕ) → (old new : Workspace) → (answers : List (List ℕ)) → Type 0
IsRead bytes old new answers =
    ((m : Json) × (message : Message) × (document bytes ≡ Some m) × IsMessage m message
    × IsTaken message m old new answers)
    ⊎ ((IsUtf8 bytes → document bytes ≡ None) × (new ≡ old)
    × ((sentence : List ℕ) × (answers ≡ refused None refusal.NoJson sentence ∷ [])))

-- after `exit` nothing answers
abbrev pub IsStep : (bytes : List ℕ) → Stage → (old new : Workspace) → (answers : List (List ℕ)) → Type 0
IsStep bytes (stage.Ended status) old new answers = (new ≡ old) × (answers ≡ [])
IsStep bytes _ old new answers = IsRead bytes old new answers

-- messages are taken, one after the other
abbrev pub AreTaken : List (List ℕ) → (old new : Workspace) → (answers : List (List ℕ)) → Type 0
AreTaken [] old new answers = (new ≡ old) × (answers ≡ [])
AreTaken (x ∷ xs) old new answers =
    (between : Workspace) × (first : List (List ℕ)) × (rest : List (List ℕ))
    × IsStep x old.stage old between first × AreTaken xs between new rest × (answers ≡ first ++ rest)
