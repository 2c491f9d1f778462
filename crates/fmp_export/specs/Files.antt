-- The C of a text and its configuration.
use Rattle.std.specs.Prelude.{◌≡◌, ℕ, ◌+◌, List, [], ◌∷◌, ◌++◌, codes, decimal, map, Bool, false, Result, Ok, Err}
use Rattle.fmp_base.specs.declared.names.Name.{Name}
use Rattle.fmp_base.specs.Systems.{SystemTables}
use Rattle.fmp_lex.specs.declared.fault.BuildFault.{BuildFault}
use Rattle.fmp_lex.specs.declared.token.Token.{Token}
use Rattle.fmp_lex.specs.Faults.{Spells}
use Rattle.fmp_tasklang.specs.Grammar.{Bodies}
use Rattle.fmp_tasklang.specs.Reading.{IsRead}
use Rattle.fmp_tasklang.specs.Trees.{BodyTree}
use Rattle.fmp_export.specs.declared.files.ExportedText.{ExportedText}
use Rattle.fmp_export.specs.declared.files.TheConstants.{HEADER_START, MAIN_START, MAIN_END}
use Rattle.fmp_export.specs.Bodies.{c_commented_bodies, c_prototypes, c_rows}
use Rattle.fmp_export.specs.Sources.{SourceText, head_of}
use Rattle.fmp_export.specs.Words.{c_name}

-- an object by its number
unfoldable pub c_object : (number : ℕ) → Name → List ℕ
c_object number name = codes "    " ++ (c_name name ++ (codes " = " ++ (decimal number ++ codes ",\n")))

-- the objects of a table from a number on
abbrev pub c_objects : (number : ℕ) → List Name → List ℕ
c_objects number [] = []
c_objects number (name ∷ names) = c_object number name ++ c_objects (number + 1) names

-- the objects of a table, if it has any
abbrev pub c_kind : (title : List ℕ) → List Name → List ℕ
c_kind title [] = []
c_kind title (name ∷ names) =
    codes "    /* " ++ (title ++ (codes " */\n" ++ c_objects 1 (name ∷ names)))

unfoldable pub c_kinds : SystemTables → List ℕ
c_kinds s =
    c_kind (codes "Tasks.") (map (λ t. t.name) s.tasks)
    ++ (c_kind (codes "Semaphores.") (map (λ t. t.name) s.semaphores)
    ++ (c_kind (codes "Eventflags.") (map (λ t. t.name) s.flags)
    ++ (c_kind (codes "Data queues.") (map (λ t. t.name) s.data_queues)
    ++ (c_kind (codes "Mailboxes.") (map (λ t. t.name) s.mailboxes)
    ++ (c_kind (codes "Messages.") (map (λ t. t.name) s.messages)
    ++ (c_kind (codes "Shared words.") (map (λ t. t.name) s.shared_words)
    ++ (c_kind (codes "Spin locks.") (map (λ t. t.name) s.spin_locks)
    ++ c_kind (codes "Cyclic handlers.") (map (λ t. t.name) s.cyclics))))))))

-- an enumeration of this, if there is something
abbrev pub c_enumeration : List ℕ → List ℕ
c_enumeration [] = []
c_enumeration (b ∷ bs) = codes "enum {\n" ++ ((b ∷ bs) ++ codes "};\n\n")

-- the header: the numbers of the objects, and the prototype of each body's function
unfoldable pub c_header : SystemTables → List BodyTree → List ℕ
c_header s bodies =
    HEADER_START.now ++ (c_enumeration (c_kinds s) ++ (c_prototypes bodies ++ codes "\n#endif\n"))

-- a function for each body, and all comments
unfoldable pub c_file : SourceText → List BodyTree → List ℕ
c_file s bodies = codes "#include \"bodies.h\"\n#include \"task.h\"\n" ++ c_commented_bodies s (head_of s) bodies

-- the program that runs the bodies
unfoldable pub c_main : List BodyTree → List ℕ
c_main bodies = MAIN_START.now ++ (c_rows bodies ++ MAIN_END.now)

-- the files of these bodies, which these tokens of the text spell, with its lines for a debugger or without
pub record AreFiles
    (s : SystemTables) (source : SourceText) (bodies : List BodyTree) (e : ExportedText) : Type 0 where
  pub header : e.header.items ≡ c_header s bodies
  pub file : e.bodies.items ≡ c_file source bodies
  pub main : e.main.items ≡ c_main bodies

-- the C of the bodies that the text spells, or the fault of a text that spells none
abbrev pub IsExportedWith : (lines : Bool) → SystemTables → List ℕ → Result ExportedText BuildFault → Type 0
IsExportedWith lines s text (Ok e) =
    (ts : List Token) × (bodies : List BodyTree) × Spells Bodies text ts bodies
    × AreFiles s (record { text = text; tokens = ts; lines = lines }) bodies e
IsExportedWith lines s text (Err f) = IsRead text (Err f)

-- the same without the lines of the text for a debugger
abbrev pub IsExported : SystemTables → List ℕ → Result ExportedText BuildFault → Type 0
IsExported s text r = IsExportedWith false s text r
