-- The header, and what stands before and after the bodies in C.
use Rattle.std.specs.Prelude.{ℕ, ◌+◌, List, [], ◌∷◌, ◌++◌, codes, length, map}
use Rattle.std.specs.Fmt.{signed_decimal}
use Rattle.fmp_base.specs.declared.names.Name.{Name}
use Rattle.fmp_base.specs.declared.systems.InterruptConfig.{InterruptConfig}
use Rattle.fmp_base.specs.declared.systems.MessageConfig.{MessageConfig}
use Rattle.fmp_base.specs.declared.systems.SharedWordConfig.{SharedWordConfig}
use Rattle.fmp_base.specs.Systems.{SystemTables}
use Rattle.fmp_tasklang.specs.Trees.{BodyTree}
use Rattle.fmp_export.specs.Bodies.{c_bodies, c_prototypes}
use Rattle.fmp_export.specs.Files.{c_enumeration, c_kind}
use Rattle.fmp_export.specs.Words.{c_name}
use Rattle.fmp_toppers.specs.declared.heads.TheConstants.{BODIES_HEAD, HEADER_HEAD, INTERRUPTS_HEAD}
use Rattle.fmp_toppers.specs.declared.target.Target.{Target}
use Rattle.fmp_toppers.specs.declared.target.Target.TheVariants as target
use Rattle.fmp_toppers.specs.Lines.{entry_text, lines, numbered}

-- the number of the generation of a kernel
abbrev pub generation : Target → ℕ
generation target.Fmp1 = 1
generation target.Fmp3 = 3

-- what `fmp_toppers.h` has to know
unfoldable pub definitions : Target → SystemTables → List ℕ
definitions k s =
    numbered (codes "#define FMP_GENERATION ") (generation k)
    ++ (numbered (codes "\n#define FMP_PROCESSORS ") s.processors
    ++ (numbered (codes "\n#define FMP_WORDS ") (length s.shared_words)
    ++ (numbered (codes "\n#define FMP_MESSAGES ") (length s.messages)
    ++ codes "\n#include \"fmp_toppers.h\"\n\n")))

-- a macro of a number
unfoldable pub definition : List ℕ → (number value : ℕ) → List ℕ
definition word number value = numbered word number ++ (numbered (codes " ") value ++ codes "\n")

-- an interrupt for the target: its number here stands for the numbers that are filled in
unfoldable pub interrupt_numbers : InterruptConfig → List ℕ
interrupt_numbers i =
    definition (codes "#define FMP_INTNO_") i.number i.number
    ++ (definition (codes "#define FMP_INHNO_") i.number i.number
    ++ (numbered (codes "#define FMP_INTPRI_") i.number ++ codes " (-1)\n"))

unfoldable pub filled_interrupt_table : List InterruptConfig → List ℕ
filled_interrupt_table is = INTERRUPTS_HEAD.now ++ (lines interrupt_numbers is ++ codes "\n")

abbrev pub interrupt_table : List InterruptConfig → List ℕ
interrupt_table [] = []
interrupt_table (i ∷ is) = filled_interrupt_table (i ∷ is)

-- the function of an interrupt handler: its heading, and the whole
unfoldable pub interrupt_heading : ℕ → List ℕ
interrupt_heading number = numbered (codes "void fmp_interrupt_") number

unfoldable pub interrupt_prototype : InterruptConfig → List ℕ
interrupt_prototype i = interrupt_heading i.number ++ codes "(void);\n"

unfoldable pub interrupt_function : (bodies : List BodyTree) → InterruptConfig → List ℕ
interrupt_function bodies i =
    codes "\n"
    ++ (interrupt_heading i.number ++ (codes "(void)\n{\n    " ++ (entry_text bodies i.entry ++ codes "(0);\n}\n")))

-- the numbers of what has no static API in TOPPERS
unfoldable pub own_objects : SystemTables → List ℕ
own_objects s =
    c_kind (codes "Messages.") (map (λ m. m.name) s.messages)
    ++ c_kind (codes "Shared words.") (map (λ w. w.name) s.shared_words)

unfoldable pub prototypes : SystemTables → List BodyTree → List ℕ
prototypes s bodies =
    c_enumeration (own_objects s)
    ++ (c_prototypes bodies ++ (lines interrupt_prototype s.interrupts ++ codes "\n#endif\n\n#endif\n"))

-- the header
unfoldable pub header_file : Target → SystemTables → List BodyTree → List ℕ
header_file k s bodies =
    HEADER_HEAD.now
    ++ (definitions k s
    ++ (interrupt_table s.interrupts ++ (codes "#ifndef TOPPERS_MACRO_ONLY\n\n" ++ prototypes s bodies)))

-- a comment that names a row of a table, and the end of the line
unfoldable pub row_end : Name → List ℕ
row_end name = codes ", /* " ++ (c_name name ++ codes " */\n")

-- the shared words with their first values
unfoldable pub word_row : SharedWordConfig → List ℕ
word_row w = codes "    " ++ (signed_decimal w.initial ++ row_end w.name)

unfoldable pub filled_word_table : List SharedWordConfig → List ℕ
filled_word_table ws = codes "\nvolatile int32_t fmp_words[FMP_WORDS] = {\n" ++ (lines word_row ws ++ codes "};\n")

abbrev pub word_table : List SharedWordConfig → List ℕ
word_table [] = []
word_table (w ∷ ws) = filled_word_table (w ∷ ws)

-- the messages from a number on, each with its priority
unfoldable pub message_row : (number : ℕ) → MessageConfig → List ℕ
message_row number m =
    numbered (codes "    {{{NULL}, ") m.priority ++ (numbered (codes "}, ") number ++ (codes "}" ++ row_end m.name))

abbrev pub message_rows : (number : ℕ) → List MessageConfig → List ℕ
message_rows number [] = []
message_rows number (m ∷ ms) = message_row number m ++ message_rows (number + 1) ms

unfoldable pub filled_message_table : List MessageConfig → List ℕ
filled_message_table ms =
    codes "\nstruct fmp_message fmp_messages[FMP_MESSAGES] = {\n" ++ (message_rows 1 ms ++ codes "};\n")

abbrev pub message_table : Target → List MessageConfig → List ℕ
message_table target.Fmp3 ms = []
message_table target.Fmp1 [] = []
message_table target.Fmp1 (m ∷ ms) = filled_message_table (m ∷ ms)

-- the bodies in C
unfoldable pub bodies_file : Target → SystemTables → List BodyTree → List ℕ
bodies_file k s bodies =
    BODIES_HEAD.now
    ++ (word_table s.shared_words
    ++ (message_table k s.messages ++ (c_bodies bodies ++ lines (interrupt_function bodies) s.interrupts)))
