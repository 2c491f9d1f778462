-- Sentences about calls: `never`, a code, perhaps `by` and a task, and `at` and the number of the line of the tasks'
-- text in which a call stands. They are read where that text is given.
use Rattle.std.specs.Prelude.{ℕ, ◌≡◌, ◌+◌, ◌⊎◌, List, [], ◌∷◌, ◌++◌, map, Option, Some, None, Result, codes}
use Rattle.std.specs.Prelude.{if◌then◌else◌}
use Rattle.fmp_base.specs.declared.codes.Er.{Er}
use Rattle.fmp_base.specs.Systems.{SystemTables}
use Rattle.fmp_expect.specs.declared.expectation.Expected.{Expected}
use Rattle.fmp_expect.specs.declared.fault.ExpectFault.{ExpectFault}
use Rattle.fmp_expect.specs.declared.call_sentences.CallSentence.{CallSentence}
use Rattle.fmp_expect.specs.Grammar.{expectations_from}
use Rattle.fmp_expect.specs.Parts.{begins, after_first, code_named, is_found, task_named}
use Rattle.fmp_expect.specs.Words.{before_comment, lines_of, number_of, words_of}

-- the number of a line, if it is the only word
abbrev pub only_number : List (List ℕ) → Option ℕ
only_number [] = None
only_number (w ∷ []) = number_of 1 2147483647 w
only_number (w ∷ v ∷ ws) = None

-- what stands after the code: `at` and the number of a line
abbrev pub line_after_at : List (List ℕ) → Option ℕ
line_after_at ws = if begins (codes "at") ws then only_number (after_first ws) else None

abbrev pub never_at : (line : ℕ) → Er → (by at : Option ℕ) → Option CallSentence
never_at n code by None = None
never_at n code by (Some at) = Some (record { line = n; code = code; by = by; at = at })

-- the answers of a task, if there is one of the name
abbrev pub task_said : (line : ℕ) → Er → (task : Option ℕ) → List (List ℕ) → Option CallSentence
task_said n code None ws = None
task_said n code (Some t) ws = never_at n code (Some t) (line_after_at ws)

-- `by` was read
abbrev pub by_said : SystemTables → (line : ℕ) → Er → List (List ℕ) → Option CallSentence
by_said sys n code [] = None
by_said sys n code (w ∷ ws) = task_said n code (task_named sys w) ws

-- the code was read, if it is one
abbrev pub code_said : SystemTables → (line : ℕ) → Option Er → List (List ℕ) → Option CallSentence
code_said sys n None ws = None
code_said sys n (Some code) ws =
    if begins (codes "by") ws then by_said sys n code (after_first ws) else never_at n code None (line_after_at ws)

-- `never` was read in line n
abbrev pub answer_said : SystemTables → (line : ℕ) → List (List ℕ) → Option CallSentence
answer_said sys n [] = None
answer_said sys n (w ∷ ws) = code_said sys n (code_named w) ws

-- the sentence of the words of line n, if it is about calls
abbrev pub call_sentence_said : SystemTables → (line : ℕ) → List (List ℕ) → Option CallSentence
call_sentence_said sys n ws = if begins (codes "never") ws then answer_said sys n (after_first ws) else None

-- the same of a line
abbrev pub call_sentence_of : SystemTables → (n : ℕ) → (line : List ℕ) → Option CallSentence
call_sentence_of sys n line = call_sentence_said sys n (words_of (before_comment line))

abbrev pub listed : Option CallSentence → List CallSentence
listed None = []
listed (Some x) = x ∷ []

-- the sentences about calls of lines that are numbered from n on
abbrev pub call_sentences_from : SystemTables → (n : ℕ) → List (List ℕ) → List CallSentence
call_sentences_from sys n [] = []
call_sentences_from sys n (line ∷ lines) = listed (call_sentence_of sys n line) ++ call_sentences_from sys (n + 1) lines

-- the sentences about calls of a text
abbrev pub call_sentences_of : SystemTables → (text : List ℕ) → List CallSentence
call_sentences_of sys text = call_sentences_from sys 1 (lines_of text)

-- a line, which is taken as empty if its sentence is about calls
abbrev pub without_call_sentence : SystemTables → (line : List ℕ) → List ℕ
without_call_sentence sys line = if is_found (call_sentence_of sys 0 line) then [] else line

abbrev pub other_sentences_from : SystemTables → (n : ℕ) → List (List ℕ) → Result (List Expected) ExpectFault
other_sentences_from sys n lines = expectations_from sys n (map (λ line. without_call_sentence sys line) lines)

-- the other sentences of a text, or its first fault
abbrev pub other_sentences_of : SystemTables → (text : List ℕ) → Result (List Expected) ExpectFault
other_sentences_of sys text = other_sentences_from sys 1 (lines_of text)

-- a text begins with this line, and this stands after it; where that is nothing, the line may be the last one
abbrev pub IsCut : (text line rest : List ℕ) → Type 0
IsCut text line rest = (lines_of text ≡ line ∷ lines_of rest) ⊎ ((rest ≡ []) × (lines_of text ≡ line ∷ []))
