-- The texts of waits.
use Rattle.std.specs.Prelude.{ℕ, ◌&&◌, ◌||◌, List, [], ◌∷◌, ◌++◌, Option, None, Some, Bool, true, false}
use Rattle.std.specs.Prelude.{decimal, length}
use Rattle.std.specs.Prelude.{nat_lt, take}
use Rattle.fmp_base.specs.declared.states.WaitCause.{WaitCause}
use Rattle.fmp_base.specs.Systems.{SystemTables}
use Rattle.fmp_drawing.specs.declared.waits.WaitText.{WaitText}
use Rattle.fmp_timeline.specs.Names as names

-- a name, or its first letters with three dots, which are a character of three bytes
abbrev pub letters_of : (name : List ℕ) → Option ℕ → List ℕ
letters_of name None = name
letters_of name (Some count) = take count name ++ (226 ∷ 128 ∷ 166 ∷ [])

-- what a task waits for
abbrev pub cause_text : SystemTables → Option WaitCause → (letters : Option ℕ) → List ℕ
cause_text sys None letters = []
cause_text sys (Some cause) letters = names.wait_arrow cause ++ letters_of (names.wait_text sys cause) letters

-- until when, after the sign for "at most"
abbrev pub deadline_text : (until : Bool) → Option ℕ → List ℕ
deadline_text true (Some deadline) = 32 ∷ 226 ∷ 137 ∷ 164 ∷ decimal deadline
deadline_text _ _ = []

abbrev pub wait_text : SystemTables → WaitText → List ℕ
wait_text sys text =
    cause_text sys text.shown.now.wait text.letters ++ deadline_text text.until text.shown.now.deadline

-- a name is cut to more than two letters, or after an arrow
abbrev pub can_be_cut : SystemTables → Option WaitCause → (count : ℕ) → Bool
can_be_cut sys None count = false
can_be_cut sys (Some cause) count =
    nat_lt count (length (names.wait_text sys cause)) && (nat_lt 2 count || nat_lt 0 (length (names.wait_arrow cause)))
