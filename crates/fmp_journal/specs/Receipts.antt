-- Receipts: what an event did at its place in the journal.
use Rattle.std.specs.Prelude.{ℕ, ◌+◌, List, [], ◌∷◌, ◌++◌, Option, None}
use Rattle.fmp_base.specs.declared.calls.Reply.{Reply}
use Rattle.fmp_base.specs.declared.events.Effect.{Effect}
use Rattle.fmp_base.specs.declared.events.Effect.TheVariants as effect
use Rattle.fmp_base.specs.declared.events.Line.{Line}
use Rattle.fmp_base.specs.declared.events.Line.TheVariants.{Tick, Int, Call, End, Fault, Gets, Starts, Pends, Begins}
use Rattle.fmp_base.specs.declared.events.Line.TheVariants.{Runs}
use Rattle.fmp_base.specs.Steps.{Reaction, Nothing, Did, Kept}
use Rattle.fmp_journal.specs.declared.entry.JournalEntry.{JournalEntry}
use Rattle.fmp_journal.specs.declared.receipt.Receipt.{Receipt}

-- the reply of a call in its line; a caller that waits, or that ends by its call, has none
abbrev pub reply_in : Line → Option Reply
reply_in (Call p who c reply) = reply
reply_in (Tick clock) = None
reply_in (Int i) = None
reply_in (End p who) = None
reply_in (Fault p who fault) = None
reply_in (Gets p t reply) = None
reply_in (Starts p t) = None
reply_in (Pends p c) = None
reply_in (Begins p h) = None
reply_in (Runs p t) = None

-- the reply of an event's call: its own line is the first
abbrev pub call_reply : List Line → Option Reply
call_reply [] = None
call_reply (l ∷ ls) = reply_in l

abbrev pub receipt : (number : ℕ) → Effect → Option Reply → Receipt
receipt number effect reply = record { number = number; effect = effect; reply = reply }

-- the receipt of an event before which n were journaled, by what the event does then
abbrev pub receipt_of : {C : Type 0} → (before : ℕ) → Reaction C → Receipt
receipt_of before Nothing = record { number = 0; effect = effect.Nothing; reply = None }
receipt_of before (Did d) = record { number = before + 1; effect = effect.Done; reply = call_reply d.lines }
receipt_of before (Kept p w) = record { number = before + 1; effect = effect.Kept; reply = None }

-- the journal after an entry, by what its event does; one that does nothing is not journaled
abbrev pub journal_after : {C : Type 0} → List JournalEntry → JournalEntry → Reaction C → List JournalEntry
journal_after journal x Nothing = journal
journal_after journal x (Did d) = journal ++ x ∷ []
journal_after journal x (Kept p w) = journal ++ x ∷ []

-- the marks of a book after an event of this seat, by what the event does
abbrev pub marks_after : {C : Type 0} → List ℕ → (seat : ℕ) → Reaction C → List ℕ
marks_after marks seat Nothing = marks
marks_after marks seat (Did d) = marks ++ seat ∷ []
marks_after marks seat (Kept p w) = marks ++ seat ∷ []
