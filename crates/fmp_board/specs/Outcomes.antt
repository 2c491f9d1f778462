-- Tickets, the outcomes of their stretches, and the answers to outcomes.
use Rattle.std.specs.Prelude.{◌≡◌, ◌≢◌, ℕ, zero, suc, ◌<◌, ◌≤◌, List, Some, Option, Result, get_or, length, MatchOption}
use Rattle.std.specs.Prelude.{MatchResult}
use mathlib.Core.List.{IsPrefix}
use Rattle.fmp_base.specs.declared.events.Event.TheVariants.{Run}
use Rattle.fmp_base.specs.Stretches.{Ending, Over}
use Rattle.fmp_base.specs.Contexts.{OfCall}
use Rattle.fmp_instructions.specs.declared.instructions.MachineContext.{MachineContext}
use Rattle.fmp_instructions.specs.Machine.{code_meaning}
use Rattle.fmp_code.specs.Vms.{IsContext}
use Rattle.fmp_image_bytes.specs.Images.{ImageTables}
use Rattle.fmp_kernel.specs.declared.actors.Actor.{Actor}
use Rattle.fmp_kernel.specs.KernelViews.{HasNoActor, actor_in}
use Rattle.fmp_journal.specs.declared.entry.JournalEntry.{JournalEntry}
use Rattle.fmp_journal.specs.Seats.{RowId, SeatState, events}
use Rattle.fmp_journal.specs.Words.{entry}
use Rattle.fmp_board.specs.declared.fault.BoardFault.{BoardFault}
use Rattle.fmp_board.specs.declared.fault.BoardFault.TheVariants as fault
use Rattle.fmp_journal.specs.declared.receipt.Receipt.{Receipt}
use Rattle.fmp_board.specs.Boards.{IsJournal}
use Rattle.fmp_journal.specs.Receipts.{receipt_of}
use Rattle.fmp_replay.specs.Replays.{kernel_after, reaction, stamps_after}
use Rattle.fmp_board.specs.Visits.{entered}

-- the actor of a processor, of an image whose stretches take at most n instructions
pub record TicketState : Type 0 where
  pub image : ImageTables
  pub bound : ℕ
  pub processor : ℕ
  pub actor : Actor MachineContext

-- a ticket, and how the stretch of its actor ends
pub record OutcomeState : Type 0 where
  pub ticket : TicketState
  pub ending : Ending MachineContext

-- how the stretch of a ticket's actor ends
abbrev pub ending_of : TicketState → Ending MachineContext
ending_of t = (code_meaning t.image.code).stretch t.actor.entry t.bound t.actor.context

-- the body of a ticket's actor exists, and gave the context
pub record IsTicket (t : TicketState) : Type 0 where
  pub entry : t.actor.entry < length t.image.code
  pub context : IsContext t.image.code t.actor.entry t.actor.context

-- the stretch of a ticket's actor ended in this way
pub record IsOutcome (o : OutcomeState) : Type 0 where
  pub ending_is : o.ending ≡ ending_of o.ticket
  pub context : OfCall (IsContext o.ticket.image.code o.ticket.actor.entry) o.ending

-- a ticket whose stretch is not made yet, as an outcome: it is over before its first instruction
abbrev pub waiting : TicketState → OutcomeState
waiting t = record { ticket = t; ending = Over (Some t.actor.context) }

-- a ticket of an image whose stretches take at most n instructions, for one of its processors
pub record IsTicketOf (i : ImageTables) (n : ℕ) (t : TicketState) : Type 0 where
  pub image_is : t.image ≡ i
  pub bound_is : t.bound ≡ n
  pub is_processor : t.processor ≤ i.system.processors

-- the actor of processor p after a journal, with its stamp
abbrev pub actor_after : ImageTables → (n : ℕ) → List JournalEntry → (p : ℕ) → Option (Actor MachineContext)
actor_after i n journal p = actor_in (kernel_after i n (events journal)) p

-- the stamp of the processor of this number; there is no processor 0
abbrev pub stamp_at : (p : ℕ) → List ℕ → ℕ
stamp_at zero stamps = 0
stamp_at (suc p) stamps = get_or stamps p 0

-- the stamp of processor p after a journal
abbrev pub stamp_after : ImageTables → (n : ℕ) → List JournalEntry → (p : ℕ) → ℕ
stamp_after i n journal p = stamp_at p (stamps_after i n (events journal))

-- a ticket that was drawn after a beginning of a journal
pub record IsDrawn (i : ImageTables) (n : ℕ) (journal : List JournalEntry) (t : TicketState) : Type 0 where
  pub is_of : IsTicketOf i n t
  pub begin : List JournalEntry
  pub begins : IsPrefix begin journal
  pub actor_is : actor_after i n begin t.processor ≡ Some t.actor

-- after a journal, processor p is not there, or has no actor
abbrev pub HasNoActorAfter : ImageTables → (n : ℕ) → List JournalEntry → (p : ℕ) → Type 0
HasNoActorAfter i n journal p = HasNoActor (kernel_after i n (events journal)) p

-- the answer to a request for a ticket for processor p, after a journal: its actor there, or none if it has none
abbrev pub Drew : ImageTables → (n : ℕ) → List JournalEntry → (p : ℕ) → Option TicketState → Type 0
Drew i n journal p result =
    MatchOption result (HasNoActorAfter i n journal p)
    (λ t. IsTicketOf i n t × (t.processor ≡ p) × (actor_after i n journal p ≡ Some t.actor))

-- why an outcome is refused after a journal: the stamp of its processor is another one, or else the journal is full
pub record IsWhyRefused (i : ImageTables) (n k : ℕ) (journal : List JournalEntry) (t : TicketState) (f : BoardFault)
    : Type 0 where
  pub stale : stamp_after i n journal t.processor ≢ t.actor.stamp → f ≡ fault.Stale
  pub full : stamp_after i n journal t.processor ≡ t.actor.stamp → (f ≡ fault.Full) × (length journal ≡ k)

-- the answer to an outcome after a journal
abbrev pub AnsweredAfter : ImageTables → (n k : ℕ) → List JournalEntry → TicketState → Result Receipt BoardFault
    → Type 0
AnsweredAfter i n k before t result =
    MatchResult result
    (λ r. (stamp_after i n before t.processor ≡ t.actor.stamp) × (length before < k)
    × (r ≡ receipt_of (length before) (reaction i n (events before) (Run t.processor))))
    (IsWhyRefused i n k before t)

-- The answer to an outcome of a seat: there was a journal, which begins with all that the seat had seen; this is the
-- answer to the outcome after it, and the seat has then seen it, with the event, if one was entered.
abbrev pub Submitted : ImageTables → (n : ℕ) → RowId → TicketState → (was now : SeatState) → Result Receipt BoardFault
    → Type 0
Submitted i n row t was now result =
    (before : List JournalEntry) × IsJournal i n row.capacity row.seats before × IsPrefix was.seen before
    × AnsweredAfter i n row.capacity before t result
    × (now.seen ≡ entered before (entry was.number (Run t.processor))
    (reaction i n (events before) (Run t.processor)) result)
