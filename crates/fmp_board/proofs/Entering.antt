-- A journal and its kernel after one more event.
use Rattle.std.proofs.Common.{◌≡◌, ℕ, ◌+◌, ◌<◌, ◌≤◌, ◌^◌, List, [], ◌∷◌, ◌++◌, Option, None, length, refl, ap, ◌∙◌, sym}
use Rattle.std.proofs.Common.{subst, arith, length-append}
use Rattle.std.proofs.lemmas.List.Elements.{All-append, All-cons, All-nil}
use Rattle.fmp_base.specs.declared.events.Effect.TheVariants as effect
use Rattle.fmp_base.specs.declared.calls.Reply.{Reply}
use Rattle.fmp_base.specs.declared.events.Effect.{Effect}
use Rattle.fmp_base.specs.declared.events.Event.{Event}
use Rattle.fmp_base.specs.Meanings.{World}
use Rattle.fmp_base.specs.Steps.{Done, Reaction, step, effect_of, Nothing, Did, Kept, IsTaken}
use Rattle.fmp_instructions.specs.declared.instructions.MachineContext.{MachineContext}
use Rattle.fmp_instructions.specs.Instructions.{BodyTables}
use Rattle.fmp_instructions.specs.Machine.{code_meaning}
use Rattle.fmp_image_bytes.specs.Images.{ImageTables}
use Rattle.fmp_kernel.specs.KernelViews.{KernelView, view_after}
use Rattle.fmp_journal.specs.declared.entry.JournalEntry.{JournalEntry}
use Rattle.fmp_journal.specs.Seats.{events}
use Rattle.fmp_journal.specs.declared.receipt.Receipt.{Receipt}
use Rattle.fmp_journal.specs.Receipts.{call_reply, receipt, receipt_of}
use Rattle.fmp_board.specs.Boards.{IsJournal, IsReplay}
use Rattle.fmp_replay.specs.Replays.{IsLegal, kernel_after, reaction}
use Rattle.fmp_replay.proofs.Replaying.{step_of_replay, legal_last, kernel_last, none_legal}

pub events-last : (xs : List JournalEntry) (x : JournalEntry) → events (xs ++ x ∷ []) ≡ events xs ++ x.event ∷ []
events-last [] x = refl
events-last (y ∷ xs) x = ap (λ (es : List Event). y.event ∷ es) (events-last xs x)

pub events-length : (xs : List JournalEntry) → length (events xs) ≡ length xs
events-length [] = refl
events-length (x ∷ xs) = let more = events-length xs in omega arith

abbrev Kernels : Type 0
Kernels = KernelView (List BodyTables) MachineContext

-- what an event does on the kernel of a replay
pub step_there : (i : ImageTables) (n k m : ℕ) (kernel : Kernels) (journal : List JournalEntry) (e : Event)
    → IsReplay i n k m kernel journal
    → step kernel.system (code_meaning kernel.body) kernel.bound kernel.world e ≡ reaction i n (events journal) e
step_there i n k m kernel journal e r = step_of_replay i n (events journal) e kernel r.kernel_is

-- fewer than 2^20 events were taken
pub room_left : (i : ImageTables) (n k m : ℕ) (kernel : Kernels) (journal : List JournalEntry)
    → IsReplay i n k m kernel journal → length journal < k → k ≤ 2 ^ 20
    → kernel.taken < 2 ^ 20
room_left i n k m kernel journal r lt most =
    let taken : kernel.taken ≡ length (events journal) = ap (λ (v : Kernels). v.taken) r.kernel_is in
    omega (arith, taken, events-length journal, lt, most)

-- what an effect tells of what an event does
pub done_by : {C : Type 0} (r : Reaction C) → effect.Done ≡ effect_of r → (d : Done C) × (r ≡ Did d)
done_by Nothing h = absurd (cc)
done_by (Did d) h = (d, refl)
done_by (Kept p w) h = absurd (cc)

pub nothing_by : {C : Type 0} (r : Reaction C) → effect.Nothing ≡ effect_of r → r ≡ Nothing
nothing_by Nothing h = refl
nothing_by (Did d) h = absurd (cc)
nothing_by (Kept p w) h = absurd (cc)

pub kept_by : {C : Type 0} (r : Reaction C) → effect.Kept ≡ effect_of r → (p : ℕ) × (w : World C) × (r ≡ Kept p w)
kept_by Nothing h = absurd (cc)
kept_by (Did d) h = absurd (cc)
kept_by (Kept p w) h = (p, w, refl)

-- an entry whose event is taken is one more of the journal
pub journal_more : (i : ImageTables) (n k m : ℕ) (journal : List JournalEntry) (x : JournalEntry)
    (r : Reaction MachineContext) → IsJournal i n k m journal → length journal < k → x.seat < m
    → reaction i n (events journal) x.event ≡ r → IsTaken r → IsJournal i n k m (journal ++ x ∷ [])
journal_more i n k m journal x r j lt seat h t =
    record {
      legal = subst (IsLegal i n) (sym (events-last journal x)) (legal_last i n (events journal) x.event r j.legal h t);
      room = omega (arith, length-append journal (x ∷ []), lt);
      seats = All-append (λ y. y.seat < m) journal (x ∷ []) j.seats (All-cons (λ y. y.seat < m) x [] seat
          (All-nil (λ y. y.seat < m)));
    }

pub replay_more : (i : ImageTables) (n k m : ℕ) (kernel now : Kernels) (journal : List JournalEntry)
    (x : JournalEntry) (r : Reaction MachineContext)
    → IsReplay i n k m kernel journal → length journal < k → x.seat < m
    → reaction i n (events journal) x.event ≡ r → IsTaken r → now ≡ view_after kernel r
    → IsReplay i n k m now (journal ++ x ∷ [])
replay_more i n k m kernel now journal x r was lt seat h t is =
    record {
      kernel_is =
          is ∙ ap (λ (v : Kernels). view_after v r) was.kernel_is ∙ kernel_last i n (events journal) x.event r h t
          ∙ ap (kernel_after i n) (sym (events-last journal x));
      journal_is = journal_more i n k m journal x r was.journal_is lt seat h t;
    }

-- a board begins with an empty journal
pub replay_begins : (i : ImageTables) (n k m : ℕ) (kernel : Kernels) → kernel ≡ kernel_after i n []
    → IsReplay i n k m kernel []
replay_begins i n k m kernel h =
    record {
      kernel_is = h;
      journal_is = record { legal = none_legal i n; room = omega arith; seats = All-nil (λ y. y.seat < m) };
    }

pub receipt_done : {C : Type 0} (r : Reaction C) (d : Done C) (before number : ℕ) (reply : Option Reply) → r ≡ Did d
    → number ≡ before + 1 → reply ≡ call_reply d.lines
    → receipt number effect.Done reply ≡ receipt_of before r
receipt_done r d before number reply h n y =
    ap (λ (k : ℕ). receipt k effect.Done reply) n ∙ ap (λ (x : Option Reply). receipt (before + 1) effect.Done x) y
    ∙ sym (ap (receipt_of before) h)

pub receipt_nothing : {C : Type 0} (r : Reaction C) (before : ℕ) → r ≡ Nothing → receipt 0 effect.Nothing None
    ≡ receipt_of before r
receipt_nothing r before h = sym (ap (receipt_of before) h)

pub receipt_kept : {C : Type 0} (r : Reaction C) (p : ℕ) (w : World C) (before number : ℕ) → r ≡ Kept p w → number
    ≡ before + 1
    → receipt number effect.Kept None ≡ receipt_of before r
receipt_kept r p w before number h n = ap (λ (k : ℕ). receipt k effect.Kept None) n ∙ sym (ap (receipt_of before) h)
