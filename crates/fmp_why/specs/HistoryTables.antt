-- The tables of a history, and that they are what a trace has told.
use Rattle.std.specs.Prelude.{◌≡◌, ℕ, zero, suc, List, [], ◌∷◌, Option, Some, None, slice_get}
use Rattle.fmp_base.specs.declared.calls.Call.{Call}
use Rattle.fmp_base.specs.declared.catalogue.ObjectKind.{ObjectKind}
use Rattle.fmp_base.specs.declared.catalogue.ObjectKind.TheVariants as kind
use Rattle.fmp_base.specs.declared.events.Line.{Line}
use Rattle.fmp_base.specs.declared.states.Caller.{Caller}
use Rattle.fmp_base.specs.declared.systems.SemaphoreConfig.{SemaphoreConfig}
use Rattle.fmp_base.specs.Systems.{SystemTables}
use Rattle.fmp_why.specs.declared.history.ObjectAct.{ObjectAct}
use Rattle.fmp_why.specs.declared.history.History as declared
use Rattle.fmp_why.specs.declared.history.TaskPart.{TaskPart}
use Rattle.fmp_why.specs.declared.history.ObjectTrail.{ObjectTrail}
use Rattle.fmp_why.specs.Histories.{Told, act_of, after_deed, done_in, event_of, holder_of, part_in, part_told}
use Rattle.fmp_why.specs.Histories.{trail_or, trail_told, waits_from, waits_of}

pub record Tables : Type 0 where
  pub semaphores : List ObjectTrail
  pub flags : List ObjectTrail
  pub data_queues : List ObjectTrail
  pub mailboxes : List ObjectTrail
  pub spin_locks : List ObjectTrail
  pub tasks : List TaskPart

-- the tables that a `History` holds
abbrev pub tables : declared.History → Tables
tables h =
    record {
      semaphores = h.semaphores.items;
      flags = h.flags.items;
      data_queues = h.data_queues.items;
      mailboxes = h.mailboxes.items;
      spin_locks = h.spin_locks.items;
      tasks = h.tasks.items;
    }

-- the objects of a kind
abbrev pub trails_in : Tables → ObjectKind → List ObjectTrail
trails_in h kind.Semaphore = h.semaphores
trails_in h kind.Flag = h.flags
trails_in h kind.DataQueue = h.data_queues
trails_in h kind.Mailbox = h.mailboxes
trails_in h kind.SpinLock = h.spin_locks
trails_in h _ = []

-- the last event that task t had a part in
abbrev pub since_in : Tables → (t : ℕ) → ℕ
since_in h t = event_of (slice_get h.tasks t)

-- what was done last to the object of a kind at a place
abbrev pub trail_in : Tables → ObjectKind → (i : ℕ) → ObjectTrail
trail_in h k i = trail_or (slice_get (trails_in h k) i)

-- the tables are what a trace has told, for each object and each task that the system has
pub record IsTold (sys : SystemTables) (told : Told) (h : Tables) : Type 0 where
  pub trails : (k : ObjectKind) (i : ℕ) → slice_get (trails_in h k) i ≡ trail_told sys told k i
  pub parts : (t : ℕ) → slice_get h.tasks t ≡ part_told sys told t

-- one item of a list is changed, if there is such a one
abbrev pub changed_at : {A : Type 0} → (A → A) → List A → ℕ → List A
changed_at f [] i = []
changed_at f (x ∷ xs) zero = f x ∷ xs
changed_at f (x ∷ xs) (suc i) = x ∷ changed_at f xs i

-- the tables after a deed on the object of a kind at a place
abbrev pub deed_noted : ObjectKind → ℕ → (ObjectTrail → ObjectTrail) → Tables → Tables
deed_noted kind.Semaphore i f h = record h { semaphores = changed_at f h.semaphores i }
deed_noted kind.Flag i f h = record h { flags = changed_at f h.flags i }
deed_noted kind.DataQueue i f h = record h { data_queues = changed_at f h.data_queues i }
deed_noted kind.Mailbox i f h = record h { mailboxes = changed_at f h.mailboxes i }
deed_noted kind.SpinLock i f h = record h { spin_locks = changed_at f h.spin_locks i }
deed_noted _ i f h = h

abbrev pub act_noted : (event : ℕ) → Caller → Option ObjectAct → Tables → Tables
act_noted event who None h = h
act_noted event who (Some a) h = deed_noted a.kind a.place (after_deed a.way (record { actor = who; event = event })) h

abbrev pub done_noted : (event : ℕ) → Option (Caller × Call) → Tables → Tables
done_noted event None h = h
done_noted event (Some done) h = act_noted event done.0 (act_of done.1) h

abbrev pub part_noted : Option ℕ → TaskPart → Tables → Tables
part_noted None x h = h
part_noted (Some t) x h = record h { tasks = changed_at (λ _. x) h.tasks t }

-- the tables after a line
abbrev pub line_noted : (event : ℕ) → Line → Tables → Tables
line_noted event x h =
    done_noted event (done_in (λ t. waits_of (slice_get h.tasks t)) x)
    (part_noted (part_in x) (record { event = event; waits = waits_from x }) h)

abbrev pub lines_noted : (event : ℕ) → List Line → Tables → Tables
lines_noted event [] h = h
lines_noted event (x ∷ xs) h = lines_noted event xs (line_noted event x h)

-- the task that holds each semaphore, by what was done to each
abbrev pub holders_in : List SemaphoreConfig → List ObjectTrail → List (Option ℕ)
holders_in [] trails = []
holders_in (x ∷ xs) [] = []
holders_in (x ∷ xs) (trail ∷ trails) = holder_of x trail ∷ holders_in xs trails
