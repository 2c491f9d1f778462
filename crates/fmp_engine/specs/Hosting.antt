-- What a host of an image writes and prints, or why it does not.
use Rattle.std.specs.Prelude.{◌≡◌, ◌+◌, ◌*◌, ◌≤◌, ◌^◌, ℕ, List, Err, length}
use Rattle.fmp_base.specs.declared.events.Effect.{Effect}
use Rattle.fmp_base.specs.declared.events.Event.{Event}
use Rattle.fmp_base.specs.KeptRuns.{IsFinished}
use Rattle.fmp_base.specs.Runs.{Trace, done_events, effects}
use Rattle.fmp_base.specs.Setups.{setup}
use Rattle.fmp_base.specs.Texts.{trace_text, whole_text}
use Rattle.fmp_instructions.specs.Machine.{code_meaning}
use Rattle.fmp_codegen.specs.Tie.{longest}
use Rattle.fmp_board.specs.declared.fault.BoardFault.{BoardFault}
use Rattle.fmp_board.specs.declared.fault.BoardFault.TheVariants as board
use Rattle.fmp_hostrun.specs.Counts.{AreCounted}
use Rattle.fmp_hostrun.specs.Works.{IsRun, most_of}
use Rattle.fmp_hostrun.specs.declared.turns.Load.{Load}
use Rattle.fmp_replay.specs.Replays.{IsLegal}
use Rattle.fmp_image_bytes.specs.declared.fault.LoadFault.TheVariants as load
use Rattle.fmp_image_bytes.specs.Images.{ImageTables, Spells, image_at}
use Rattle.fmp_tasklang.specs.Contexts.{TextContext}
use Rattle.fmp_tasklang.specs.Texts.{text_meaning}
use Rattle.fmp_tasklang.specs.Trees.{BodyTree}
use Rattle.fmp_trace.specs.Steps.{steps_text}
use Rattle.fmp_engine.specs.Counts.{counts_of}
use Rattle.fmp_engine.specs.declared.counts.EventCounts.{EventCounts}
use Rattle.fmp_engine.specs.declared.hosting.HostFault.{HostFault}
use Rattle.fmp_engine.specs.declared.hosting.HostFault.TheVariants as fault
use Rattle.fmp_engine.specs.declared.hosting.Workload.{Workload}

-- the numbers of a workload lie in their ranges
pub record IsWorkload (work : Workload) : Type 0 where
  pub turns : work.turns ≤ 2 ^ 20
  pub ticks : work.ticks ≤ 2 ^ 20
  pub interrupt_low : 1 ≤ work.interrupt
  pub interrupt_high : work.interrupt ≤ 32
  pub interrupts : work.interrupts ≤ 2 ^ 20
  pub bound_low : 1 ≤ work.bound
  pub bound_high : work.bound ≤ 2 ^ 48

-- what the threads of an image's board are to do
abbrev pub load_for : ImageTables → Workload → Load
load_for i work = record {
  processors = i.system.processors;
  turns = work.turns;
  ticks = work.ticks;
  interrupt = work.interrupt;
  interrupts = work.interrupts;
}

-- as many events as there are turns of all processors of an image, ticks, and interrupts that may come
abbrev pub most_events : ImageTables → Workload → ℕ
most_events i work = most_of (load_for i work)

-- a board has room for them
pub record FitsBoard (i : ImageTables) (work : Workload) : Type 0 where
  pub some : 1 ≤ most_events i work
  pub most : most_events i work ≤ 2 ^ 20

-- a journal that the threads of an image's board made, which no gate held: each of its events was done, or kept a
-- place, where it stands, and they are at most `turns` runs of each processor, at most `ticks` ticks, and at most
-- `interrupts` times the interrupt of the workload
pub record IsHosted (i : ImageTables) (work : Workload) (journal : List Event) : Type 0 where
  pub fits : FitsBoard i work
  pub legal : IsLegal i work.bound journal
  pub count : length journal ≤ most_events i work
  pub counted : AreCounted (load_for i work) journal
  pub ran : IsRun i work.bound (Unit {0}) (load_for i work) journal

-- The bytes spell an image, and its threads made a journal, which has this many events of each kind. What is to be
-- written is the steps text of the journal, and what is to be printed is all that the image prints over it, within the
-- bound of a stretch.
pub record Hosts (image : List ℕ) (work : Workload) (file out : List ℕ) (counts : EventCounts) : Type 0 where
  pub loaded : ImageTables
  pub spelled : Spells loaded image
  pub journal : List Event
  pub made : IsHosted loaded work journal
  pub steps : file ≡ steps_text journal
  pub text : out ≡ whole_text loaded.system (code_meaning loaded.code) work.bound journal
  pub counted : counts ≡ counts_of journal

-- What is to be written is the steps text of a journal that the threads of an image made, and what is to be printed is
-- what the bodies of a task text mean over those of its events that were done. Each other event kept the place of its
-- actor once more.
pub record HostsTexts (i : ImageTables) (bodies : List BodyTree) (work : Workload) (file out : List ℕ) : Type 0 where
  pub journal : List Event
  pub made : IsHosted i work journal
  pub steps : file ≡ steps_text journal
  pub finished : List Event
  pub are_done :
      let machine = code_meaning i.code in
      finished ≡ done_events i.system machine work.bound (setup i.system machine).world journal
  pub answers : List Effect
  pub are_answers :
      let machine = code_meaning i.code in
      answers ≡ effects i.system machine work.bound (setup i.system machine).world journal
  pub trace : Trace TextContext
  pub finishes :
      let text = text_meaning i.system bodies in
      IsFinished i.system text work.bound (longest i.code) journal answers finished trace
  pub text : out ≡ trace_text i.system (setup i.system (text_meaning i.system bodies)).lines trace

-- why a board of an image gives no journal, apart from running out of memory
abbrev pub IsWhyNoBoard : BoardFault → ImageTables → Workload → Type 0
IsWhyNoBoard board.Limit i work = FitsBoard i work → ⊥
IsWhyNoBoard board.Memory i work = ⊥
IsWhyNoBoard board.Stale i work = ⊥
IsWhyNoBoard board.Full i work = ⊥
IsWhyNoBoard board.Thread i work = Unit {0}
IsWhyNoBoard board.Held i work = ⊥

-- why there is no journal of an image
abbrev pub IsWhyNoJournal : HostFault → ImageTables → Workload → Type 0
IsWhyNoJournal (fault.Load f) i work = ⊥
IsWhyNoJournal (fault.Board f) i work = IsWhyNoBoard f i work
IsWhyNoJournal fault.Memory i work = Unit {0}

-- the same of the image that bytes spell
pub record IsWhyNoHost (f : BoardFault) (image : List ℕ) (work : Workload) : Type 0 where
  pub loaded : ImageTables
  pub spelled : Spells loaded image
  pub why : IsWhyNoBoard f loaded work

-- Why a host writes and prints nothing: the first fault of the image, else the limit of a board, else what stopped its
-- threads. Or memory ran out.
abbrev pub IsWhyHost : HostFault → (image : List ℕ) → Workload → Type 0
IsWhyHost (fault.Load (load.Image f)) image work = image_at image ≡ Err f
IsWhyHost (fault.Load load.Memory) image work = ⊥
IsWhyHost (fault.Board f) image work = IsWhyNoHost f image work
IsWhyHost fault.Memory image work = Unit {0}
