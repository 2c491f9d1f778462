-- A run in the Trace Event Format: the names of the tracks, slices, ticks, interrupts and arrows.
use Rattle.std.specs.Prelude.{ℕ, zero, suc, ◌+◌, ◌-◌, ◌^◌, min, max, Bool, true, false, List, [], ◌∷◌, ◌++◌, take}
use Rattle.std.specs.Prelude.{Option, None, Some, codes, decimal, flat_map}
use Rattle.fmp_base.specs.declared.names.Name.{Name}
use Rattle.fmp_base.specs.declared.states.Caller.{Caller}
use Rattle.fmp_base.specs.declared.states.Handler.TheVariants as handler
use Rattle.fmp_base.specs.declared.systems.TaskConfig.{TaskConfig}
use Rattle.fmp_base.specs.Names.{name_text}
use Rattle.fmp_base.specs.Systems.{SystemTables, tables_of}
use Rattle.fmp_timeline.specs.declared.marks.ActorLink.{ActorLink}
use Rattle.fmp_timeline.specs.declared.marks.Bond.{Bond}
use Rattle.fmp_timeline.specs.declared.marks.Bond.TheVariants as bond
use Rattle.fmp_timeline.specs.declared.run.Note.{Note}
use Rattle.fmp_timeline.specs.declared.run.Run.{Run}
use Rattle.fmp_timeline.specs.declared.states.Occupant.{Occupant}
use Rattle.fmp_timeline.specs.declared.states.TaskShown.{TaskShown}
use Rattle.fmp_timeline.specs.declared.tracks.Stay.{Stay}
use Rattle.fmp_timeline.specs.declared.tracks.Track.{Track}
use Rattle.fmp_timeline.specs.Events.{last_event}
use Rattle.fmp_timeline.specs.Shown.{actor_of}
use Rattle.fmp_timeline.specs.Tracks.{stays_of}
use Rattle.fmp_slices.specs.declared.lanes.Lane.{Lane}
use Rattle.fmp_slices.specs.declared.tracing.SliceSource.{SliceSource}
use Rattle.fmp_slices.specs.Clocks.{time_at}
use Rattle.fmp_slices.specs.Entries.{flow_end_text, flow_start_text, instant_text, slice_text, title_text}
use Rattle.fmp_slices.specs.Labels.{actor_text, body_text, state_text}
use Rattle.fmp_slices.specs.Tracks.{interrupt_lane, lane, lane_of, processor_lane, task_lane, tick_lane}

-- the texts of things, of which the first has this number
abbrev pub texts_from : {A : Type 0} → (ℕ → A → List ℕ) → ℕ → List A → List ℕ
texts_from text n [] = []
texts_from text n (x ∷ xs) = text n x ++ texts_from text (n + 1) xs

-- what an arrow says
abbrev pub bond_word : Bond → List ℕ
bond_word bond.Starts = codes "starts"
bond_word bond.Releases = codes "releases"
bond_word bond.Migrates = codes "migrates"
bond_word bond.Changes = codes "changes"

-- the arrow of an event leaves a microsecond before the event, but no earlier than the event before it
abbrev pub leaves_at : (times : List ℕ) → (event : ℕ) → ℕ
leaves_at times event = max (time_at times event - 1) (time_at times (event - 1))

-- the arrow of this number, from a track
abbrev pub arrow_text : (times : List ℕ) → (number : ℕ) → ActorLink → Option Lane → List ℕ
arrow_text times number link None = []
arrow_text times number link (Some from) =
    flow_start_text from (leaves_at times link.event) number (bond_word link.bond)
    ++ flow_end_text (task_lane link.task) (time_at times link.event) number (bond_word link.bond)

-- the arrow of a link, from the track of its actor to that of its task
abbrev pub link_text : SystemTables → (times : List ℕ) → (number : ℕ) → ActorLink → List ℕ
link_text sys times number link = arrow_text times number link (lane_of sys link.from)

-- what a trace is made from
pub record Source : Type 0 where
  pub sys : SystemTables
  pub bodies : List Name
  pub run : Run
  pub times : List ℕ

-- a state that begins with its change begins at the time of that, and ends when the next one begins; the last one lasts
-- a microsecond longer than the run
abbrev pub ends_at : Source → Option ℕ → ℕ
ends_at s (Some event) = time_at s.times event
ends_at s None = min (time_at s.times (last_event s.run) + 1) (2 ^ 64 - 1)

-- the slice of a state
abbrev pub stay_text : {S : Type 0} → Source → Lane → Stay S → (name : List ℕ) → List ℕ
stay_text s on stay name = slice_text on (time_at s.times stay.from) (ends_at s stay.to) name

-- what a processor runs: no slice while it is idle
abbrev pub turn_by : Source → Lane → Stay Occupant → Option Caller → List ℕ
turn_by s on stay None = []
turn_by s on stay (Some actor) = stay_text s on stay (actor_text s.sys s.bodies actor)

abbrev pub turn_text : Source → Lane → Stay Occupant → List ℕ
turn_text s on stay = turn_by s on stay (actor_of stay.state)

-- the state of a task
abbrev pub task_text : Source → Lane → Stay TaskShown → List ℕ
task_text s on stay = stay_text s on stay (state_text s.sys s.bodies stay.state stay.state.word)

-- the slices of the processor and of the task at a place
abbrev pub turns_text : Source → ℕ → Track Occupant → List ℕ
turns_text s p track = flat_map (turn_text s (processor_lane p)) (stays_of track)

abbrev pub states_text : Source → ℕ → Track TaskShown → List ℕ
states_text s t track = flat_map (task_text s (task_lane t)) (stays_of track)

-- the first 255 of each have tracks
abbrev pub slices_text : Source → List ℕ
slices_text s =
    texts_from (turns_text s) 0 (take 255 s.run.occupants.items)
    ++ texts_from (states_text s) 0 (take 255 s.run.tasks.items)

-- a tick, with the clock after it
abbrev pub tick_text : (ticks : Bool) → (time clock : ℕ) → List ℕ
tick_text false time clock = []
tick_text true time clock = instant_text tick_lane time (codes "tick " ++ decimal clock)

-- an interrupt, with the name of its handler
abbrev pub interrupt_text : Source → (time : ℕ) → Option ℕ → List ℕ
interrupt_text s time None = []
interrupt_text s time (Some i) = instant_text interrupt_lane time (body_text s.sys s.bodies (handler.Interrupt i))

-- the tick or the interrupt that an event is
abbrev pub note_text : Source → (event : ℕ) → Note → List ℕ
note_text s event note =
    tick_text note.ticks (time_at s.times event) note.clock ++ interrupt_text s (time_at s.times event) note.interrupt

abbrev pub notes_text : Source → List ℕ
notes_text s = texts_from (λ n note. note_text s (min n (2 ^ 32 - 1)) note) 0 s.run.notes.items

-- the name of a track, and of a group
abbrev pub track_title : Lane → (name : List ℕ) → List ℕ
track_title on name = title_text on (codes "thread_name") name

abbrev pub group_title : (group : ℕ) → (name : List ℕ) → List ℕ
group_title group name = title_text (lane group 0) (codes "process_name") name

-- the names of the tracks of the first n processors
abbrev pub processor_titles : ℕ → List ℕ
processor_titles zero = []
processor_titles (suc n) =
    processor_titles n ++ track_title (processor_lane n) (codes "processor " ++ decimal (n + 1))

abbrev pub task_title : ℕ → TaskConfig → List ℕ
task_title t config = track_title (task_lane t) (name_text config.name)

-- the names of the groups but the first, and of all tracks
abbrev pub titles_text : SystemTables → List ℕ
titles_text sys =
    group_title 2 (codes "tasks")
    ++ (group_title 3 (codes "events")
    ++ (track_title tick_lane (codes "ticks")
    ++ (track_title interrupt_lane (codes "interrupts")
    ++ (processor_titles sys.processors ++ texts_from task_title 0 (take 255 sys.tasks)))))

-- the name of the first group, with the bracket that opens the list
abbrev pub head_text : List ℕ
head_text =
    codes "[{\"ph\":\"M\",\"pid\":1,\"tid\":0,\"name\":\"process_name\",\"args\":{\"name\":\"processors\"}}" ++ 10 ∷ []

-- the whole trace
abbrev pub trace_text : Source → List ℕ
trace_text s =
    head_text
    ++ (titles_text s.sys
    ++ (slices_text s
    ++ (notes_text s ++ (texts_from (link_text s.sys s.times) 1 s.run.links.items ++ (codes "]" ++ 10 ∷ [])))))

abbrev pub source_of : SliceSource → Source
source_of s =
    record {
      sys = tables_of s.sys.now;
      bodies = s.bodies.now;
      run = s.run.now;
      times = s.clock.now.times.items;
    }
