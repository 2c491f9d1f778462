-- The events of a session, and its kernel after them.
use Rattle.std.specs.Prelude.{ℕ, ◌≡◌, ◌≤◌, ◌^◌, List, [], ◌∷◌, Option, ◌++◌, length}
use Rattle.fmp_base.specs.declared.events.Event.{Event}
use Rattle.fmp_base.specs.Steps.{Reaction, Nothing, Did, Kept}
use Rattle.fmp_instructions.specs.declared.instructions.MachineContext.{MachineContext}
use Rattle.fmp_instructions.specs.Instructions.{BodyTables}
use Rattle.fmp_kernel.specs.KernelViews.{KernelView}
use Rattle.fmp_named.specs.Lines.{named_lines}
use Rattle.fmp_frames.specs.declared.call_positions.CallPosition.{CallPosition}
use Rattle.fmp_frames.specs.declared.positioned_lines.LineForm.TheVariants as form
use Rattle.fmp_frames.specs.PositionedLines.{positioned}
use Rattle.fmp_replay.specs.Replays.{IsLegal, kernel_after, reaction}
use Rattle.fmp_session.specs.declared.session.Session.{Session}
use Rattle.fmp_session.specs.declared.session.TakenEvent.{TakenEvent}
use Rattle.fmp_session.specs.declared.session.TakenEvent.TheVariants as taken

-- each event of a session did something, and its kernel is that of the image after them
pub record IsSession (s : Session) : Type 0 where
  pub few : length s.events.items ≤ 2 ^ 20
  pub legal : IsLegal s.image.now s.bound s.events.items
  pub kernel : s.kernel ≡ kernel_after s.image.now s.bound s.events.items

-- the events of a session after one more, which came to this
abbrev pub with_event : TakenEvent → Event → List Event → List Event
with_event taken.Done e es = es ++ e ∷ []
with_event taken.Kept e es = es ++ e ∷ []
with_event taken.Nothing e es = es
with_event taken.Full e es = es

-- what an event comes to by what it does
abbrev pub taken_by : {C : Type 0} → Reaction C → TakenEvent
taken_by Nothing = taken.Nothing
taken_by (Did d) = taken.Done
taken_by (Kept p w) = taken.Kept

-- what an event comes to after those of a session: it is full, or the event does this there
abbrev pub IsTakenAs : Session → Event → TakenEvent → Type 0
IsTakenAs s e taken.Full = length s.events.items ≡ 2 ^ 20
IsTakenAs s e taken.Done = taken.Done ≡ taken_by (reaction s.image.now s.bound s.events.items e)
IsTakenAs s e taken.Kept = taken.Kept ≡ taken_by (reaction s.image.now s.bound s.events.items e)
IsTakenAs s e taken.Nothing = taken.Nothing ≡ taken_by (reaction s.image.now s.bound s.events.items e)

-- the lines of the last event of a kernel that was done, with names
abbrev pub lines_now : KernelView (List BodyTables) MachineContext → List ℕ
lines_now k = named_lines k.system k.done k.lines

-- the same as objects of JSON, with where the call of the event stands if that is known
abbrev pub records_now : Option CallPosition → KernelView (List BodyTables) MachineContext → List ℕ
records_now position k = positioned form.Record k.system k.done position k.lines
