-- The trace of a run in the names of its objects.
use Rattle.std.specs.Prelude.{◌≡◌, ℕ, ◌+◌, ◌-◌, ◌^◌, List, [], Option, Some, None, ◌++◌, Bool, true, false, get_or, min}
use Rattle.fmp_base.specs.declared.events.Event.{Event}
use Rattle.fmp_base.specs.declared.events.Line.{Line}
use Rattle.fmp_base.specs.declared.events.TaskState.{TaskState}
use Rattle.fmp_base.specs.declared.states.TaskBlock.{TaskBlock}
use Rattle.fmp_base.specs.Meanings.{Meaning}
use Rattle.fmp_base.specs.Steps.{Reaction}
use Rattle.fmp_base.specs.Systems.{SystemTables, tables_of}
use Rattle.fmp_frames.specs.Frames.{FrameTable}
use Rattle.fmp_kernel.specs.KernelViews.{KernelView}
use Rattle.fmp_named.specs.Records.{state_records}
use Rattle.fmp_named.specs.States.{named_states}
use Rattle.fmp_frames.specs.Shown.{WasShown}
use Rattle.fmp_warnings.specs.declared.verdicts.Form.{Form}
use Rattle.fmp_warnings.specs.declared.verdicts.Form.TheVariants as form
use Rattle.fmp_looking.specs.declared.tracing.Tracer.{Tracer}
use Rattle.fmp_image_bytes.specs.Images.{ImageTables}
use Rattle.fmp_instructions.specs.Machine.{code_meaning}
use Rattle.fmp_frames.specs.declared.call_positions.CallPosition.{CallPosition}
use Rattle.fmp_frames.specs.declared.positioned_lines.LineForm.{LineForm}
use Rattle.fmp_frames.specs.declared.positioned_lines.LineForm.TheVariants as written
use Rattle.fmp_frames.specs.PositionedLines.{positioned}
use Rattle.fmp_frames.specs.Made.{positions_made}
use Rattle.fmp_frames.specs.CallPositions.{AreCallsOf}
use Rattle.fmp_replay.specs.Replays.{kernel_after}

-- the form of a line that says where its call stands
abbrev pub line_form : Form → LineForm
line_form form.Text = written.Text
line_form form.Json = written.Record

-- the lines of event k, as they are printed, with where its call stands
abbrev pub lines_text : Form → SystemTables → ℕ → Option CallPosition → List Line → List ℕ
lines_text f sys k position ls = positioned (line_form f) sys k position ls

-- the states of the tasks, as they are printed
abbrev pub states_text : Form → SystemTables → List TaskState → List TaskBlock → List ℕ
states_text form.Text sys xs bs = named_states sys 0 xs bs
states_text form.Json sys xs bs = state_records sys 0 xs bs

-- the number of the last event: one that kept a place has none
abbrev pub number_after : ℕ → Option ℕ → ℕ
number_after n None = min (n + 1) (2 ^ 32 - 1)
number_after n (Some p) = n

-- a tracer of this system, with these positions of calls, has the lines of setup, and the states after it
pub record IsBegun (form : Form) (sys : SystemTables) (positions : List (Option CallPosition)) (x : Tracer)
    (f : FrameTable) : Type 0 where
  pub form_is : x.printing.form ≡ form
  pub system : tables_of x.printing.sys.now ≡ sys
  pub positions_are : x.printing.positions.now ≡ positions
  pub number : x.number ≡ 0
  pub text : x.out.items ≡ lines_text form sys 0 None f.lines
  pub states : x.states.items ≡ f.states
  pub blocks : x.blocks.items ≡ f.blocks

-- it has the lines of one more event after those that it had, and the states after it
pub record Traces (x : Tracer) (f : FrameTable) (y : Tracer) : Type 0 where
  pub printing : y.printing ≡ x.printing
  pub number : y.number ≡ number_after x.number f.kept
  pub text : y.out.items
      ≡ x.out.items
      ++ lines_text x.printing.form (tables_of x.printing.sys.now) y.number
      (get_or x.printing.positions.now (y.number - 1) None) f.lines
  pub states : y.states.items ≡ f.states
  pub blocks : y.blocks.items ≡ f.blocks

-- the states at its end
abbrev pub end_text : Tracer → List ℕ
end_text x = states_text x.printing.form (tables_of x.printing.sys.now) x.states.items x.blocks.items

-- what is printed of a run of a kernel: the lines of setup, those of what comes to it, with the positions of its calls,
-- of which the first is that of event 1, and the states at the end
pub record IsTrace {B C X : Type 0} (form : Form) (sys : SystemTables) (positions : List (Option CallPosition))
    (meaning : B → Meaning C)
    (reaction : KernelView B C → X → Reaction C) (k : KernelView B C) (xs : List X) (out : List ℕ) : Type 0 where
  pub last : Tracer
  pub shown : WasShown (IsBegun form sys positions) Traces meaning reaction k xs last
  pub whole : out ≡ last.out.items ++ end_text last

-- for each event of a run of an image that is done where the call stands that it makes in this text of its bodies
pub record ArePositions (src : List ℕ) (i : ImageTables) (n : ℕ) (es : List Event) (made : List (Option CallPosition))
    : Type 0 where
  pub bodies : List (List CallPosition)
  pub calls : AreCallsOf src bodies
  pub made_so : made ≡ positions_made code_meaning i.code bodies (kernel_after i n []) es

-- the same where they are shown: in lines if that is asked for, in objects of JSON always
abbrev pub AreShown : Form → (asked : Bool) → (src : List ℕ) → ImageTables → (n : ℕ) → List Event
    → List (Option CallPosition) → Type 0
AreShown form.Json asked src i n es made = ArePositions src i n es made
AreShown form.Text true src i n es made = ArePositions src i n es made
AreShown form.Text false src i n es made = made ≡ []
