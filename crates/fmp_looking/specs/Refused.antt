-- The calls of a run that are refused.
use Rattle.std.specs.Prelude.{ℕ, ◌≡◌, List, [], Option, None, Some, length}
use Rattle.std.specs.List.{flat_map}
use Rattle.fmp_base.specs.declared.events.Event.{Event}
use Rattle.fmp_image_bytes.specs.Images.{ImageTables}
use Rattle.fmp_instructions.specs.Instructions.{BodyTables}
use Rattle.fmp_instructions.specs.Machine.{code_meaning}
use Rattle.fmp_frames.specs.declared.call_positions.CallPosition.{CallPosition}
use Rattle.fmp_frames.specs.Answers.{answers_in}
use Rattle.fmp_frames.specs.CallPositions.{AreCallsOf}
use Rattle.fmp_frames.specs.Made.{site_position}
use Rattle.fmp_frames.specs.declared.positioned_lines.LineForm.{LineForm}
use Rattle.fmp_frames.specs.RefusalLines.{refused_line}
use Rattle.fmp_frames.specs.Refusals.{Refused, refused_calls}
use Rattle.fmp_replay.specs.Replays.{kernel_after}
use Rattle.fmp_looking.specs.declared.refused.NamedText.{NamedText}

-- the calls of a run of an image that are refused
abbrev pub refused_in : ImageTables → (n : ℕ) → List Event → List Refused
refused_in i n es =
    refused_calls i.code (answers_in code_meaning (kernel_after i n []) es (length i.system.tasks))

-- a line of this form for each call that is refused, where the calls of bodies stand at these positions of a file
abbrev pub refused_lines : LineForm → (file : List ℕ) → List BodyTables → List (List CallPosition) → List Refused
    → List ℕ
refused_lines form file code bodies rs =
    flat_map (λ r. refused_line form file (site_position code bodies (Some r.site)) r) rs

-- a task text, and the name of its file; both are empty if none is given
abbrev pub text_of : Option NamedText → List ℕ
text_of None = []
text_of (Some source) = source.text.now

abbrev pub file_of : Option NamedText → List ℕ
file_of None = []
file_of (Some source) = source.name.now

-- a line of this form for each call that is refused in a run of an image, by where it stands in this task text
pub record AreRunRefusals (form : LineForm) (source : Option NamedText) (i : ImageTables) (n : ℕ) (es : List Event)
    (out : List ℕ) : Type 0 where
  pub bodies : List (List CallPosition)
  pub calls : AreCallsOf (text_of source) bodies
  pub text : out ≡ refused_lines form (file_of source) i.code bodies (refused_in i n es)
