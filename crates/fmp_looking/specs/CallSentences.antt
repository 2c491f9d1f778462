-- Sentences about the calls of a line of the tasks' text, for runs of an image.
use Rattle.std.specs.Prelude.{ℕ, ◌≡◌, List, [], ◌∷◌, Option, Some, None, Bool, false, Ok, filter, map, nat_eq}
use Rattle.std.specs.Prelude.{if◌then◌else◌}
use Rattle.std.specs.List.{flat_map}
use Rattle.fmp_base.specs.declared.events.Line.{Line}
use Rattle.fmp_base.specs.Meanings.{World}
use Rattle.fmp_base.specs.Systems.{SystemTables}
use Rattle.fmp_expect.specs.declared.call_sentences.CallSentence.{CallSentence}
use Rattle.fmp_expect.specs.CallSentences.{call_sentences_of, other_sentences_of}
use Rattle.fmp_frames.specs.declared.call_positions.CallPosition.{CallPosition}
use Rattle.fmp_frames.specs.declared.sites.CallSite.{CallSite}
use Rattle.fmp_frames.specs.CallPositions.{AreCallsOf, position_of}
use Rattle.fmp_frames.specs.Sites.{call_sites}
use Rattle.fmp_image_bytes.specs.Images.{ImageTables}
use Rattle.fmp_instructions.specs.declared.instructions.MachineContext.{MachineContext}
use Rattle.fmp_instructions.specs.Instructions.{BodyTables}
use Rattle.fmp_kernel.specs.KernelViews.{KernelView}
use Rattle.fmp_question.specs.Sites.{tells_there}
use Rattle.fmp_looking.specs.declared.call_sentences.CallNever.{CallNever}
use Rattle.fmp_looking.specs.declared.call_sentences.RunSentences.{RunSentences}
use Rattle.fmp_looking.specs.NamedSystems.{IsNamedBy}

abbrev pub is_line : (line : ℕ) → Option CallPosition → Bool
is_line line None = false
is_line line (Some p) = nat_eq p.line line

-- the calls of a code that stand in a line, where the calls of its bodies stand so
abbrev pub calls_in : List BodyTables → List (List CallPosition) → (line : ℕ) → List CallSite
calls_in code bodies line = filter (λ s. is_line line (position_of code bodies s.body s.pc)) (call_sites code)

-- what a sentence says of a call
abbrev pub never_of : CallSentence → CallSite → CallNever
never_of p s =
    record {
      line = p.line;
      never = record { code = p.code; site = record { body = s.body; pc = s.pc }; by = p.by };
    }

-- what it says of each call of its line
abbrev pub nevers_of : List BodyTables → List (List CallPosition) → CallSentence → List CallNever
nevers_of code bodies p = map (λ s. never_of p s) (calls_in code bodies p.at)

abbrev pub nevers_in : List BodyTables → List (List CallPosition) → List CallSentence → List CallNever
nevers_in code bodies sentences = flat_map (λ p. nevers_of code bodies p) sentences

-- the line of the first sentence that a line breaks, which was just told: it tells that a call gets the answer
abbrev pub first_told : SystemTables → List CallNever → World MachineContext → Line → Option ℕ
first_told sys [] w l = None
first_told sys (n ∷ ns) w l = if tells_there sys w n.never l then Some n.line else first_told sys ns w l

-- sentences about calls, by which lines of a system are judged
pub record JudgeTables : Type 0 where
  pub system : SystemTables
  pub nevers : List CallNever

abbrev pub judge_of : ImageTables → List CallNever → JudgeTables
judge_of i nevers = record { system = i.system; nevers = nevers }

-- which of them a line breaks that was just told on a kernel
abbrev pub breaks_by : JudgeTables → KernelView (List BodyTables) MachineContext → Line → Option ℕ
breaks_by j k l = first_told j.system j.nevers k.world l

-- the sentences of a text for this system, whose image has bodies of this text
pub record AreSentencesOf (i : ImageTables) (sys : SystemTables) (src text : List ℕ) (s : RunSentences) : Type 0 where
  pub read : other_sentences_of sys text ≡ Ok s.expected.items
  pub of_calls : s.of_calls.items ≡ call_sentences_of sys text
  pub bodies : List (List CallPosition)
  pub calls : AreCallsOf src bodies
  pub nevers : s.nevers.items ≡ nevers_in i.code bodies (call_sentences_of sys text)

-- the same for the system of the image, with the names of the bodies of that text
pub record AreNamedSentences (i : ImageTables) (src text : List ℕ) (s : RunSentences) : Type 0 where
  pub named : SystemTables
  pub by_text : IsNamedBy src i.system named
  pub are : AreSentencesOf i named src text s
