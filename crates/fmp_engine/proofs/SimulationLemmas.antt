-- What a simulation gives an outlet, and what that is where the outlet is a list of bytes.
use Rattle.std.proofs.Common.{◌≡◌, ℕ, List, [], ◌++◌, ap, append-nil, length, subst, sym, take, ◌∙◌, Ok}
use Rattle.std.proofs.Math.Seq.{take-append_seam}
use Rattle.fmp_base.specs.declared.events.Event.{Event}
use Rattle.fmp_base.specs.Systems.{SystemTables}
use Rattle.fmp_base.specs.Texts.{whole_text}
use Rattle.fmp_instructions.specs.Machine.{code_meaning}
use Rattle.fmp_image_bytes.specs.Images.{ImageTables, Spells}
use Rattle.fmp_trace.specs.Steps.{steps_of}
use Rattle.fmp_engine.specs.Outlets.{Given}
use Rattle.fmp_engine.specs.Simulations.{Simulates, SimulatesInto}

-- what an outlet was given of the text of a run over the events of a steps text
pub gives : {T : Type 0} (gave : T → T → List ℕ → Type 0) (i : ImageTables) (image steps : List ℕ) (n : ℕ)
    (from to : T) (left : List ℕ)
    (sys : SystemTables) (es : List Event) → sys ≡ i.system → Spells i image → steps_of sys.processors steps ≡ Ok es
    → Given gave from to left (whole_text sys (code_meaning i.code) n es)
    → SimulatesInto gave image steps n from to left
gives gave i image steps n from to left sys es same spelled read given =
    record {
      text = whole_text sys (code_meaning i.code) n es;
      simulated =
          record {
            loaded = i;
            spelled = spelled;
            events = es;
            read = subst (λ (s : SystemTables). steps_of s.processors steps ≡ Ok es) same read;
            text = ap (λ (s : SystemTables). whole_text s (code_meaning i.code) n es) same;
          };
      given = given;
    }

-- a list of bytes to which all of a text was given
pub all_appended : (before after front whole : List ℕ) → after ≡ before ++ front → whole ≡ front ++ [] → after
    ≡ before ++ whole
all_appended before after front whole e h =
    e ∙ ap (λ (xs : List ℕ). before ++ xs) (sym (append-nil front) ∙ sym h)

-- one to which nothing was given
pub none_appended : (before after : List ℕ) → after ≡ before ++ [] → after ≡ before
none_appended before after e = e ∙ append-nil before

-- one that is cut back to what it was
pub cut_back : (before after front : List ℕ) → after ≡ before ++ front → take (length before) after ≡ before
cut_back before after front e = ap (take (length before)) e ∙ take-append_seam before front

pub simulates_appended : (image steps : List ℕ) (n : ℕ) (before after front text : List ℕ)
    → Simulates image steps n [] text
    → text ≡ front ++ [] → after ≡ before ++ front → Simulates image steps n before after
simulates_appended image steps n before after front text s h e =
    record {
      loaded = s.loaded;
      spelled = s.spelled;
      events = s.events;
      read = s.read;
      text = all_appended before after front text e h ∙ ap (λ (xs : List ℕ). before ++ xs) s.text;
    }
