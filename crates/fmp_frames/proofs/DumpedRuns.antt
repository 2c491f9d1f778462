-- A dump is that of the frames that it was shown.
use Rattle.std.proofs.Common.{◌≡◌, ◌∙◌, ◌+◌, ◌-◌, ◌^◌, ◌<◌, ◌≤◌, ℕ, suc, List, [], ◌∷◌, ◌++◌, ap, append_assoc}
use Rattle.std.proofs.Common.{arith, length, sym}
use Rattle.fmp_base.specs.Meanings.{Meaning}
use Rattle.fmp_base.specs.Steps.{Reaction, Nothing, Did, Kept}
use Rattle.fmp_base.specs.Systems.{SystemTables}
use Rattle.fmp_kernel.specs.KernelViews.{KernelView, view_after}
use Rattle.fmp_frames.specs.declared.dump.Waves.{Waves}
use Rattle.fmp_frames.specs.declared.variable.Variable.{Variable}
use Rattle.fmp_frames.specs.Declarations.{variables_of}
use Rattle.fmp_frames.specs.DumpedRuns.{DumpsAreOfTheirFrames, IsBegun, IsDumped, beginning, dump_text}
use Rattle.fmp_frames.specs.DumpedRuns.{events_text, number_after}
use Rattle.fmp_frames.specs.Dumps.{event_text, time_text}
use Rattle.fmp_frames.specs.Frames.{FrameTable, framed, frames_of_each}
use Rattle.fmp_frames.specs.Showing.{HasShown}
use Rattle.fmp_frames.specs.Shown.{WasShown, frame_now}
use Rattle.fmp_frames.specs.Values.{values_of}

-- what is left of a run
ends : (fs : List FrameTable) (n : ℕ) (vs : List Variable) (xs before : List ℕ) (u last : Waves)
    → n + length fs < 2 ^ 32 - 1 → u.events ≡ n → u.variables.items ≡ vs → u.values.items ≡ xs → u.text.items ≡ before
    → HasShown IsDumped u fs last
    → last.text.items ++ time_text (number_after last.events) ≡ before ++ events_text n vs xs fs
ends [] n vs xs before u last few events variables values text h =
    let next : number_after n ≡ n + 1 = omega (arith, few) in
    ap (λ (w : Waves). w.text.items ++ time_text (number_after w.events)) (sym h)
    ∙ ap (λ (e : ℕ). u.text.items ++ time_text (number_after e)) events
    ∙ ap (λ (e : ℕ). u.text.items ++ time_text e) next
    ∙ ap (λ (xs : List ℕ). xs ++ time_text (n + 1)) text
ends (f ∷ fs) n vs xs before u last few events variables values text h =
    let v = h.0 in
    let d = h.1 in
    let ys = values_of f vs in
    let next : number_after n ≡ n + 1 = omega (arith, few) in
    let number : number_after u.events ≡ n + 1 = ap (λ (e : ℕ). number_after e) events ∙ next in
    let here = event_text (n + 1) vs xs ys in
    let told : v.text.items ≡ before ++ here =
    d.text
    ∙ ap (λ (e : ℕ). u.text.items
    ++ event_text e u.variables.items u.values.items (values_of f u.variables.items)) number
    ∙ ap (λ (ws : List Variable). u.text.items ++ event_text (n + 1) ws u.values.items (values_of f ws)) variables
    ∙ ap (λ (zs : List ℕ). u.text.items ++ event_text (n + 1) vs zs ys) values
    ∙ ap (λ (zs : List ℕ). zs ++ here) text in
    ends fs (n + 1) vs ys (before ++ here) v last (omega (arith, few)) (d.events ∙ number)
    (ap (λ w. w.items) d.variables ∙ variables)
    (d.values ∙ ap (λ (ws : List Variable). values_of f ws) variables) told h.2
    ∙ append_assoc before here (events_text (n + 1) vs ys fs)

pub dumps_are_of_their_frames : DumpsAreOfTheirFrames
dumps_are_of_their_frames sys setup fs first last few begun shown =
    ends fs 0 (variables_of sys) (values_of setup (variables_of sys)) (beginning sys setup) first last
    (omega (arith, few)) begun.events begun.variables begun.values begun.text shown

-- no event has more than one frame
one_frame : {B C : Type 0} (meaning : B → Meaning C) (k : KernelView B C) (r : Reaction C) (rest : List FrameTable)
    (n : ℕ) → length rest ≤ n → length (framed meaning k r rest) ≤ suc n
one_frame meaning k Nothing rest n h = omega (arith, h)
one_frame meaning k (Did d) rest n h = omega (arith, h)
one_frame meaning k (Kept p w) rest n h = omega (arith, h)

few_frames : {B C X : Type 0} (meaning : B → Meaning C) (reaction : KernelView B C → X → Reaction C)
    (k : KernelView B C) (xs : List X) → length (frames_of_each meaning reaction k xs) ≤ length xs
few_frames meaning reaction k [] = omega arith
few_frames meaning reaction k (x ∷ xs) =
    let r = reaction k x in
    one_frame meaning k r (frames_of_each meaning reaction (view_after k r) xs) (length xs)
    (few_frames meaning reaction (view_after k r) xs)

-- the dump of what comes to a kernel
pub dump_of_run : {B C X : Type 0} (sys : SystemTables) (meaning : B → Meaning C)
    (reaction : KernelView B C → X → Reaction C) (k : KernelView B C) (xs : List X) (last : Waves)
    → length xs ≤ 2 ^ 31 → WasShown (λ w f. IsBegun sys f w) IsDumped meaning reaction k xs last
    → last.text.items ++ time_text (number_after last.events)
    ≡ dump_text sys (frame_now meaning k) (frames_of_each meaning reaction k xs)
dump_of_run sys meaning reaction k xs last few h =
    let frames = frames_of_each meaning reaction k xs in
    let less : length frames ≤ length xs = few_frames meaning reaction k xs in
    dumps_are_of_their_frames sys (frame_now meaning k) frames h.first last (omega (arith, few, less)) h.begins h.frames
