-- What a run told, frame by frame.
use Rattle.std.proofs.Common.{◌≡◌, ℕ, ◌+◌, ◌≤◌, ◌^◌, List, [], ◌∷◌, ◌++◌, Option, Some, None, length, refl, sym}
use Rattle.std.proofs.Common.{ap, ◌∙◌, arith, append_assoc}
use Rattle.std.proofs.lemmas.List.{append-nil, length-append}
use Rattle.fmp_base.specs.declared.events.Line.{Line}
use Rattle.fmp_base.specs.Meanings.{Meaning}
use Rattle.fmp_base.specs.Steps.{Reaction, Nothing, Did, Kept}
use Rattle.fmp_base.specs.Systems.{SystemTables, tables_of}
use Rattle.fmp_kernel.specs.KernelViews.{KernelView, view_after}
use Rattle.fmp_frames.specs.declared.comparing.ToldRun.{ToldRun}
use Rattle.fmp_frames.specs.Compares.{IsToldFurther, events_of, told_at, told_from}
use Rattle.fmp_frames.specs.Frames.{FrameTable, framed, frames_of_each}
use Rattle.fmp_frames.specs.Showing.{HasShown}
use Rattle.fmp_frames.specs.Shown.{number_after}

-- at most one frame comes of each thing that comes
module _ {B C X : Type 0} (meaning : B → Meaning C) (reaction : KernelView B C → X → Reaction C) where
  framed_few : (k : KernelView B C) (o : Reaction C) (rest : List FrameTable)
      → length (framed meaning k o rest) ≤ length rest + 1
  framed_few k Nothing rest = omega arith
  framed_few k (Did d) rest = omega arith
  framed_few k (Kept p w) rest = omega arith

  pub few_frames : (k : KernelView B C) (xs : List X) → length (frames_of_each meaning reaction k xs) ≤ length xs
  few_frames k [] = omega arith
  few_frames k (x ∷ xs) =
      let rest = few_frames (view_after k (reaction k x)) xs in
      let here = framed_few k (reaction k x) (frames_of_each meaning reaction (view_after k (reaction k x)) xs) in
      omega arith

told_long : (sys : SystemTables) (n : ℕ) (kept : Option ℕ) (lines : List Line)
    → n + length (told_at sys n kept lines) ≡ number_after n kept
told_long sys n None lines = refl
told_long sys n (Some p) lines = omega arith

number_grows : (n : ℕ) (kept : Option ℕ) → number_after n kept ≤ n + 1
number_grows n None = omega arith
number_grows n (Some p) = omega arith

-- after all frames the run tells what they tell
pub told-all : (x : ToldRun) (fs : List FrameTable) (y : ToldRun) → HasShown IsToldFurther x fs y
    → length (events_of x) + length fs ≤ 2 ^ 32
    → events_of y ≡ events_of x ++ told_from (tables_of x.sys.now) (length (events_of x)) fs
told-all x [] y h few = sym (ap events_of h) ∙ sym (append-nil (events_of x))
told-all x (f ∷ fs) y (u, one, rest) few =
    let n : ℕ = length (events_of x) in
    let sys : SystemTables = tables_of x.sys.now in
    let here : List (List ℕ) = told_at sys n f.kept f.lines in
    let told : events_of u ≡ events_of x ++ here = one.events (omega arith) in
    let long : length (events_of u) ≡ number_after n f.kept =
    ap length told ∙ length-append (events_of x) here ∙ told_long sys n f.kept f.lines in
    let grows : number_after n f.kept ≤ n + 1 = number_grows n f.kept in
    let more : events_of y ≡ events_of u ++ told_from (tables_of u.sys.now) (length (events_of u)) fs =
    told-all u fs y rest (omega arith) in
    more
    ∙ ap (λ m. events_of u ++ told_from (tables_of u.sys.now) m fs) long
    ∙ ap (λ s. events_of u ++ told_from (tables_of s.now) (number_after n f.kept) fs) one.sys
    ∙ ap (λ es. es ++ told_from sys (number_after n f.kept) fs) told
    ∙ append_assoc (events_of x) here (told_from sys (number_after n f.kept) fs)
