-- What was seen of a run, frame by frame.
use Rattle.std.proofs.Common.{◌≡◌, ℕ, ◌+◌, ◌-◌, ◌<◌, ◌≤◌, ◌^◌, List, [], ◌∷◌, Option, Some, None, length, map, min}
use Rattle.std.proofs.Common.{ap, ◌∙◌, subst, arith, take}
use Rattle.fmp_base.specs.declared.states.Processor.{Processor}
use Rattle.fmp_base.specs.declared.states.TaskBlock.{TaskBlock}
use Rattle.fmp_base.specs.Meanings.{Meaning}
use Rattle.fmp_base.specs.Steps.{Reaction, Nothing, Did, Kept}
use Rattle.fmp_base.specs.Systems.{SystemTables}
use Rattle.fmp_drive.specs.declared.next.NextRun.{NextRun}
use Rattle.fmp_kernel.specs.Comings.{view_after_each}
use Rattle.fmp_kernel.specs.KernelViews.{KernelView, view_after}
use Rattle.fmp_frames.specs.declared.watching.RunWatcher.{RunWatcher}
use Rattle.fmp_frames.specs.Frames.{FrameTable, framed, frames_of_each}
use Rattle.fmp_frames.specs.Showing.{HasShown}
use Rattle.fmp_frames.specs.Shown.{frame_now, number_after}
use Rattle.fmp_frames.specs.Watches.{IsSeen, IsSeenFurther, is_over, sight_of, sight_seen, told_after}
use Rattle.fmp_why.specs.declared.obstacles.SpinWait.{SpinWait}
use Rattle.fmp_why.specs.Histories.{Told, told_with}
use Rattle.fmp_why.specs.HistoryTables.{IsTold, Tables, tables}
use Rattle.fmp_why.specs.Reports.{Sight}

number_grows : (n : ℕ) (kept : Option ℕ) → number_after n kept ≤ n + 1
number_grows n None = omega arith
number_grows n (Some p) = omega arith

-- after all frames what they told is in the history
pub told-all : (sys : SystemTables) (x : RunWatcher) (fs : List FrameTable) (y : RunWatcher) (told : Told)
    → HasShown IsSeenFurther x fs y → x.number + length fs < 2 ^ 32 → IsTold sys told (tables x.history)
    → IsTold sys (told_after x.number fs told) (tables y.history)
told-all sys x [] y told h few so_far = subst (λ (v : RunWatcher). IsTold sys told (tables v.history)) h so_far
told-all sys x (f ∷ fs) y told (u, one, rest) few so_far =
    let n : ℕ = number_after x.number f.kept in
    let is : u.number ≡ n = one.number (omega arith) in
    let grows : n ≤ x.number + 1 = number_grows x.number f.kept in
    let more = told-all sys u fs y (told_with f.lines u.number told) rest (omega arith) (one.told sys told so_far) in
    subst (λ (m : ℕ). IsTold sys (told_after m fs (told_with f.lines m told)) (tables y.history)) is more

-- the same from event 0 on
pub told-whole : (sys : SystemTables) (x : RunWatcher) (fs : List FrameTable) (y : RunWatcher) (told : Told)
    → x.number ≡ 0 → HasShown IsSeenFurther x fs y → length fs < 2 ^ 32 - 1 → IsTold sys told (tables x.history)
    → IsTold sys (told_after 0 fs told) (tables y.history)
told-whole sys x fs y told zero h few so_far =
    subst (λ (n : ℕ). IsTold sys (told_after n fs told) (tables y.history)) zero
    (told-all sys x fs y told h (omega arith) so_far)

module _ {B C X : Type 0} (meaning : B → Meaning C) (reaction : KernelView B C → X → Reaction C) where
  abbrev Seen : RunWatcher → KernelView B C → Type 0
  Seen x k = IsSeen x (frame_now meaning k)

  -- after one thing more that came, the tasks and the processors are seen as they are
  seen-one : (x y : RunWatcher) (k : KernelView B C) (o : Reaction C) (rest : List FrameTable)
      → Seen x k → HasShown IsSeenFurther x (framed meaning k o rest) y
      → (u : RunWatcher) × Seen u (view_after k o) × HasShown IsSeenFurther u rest y
  seen-one x y k Nothing rest seen h = (x, seen, h)
  seen-one x y k (Did d) rest seen (u, one, more) =
      (u, record { blocks = one.seen.blocks; processors = one.seen.processors; spins = one.seen.spins }, more)
  seen-one x y k (Kept p w) rest seen (u, one, more) =
      (u, record { blocks = one.seen.blocks; processors = one.seen.processors; spins = one.seen.spins }, more)

  -- at the end they are those of the kernel after all that came
  pub seen-last : (x y : RunWatcher) (k : KernelView B C) (xs : List X) → Seen x k
      → HasShown IsSeenFurther x (frames_of_each meaning reaction k xs) y → Seen y (view_after_each reaction k xs)
  seen-last x y k [] seen h = subst (λ (v : RunWatcher). Seen v k) h seen
  seen-last x y k (e ∷ xs) seen h =
      let k' : KernelView B C = view_after k (reaction k e) in
      let one = seen-one x y k (reaction k e) (frames_of_each meaning reaction k' xs) seen h in
      seen-last one.0 y k' xs one.1 one.2

abbrev made : SystemTables → Tables → List NextRun → List TaskBlock → List Processor → List (Option SpinWait) → Sight
made sys h runs b p s =
    record {
      sys = sys;
      history = h;
      blocks = b;
      processors = p;
      spins = s;
      over = map is_over (take (min (length p) 8) runs);
    }

-- what was seen as a frame has it is that frame
pub same-sight : (sys : SystemTables) (x : RunWatcher) (f : FrameTable) (runs : List NextRun) → IsSeen x f
    → sight_seen sys x runs ≡ sight_of sys (tables x.history) f runs
same-sight sys x f runs seen =
    let h : Tables = tables x.history in
    ap (λ (b : List TaskBlock). made sys h runs b x.processors.items x.spins.items) seen.blocks
    ∙ ap (λ (p : List Processor). made sys h runs f.blocks p x.spins.items) seen.processors
    ∙ ap (λ (s : List (Option SpinWait)). made sys h runs f.blocks f.processors s) seen.spins
