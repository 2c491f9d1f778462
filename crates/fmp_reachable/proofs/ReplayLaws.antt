-- Every world of a replay is regular.
use Rattle.std.proofs.Common.{ℕ, List, [], ◌∷◌}
use Rattle.fmp_base.specs.declared.events.Event.{Event}
use Rattle.fmp_base.specs.Meanings.{Meaning}
use Rattle.fmp_base.specs.Ranges.{IsInRange}
use Rattle.fmp_base.specs.Setups.{setup}
use Rattle.fmp_base.specs.Steps.{Done, Reaction, Nothing, Did, Kept, step}
use Rattle.fmp_base.specs.Systems.{SystemTables}
use Rattle.fmp_instructions.specs.Machine.{code_meaning}
use Rattle.fmp_image_bytes.specs.Images.{ImageTables}
use Rattle.fmp_kernel.specs.KernelViews.{done_or}
use Rattle.fmp_replay.specs.Replays.{done_after, replay}
use Rattle.fmp_reachable.proofs.WorldLaws.{LeavesReached, setup-reached, step-reached}
use Rattle.fmp_reachable.specs.Sound.{IsReached}

module _ {C : Type 0} (sys : SystemTables) (M : Meaning C) where
  done_or-reached : (d : Done C) (x : Reaction C) → IsReached sys d.world → LeavesReached sys M x
      → IsReached sys (done_or d x).world
  done_or-reached d Nothing h k = h
  done_or-reached d (Did e) h k = k
  done_or-reached d (Kept p v) h k = k

  done-reached : IsInRange sys → (n : ℕ) (d : Done C) (es : List Event) → IsReached sys d.world
      → IsReached sys (done_after sys M n d es).world
  done-reached range n d [] h = h
  done-reached range n d (e ∷ es) h =
      done-reached range n (done_or d (step sys M n d.world e)) es
      (done_or-reached d (step sys M n d.world e) h (step-reached sys M range n d.world e h))

pub replays-reached : (i : ImageTables) (n : ℕ) (es : List Event) → IsInRange i.system
    → IsReached i.system (replay i n es).world
unfolding replay
replays-reached i n es range =
    done-reached i.system (code_meaning i.code) range n (setup i.system (code_meaning i.code)) es
    (setup-reached i.system (code_meaning i.code))
