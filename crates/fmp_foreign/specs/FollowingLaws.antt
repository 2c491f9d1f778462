-- What a journal shows that the text has followed.
use Rattle.std.specs.Prelude.{◌≡◌, ℕ, List}
use Rattle.fmp_base.specs.declared.events.Event.{Event}
use Rattle.fmp_base.specs.Meanings.{Meaning}
use Rattle.fmp_base.specs.Systems.{SystemTables}
use Rattle.fmp_kernel.specs.KernelViews.{KernelView}
use Rattle.fmp_outside.specs.declared.given.Given.{Given}
use Rattle.fmp_outside.specs.Keeping.{Follows, SameAlong}
use Rattle.fmp_outside.specs.OutsideLaws.{outside_reached}
use Rattle.fmp_base.specs.Setups.{setup}

-- a kernel whose bodies run outside has had the lines of this run of the text, and stands in the state of k
pub record AgreesWith {B C D : Type 0} (sys : SystemTables) (F : Meaning D) (m : ℕ) (d : D) (M : Meaning C) (n : ℕ)
    (gs : List Given) (k : KernelView B C) : Type 0 where
  pub events : List Event
  pub follows : Follows sys M n (setup sys M).world gs events
  pub same : SameAlong sys F m d M n gs events
  pub state : (outside_reached sys F m d gs).state ≡ k.world.state
