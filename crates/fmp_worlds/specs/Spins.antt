-- Where a call can find its spin lock held.
use Rattle.std.specs.Prelude.{◌≡◌, ℕ, ◌<◌, length}
use Rattle.fmp_base.specs.declared.states.Caller.{Caller}
use Rattle.fmp_base.specs.declared.states.Caller.TheVariants as caller
use Rattle.fmp_base.specs.declared.states.Lock.TheVariants.{Free, Spin}
use Rattle.fmp_base.specs.States.{KernelState, processor_at}
use Rattle.fmp_base.specs.Systems.{SystemTables}

-- the system has spin locks, and a processor holds one
pub record IsLockHeld (sys : SystemTables) (s : KernelState) : Type 0 where
  pub some : 0 < length sys.spin_locks
  pub holder : ℕ
  pub there : holder < length s.processors
  pub lock : ℕ
  pub holds : (processor_at s holder).lock ≡ Spin lock

-- the caller on processor p may find a spin lock held: it is a task, its processor is not locked, and one holds a lock
pub record MaySpin (sys : SystemTables) (s : KernelState) (p : ℕ) (who : Caller) : Type 0 where
  pub held : IsLockHeld sys s
  pub free : (processor_at s p).lock ≡ Free
  pub task : ℕ
  pub is : who ≡ caller.Task task
