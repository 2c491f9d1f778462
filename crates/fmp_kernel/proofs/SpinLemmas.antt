-- Where no actor spins.
use Rattle.std.proofs.Common.{◌≡◌, ◌<◌, ℕ, suc, ◌+◌, Bool, true, false, nat_eq, length, refl, ap, sym, subst, ◌∙◌}
use Rattle.std.proofs.Common.{arith}
use Rattle.std.proofs.lemmas.Bool.{eqb-true}
use Rattle.std.proofs.lemmas.Bool.Decides.{nat_tests}
use Rattle.fmp_base.specs.declared.states.Caller.TheVariants as caller
use Rattle.fmp_base.specs.declared.states.Handler.{Handler}
use Rattle.fmp_base.specs.declared.states.Lock.{Lock}
use Rattle.fmp_base.specs.ProcessorCalls.{is_free}
use Rattle.fmp_base.specs.States.{KernelState, processor_at}
use Rattle.fmp_base.specs.Systems.{SystemTables}
use Rattle.fmp_kernel.specs.Spins.{HoldNone, is_spin}
use Rattle.fmp_worlds.specs.Spins.{IsLockHeld, MaySpin}

-- one more processor that holds none
pub one_more_free : (s : KernelState) (n : ℕ) → HoldNone s n → is_spin (processor_at s n).lock ≡ false
    → HoldNone s (n + 1)
one_more_free s n h k p l = by_test (nat_eq p n) refl where
  by_test : (b : Bool) → nat_eq p n ≡ b → is_spin (processor_at s p).lock ≡ false
  by_test true e = subst (λ (v : ℕ). is_spin (processor_at s v).lock ≡ false) (sym (eqb-true p n e)) k
  by_test false e = h p (grind (arith, nat_tests, l, e))

pub none_held : (sys : SystemTables) (s : KernelState) (n : ℕ) → n ≡ length s.processors → HoldNone s n
    → IsLockHeld sys s → ⊥
none_held sys s n e h k =
    let spin : is_spin (processor_at s k.holder).lock ≡ true = ap is_spin k.holds in
    let below = k.there in
    let none = h k.holder (omega (arith, below, e)) in
    absurd (cc (spin, none))

pub no_locks : (sys : SystemTables) (s : KernelState) → length sys.spin_locks ≡ 0 → IsLockHeld sys s → ⊥
no_locks sys s e k = let some = k.some in absurd (omega (arith, some, e))

-- no handler does, and none whose processor is locked
pub no_handler : (sys : SystemTables) (s : KernelState) (p : ℕ) (h : Handler) → MaySpin sys s p (caller.Handler h) → ⊥
no_handler sys s p h k = absurd (cc (k.is))

pub none_locked : (sys : SystemTables) (s : KernelState) (p t : ℕ) → is_free (processor_at s p).lock ≡ false
    → MaySpin sys s p (caller.Task t) → ⊥
none_locked sys s p t e k = let free : is_free (processor_at s p).lock
    ≡ true = ap is_free k.free in absurd (cc (e, free))
