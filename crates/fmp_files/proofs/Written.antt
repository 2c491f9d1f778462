-- A write that took some bytes has not failed.
use Rattle.std.proofs.Common.{◌≡◌, ◌<◌, ◌||◌, ℕ, zero, suc, Bool, true, false, Ok, arith}
use Rattle.fmp_files.specs.Files.{took_none}

pub took_some : (E : Type 0) (was is : Bool) (count : ℕ) → is ≡ (was || took_none {E = E} (Ok count)) → 0 < count → is
    ≡ was
took_some E was is zero e some = absurd (omega arith)
took_some E true is (suc count) e some = e
took_some E false is (suc count) e some = e
