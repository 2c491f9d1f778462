use Rattle.std.proofs.Common.{◌≡◌, drop, length}
use Rattle.fmp_emission.specs.Breaks.{led_to}
use Rattle.fmp_emission.proofs.emission.end_breaks.Given as goal

abbrev pub invariant-loop-i : goal.invariant-loop-i
invariant-loop-i l =
    let begun = l.fn.out.instructions.items in
    record {
      code :
          led_to (length begun) (drop l.i l.breaks.items) l.out.instructions.items ≡
          led_to (length begun) (drop l.from l.breaks.items) begun;
      len : length l.out.instructions.items ≡ length begun;
      depths : l.out.depths.items ≡ l.fn.out.depths.items;
    }
