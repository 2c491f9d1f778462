use Rattle.std.proofs.Common.{◌-◌, ◌≤◌, length, map}
use Rattle.std.specs.List.{All}
use Rattle.fmp_lex.specs.Packing.{IsPacked, whole_in}
use Rattle.fmp_lex.specs.Windows.{CutsUpTo}
use Rattle.fmp_lex.proofs.cutting.cut_part.Given as goal

abbrev pub invariant-pieces : goal.invariant-pieces
invariant-pieces l = record {
  within : l.i ≤ length l.text;
  few : length l.packed.items ≤ l.i;
  cut : CutsUpTo l.text l.i l.fn.start (map (whole_in l.text) l.packed.items);
  packed : All (IsPacked l.text) l.packed.items;
}

abbrev pub decreases-pieces : goal.decreases-pieces
decreases-pieces l = length l.initial.text - l.i
