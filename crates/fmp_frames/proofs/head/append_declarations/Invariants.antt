use Rattle.std.proofs.Common.{◌≡◌, ◌≤◌, ◌++◌, drop}
use Rattle.fmp_frames.specs.Dumps.{declarations_text}
use Rattle.fmp_frames.proofs.head.append_declarations.Given as goal

abbrev pub invariant-loop-declaration : goal.invariant-loop-declaration
invariant-loop-declaration l =
    record {
      text : l.out.items ++ declarations_text l.place (drop l.declaration-index l.declarations)
          ≡ l.initial.out.items ++ declarations_text 0 l.declarations;
      few : l.place ≤ l.declaration-index;
    }
