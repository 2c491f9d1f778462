use Rattle.std.proofs.Common.{◌≡◌, ◌++◌, drop}
use Rattle.fmp_frames.specs.Dumps.{changes_text}
use Rattle.fmp_frames.proofs.dump.append_changed.Given as goal

abbrev pub invariant-loop-place : goal.invariant-loop-place
invariant-loop-place l =
    l.out.items ++ changes_text l.place (drop l.place l.variables) l.before l.values
    ≡ l.initial.out.items ++ changes_text 0 l.variables l.fn.before l.fn.values
