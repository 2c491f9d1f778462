use Rattle.std.proofs.Common.{◌≡◌, take, length}
use Rattle.fmp_contexts.proofs.contexts.copying.put_handlers_back.Given as goal

abbrev pub invariant-loop-p : goal.invariant-loop-p
invariant-loop-p g l = record {
  long : length l.handlers ≡ length l.from;
  items : take l.p l.handlers ≡ take l.p l.from;
}
