use Rattle.std.proofs.Common.{◌≡◌, take, length}
use Rattle.fmp_tasks.proofs.kernel_state.copying.put_words_back.Given as goal

abbrev pub invariant-loop-i : goal.invariant-loop-i
invariant-loop-i l = record { long : length l.words ≡ length l.from; items : take l.i l.words ≡ take l.i l.from }
