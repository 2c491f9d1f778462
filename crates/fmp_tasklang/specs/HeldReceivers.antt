-- The variables that the box of a call holds.
use Rattle.std.specs.Prelude.{Option, Some, None}
use Rattle.fmp_tasklang.specs.declared.receivers.ReceiverRoom.{ReceiverRoom}
use Rattle.fmp_tasklang.specs.declared.receivers.ReceiverRoom.TheVariants as held
use Rattle.fmp_tasklang.specs.declared.trees.Word.{Word}

abbrev pub held_out : ReceiverRoom → Option Word
held_out held.Nothing = None
held_out (held.Out w) = Some w.value
held_out (held.Result w) = None
held_out (held.Both b) = Some b.value.0

abbrev pub held_result : ReceiverRoom → Option Word
held_result held.Nothing = None
held_result (held.Out w) = None
held_result (held.Result w) = Some w.value
held_result (held.Both b) = Some b.value.1
