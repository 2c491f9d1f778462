use Rattle.std.proofs.Common.{◌≡◌, take}
use Rattle.fmp_timeline.specs.Canvases.{Adds, escaped}
use Rattle.fmp_timeline.proofs.canvas.Canvas.text.Given as goal

abbrev pub invariant-loop-byte : goal.invariant-loop-byte
invariant-loop-byte l = Adds l.initial.self l.self (escaped (take l.byte-index l.text))
