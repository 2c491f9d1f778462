-- The texts so far are borrowed.
use Rattle.std.proofs.Common.{◌≡◌, map, take}
use Rattle.fmp.proofs.carrying.borrowed.Given as goal

abbrev pub invariant-loop-text : goal.invariant-loop-text
invariant-loop-text l = map (λ s. s.now) l.inputs.items ≡ map (λ t. t.items) (take l.text-index l.texts)
