-- The slots of the table in which the states that were seen are found.
use Rattle.std.specs.Prelude.{◌≡◌, ℕ, ◌<◌, List, slice_get, Some}
use Rattle.fmp_visited.specs.declared.slots.Slot.{Slot}
use Rattle.fmp_visited.specs.declared.slots.Slot.TheVariants.{Taken, Free}

-- a row belongs to the state that has it, or into one of this many slots
abbrev pub IsSlotFor : (count : ℕ) → List (List ℕ) → List ℕ → Slot → Type 0
IsSlotFor count rows row (Taken state) = slice_get rows state ≡ Some row
IsSlotFor count rows row (Free slot) = slot.place < count
