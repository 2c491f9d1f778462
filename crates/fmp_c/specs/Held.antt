-- What a handle owns: nothing at null, else the box behind its pointer.
use Rattle.std.specs.Prelude.{◌≡◌, Option, Some, None}
use mir.Syntax.{Ty}
use base.Fml.{Fml, ftrue, fex}
use denote.RawPtr.{Ptr, null_ptr}
use Rattle.std_heap.specs.declared.Global.{Global}
use Rattle.std_heap.specs.contracts.GlobalAllocator.TheImpl.{ghosts}
use Rattle.std_alloc.specs.Box.Ownership.{box_owns}
use Rattle.fmp_c.specs.declared.machine.Machine.{Machine}
use Rattle.fmp_c.specs.contracts.machine.Machine.{the_row}

-- the C library's heap
abbrev pub heap : Global
heap = record { memory = record { seal = tt } }

-- the right to free a block of it
abbrev pub token : Ty → Ptr → Fml
token = ghosts.dealloc_token heap

abbrev pub held : Ptr → Option Machine → Fml
held at None = fex (at ≡ null_ptr) (λ _. ftrue)
held at (Some x) = box_owns token the_row at x
