-- Fields that stand in order and are read together.
use Rattle.std.specs.Prelude.{ℕ, [], ◌∷◌, ◌++◌, List, map}
use Rattle.std.specs.List.{flat_map, range_with_len}
use Rattle.fmp_fields.specs.declared.field.What.{What}
use Rattle.fmp_fields.specs.declared.field.What.TheVariants as what
use Rattle.fmp_fields.specs.declared.owner.Owner.{Owner}
use Rattle.fmp_fields.specs.declared.owner.Owner.TheVariants as owner
use Rattle.fmp_fields.specs.declared.piece.Piece.{Piece}
use Rattle.fmp_fields.specs.declared.piece.Piece.TheVariants as piece
use Rattle.fmp_fields.specs.declared.room.Room.{Room}

-- the fields of a task's block, and the task behind it in its queue
abbrev pub block_fields : ℕ → List What
block_fields t =
    what.Phase t ∷ what.Object t ∷ what.Wanted t ∷ what.Suspended t ∷ what.Priority t ∷ what.Processor t
    ∷ what.Activations t ∷ what.NextProcessor t ∷ what.Wakeups t ∷ what.TicksLeft t ∷ what.Behind t ∷ []

-- the fields of a processor, without those of its handler's body
abbrev pub processor_fields : ℕ → List What
processor_fields p =
    what.Runs p ∷ what.Lock p ∷ what.DispatchDisabled p ∷ what.InterruptHandler p ∷ what.CyclicHandler p ∷ []

-- where the body of an owner stands, a local of it, how many operands it has, and one of these
abbrev pub pc_of : Owner → What
pc_of (owner.Task t) = what.Pc t
pc_of (owner.Handler p) = what.HandlerPc p

abbrev pub local_of : Owner → ℕ → What
local_of (owner.Task t) l = what.Local t l
local_of (owner.Handler p) l = what.HandlerLocal p l

abbrev pub count_of : Owner → What
count_of (owner.Task t) = what.Operands t
count_of (owner.Handler p) = what.HandlerOperands p

abbrev pub operand_of : Owner → ℕ → What
operand_of (owner.Task t) i = what.Operand t i
operand_of (owner.Handler p) i = what.HandlerOperand p i

-- the fields of a body of this room
abbrev pub body_fields : Owner → Room → List What
body_fields o room =
    pc_of o ∷ (map (local_of o) (range_with_len 0 room.locals)
    ++ count_of o ∷ map (operand_of o) (range_with_len 0 room.operands))

-- the fields of a task whose body needs this room
abbrev pub fields_of_task : ℕ → Room → List What
fields_of_task t room = block_fields t ++ body_fields (owner.Task t) room

-- the fields of a processor whose handlers' bodies need this room
abbrev pub fields_of_processor : ℕ → Room → List What
fields_of_processor p room = processor_fields p ++ body_fields (owner.Handler p) room

-- the fields of a piece
abbrev pub fields_of_piece : Piece → List What
fields_of_piece (piece.Task t room) = fields_of_task t room
fields_of_piece (piece.Processor p room) = fields_of_processor p room
fields_of_piece (piece.Single f) = f ∷ []

-- the fields of pieces, one after the other
abbrev pub fields_of_pieces : List Piece → List What
fields_of_pieces pieces = flat_map fields_of_piece pieces

-- what is told of a list of fields that is read by pieces
pub record FieldList : Type 0 where
  pub items : List What
