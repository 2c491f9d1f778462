-- Live locals: those that a body may read before it writes them again. The others are dead.
use Rattle.std.specs.Prelude.{◌≡◌, ℕ, ◌+◌, Bool, true, false, not, ◌&&◌, ◌||◌, nat_eq, nat_le, nat_lt, Option, Some}
use Rattle.std.specs.Prelude.{None, List, [], get_or, slice_get, map}
use Rattle.fmp_instructions.specs.declared.instructions.Instruction.{Instruction}
use Rattle.fmp_instructions.specs.declared.instructions.Instruction.TheVariants.{Load, Store, LoadIndexed, Jump}
use Rattle.fmp_instructions.specs.declared.instructions.Instruction.TheVariants.{JumpIfZero, Call, End}
use Rattle.fmp_instructions.specs.Instructions.{BodyTables, instructions_at}
use Rattle.fmp_instructions.specs.Machine.{call_before}
use Rattle.fmp_live.specs.declared.live_rows.LiveRows.{LiveRows}
use Rattle.fmp_live.specs.declared.live_rows.LiveLocals.{LiveLocals}

-- for each place of a body, which locals are live where it goes on from there, and which are where it awaits there the
-- reply to the call before it
pub record LiveTable : Type 0 where
  pub goes : List (List Bool)
  pub awaits : List (List Bool)

abbrev pub live_table : LiveRows → LiveTable
live_table r = record { goes = r.goes.items; awaits = r.awaits.items }

abbrev pub live_tables : LiveLocals → List LiveTable
live_tables l = map live_table l.bodies.items

-- the table of a body; an empty one if it has none
abbrev pub table_at : List LiveTable → ℕ → LiveTable
table_at tables body = get_or tables body (record { goes = []; awaits = [] })

-- which locals are live at a place of a body, where it goes on from there or awaits a reply there
abbrev pub row_of : LiveTable → (place : ℕ) → (goes : Bool) → List Bool
row_of t place true = get_or t.goes place []
row_of t place false = get_or t.awaits place []

-- whether a local is live at a place; one that the rows leave out is
abbrev pub is_live : List (List Bool) → ℕ → ℕ → Bool
is_live rows place v = get_or (get_or rows place []) v true

-- whether a local is one of an array
abbrev pub is_within : (base places v : ℕ) → Bool
is_within base places v = nat_le base v && nat_lt v (base + places)

-- whether a local must be live before this instruction: it is read, or it is live afterwards and not written
abbrev pub is_needed : LiveTable → (place : ℕ) → Instruction → (v : ℕ) → Bool
is_needed t place (Load w) v = nat_eq v w || is_live t.goes (place + 1) v
is_needed t place (Store w) v = not (nat_eq v w) && is_live t.goes (place + 1) v
is_needed t place (LoadIndexed base places) v = is_within base places v || is_live t.goes (place + 1) v
is_needed t place (Jump a) v = is_live t.goes a v
is_needed t place (JumpIfZero a) v = is_live t.goes a v || is_live t.goes (place + 1) v
is_needed t place (Call service out result) v = is_live t.awaits (place + 1) v
is_needed t place End v = false
is_needed t place _ v = is_live t.goes (place + 1) v

abbrev pub is_named : Option ℕ → ℕ → Bool
is_named None v = false
is_named (Some w) v = nat_eq v w

-- whether every reply to this call writes a local: the one before `=`, and, where out places count as written by every
-- reply, the one at the out place
abbrev pub is_replied : (outs : Bool) → Option Instruction → ℕ → Bool
is_replied outs (Some (Call service out result)) v = is_named result v || outs && is_named out v
is_replied outs _ v = false

-- whether a local must be live where a body awaits a reply at a place: it is live afterwards and not written
abbrev pub is_awaited : (outs : Bool) → LiveTable → List Instruction → (place v : ℕ) → Bool
is_awaited outs t code place v = is_live t.goes place v && not (is_replied outs (call_before code place) v)

-- no local that is dead at a place must be live before its instruction
abbrev pub KeepsGoes : List Instruction → LiveTable → (place : ℕ) → Type 0
KeepsGoes code t place =
    (v : ℕ) (i : Instruction) → slice_get code place ≡ Some i → is_live t.goes place v ≡ false →
    is_needed t place i v ≡ false

-- nor, where it is dead while a reply is awaited, then
abbrev pub KeepsAwaits : (outs : Bool) → List Instruction → LiveTable → (place : ℕ) → Type 0
KeepsAwaits outs code t place = (v : ℕ) → is_live t.awaits place v ≡ false → is_awaited outs t code place v ≡ false

-- no local that the table calls dead has to be live
pub record IsLiveTable (outs : Bool) (code : List Instruction) (t : LiveTable) : Type 0 where
  pub goes : (place : ℕ) → KeepsGoes code t place
  pub awaits : (place : ℕ) → KeepsAwaits outs code t place

-- the tables of all bodies are such ones
abbrev pub AreLiveTables : (outs : Bool) → List BodyTables → List LiveTable → Type 0
AreLiveTables outs bodies tables =
    (body : ℕ) → IsLiveTable outs (instructions_at bodies body) (table_at tables body)
