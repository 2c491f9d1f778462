-- Worlds whose fields have the same numbers are alike.
use Rattle.std.proofs.Common.{◌≡◌, ℕ, ◌<◌, ◌%◌, List, Bool, true, arith}
use Rattle.std.specs.Prelude.{map}
use Rattle.fmp_base.specs.Meanings.{World}
use Rattle.fmp_base.specs.Systems.{SystemTables}
use Rattle.fmp_bisimulation.specs.Alike.{Alike, AlikeStates}
use Rattle.fmp_fields.specs.declared.field.What.{What}
use Rattle.fmp_fields.specs.declared.field.What.TheVariants as what
use Rattle.fmp_fields.specs.FieldNumbers.{number_of}
use Rattle.fmp_reachable.specs.Readable.{IsReadable}
use Rattle.fmp_fields.specs.Fields.{AreAllFields}
use Rattle.fmp_fields.proofs.BodyFields.{bodies-told}
use Rattle.fmp_fields.proofs.StateFields.{SameFields, row-same, same-at}
use Rattle.fmp_fields.proofs.ZeroedBodies.{readable-zeroed}
use Rattle.fmp_instructions.specs.declared.instructions.MachineContext.{MachineContext}
use Rattle.fmp_instructions.specs.Instructions.{BodyTables}
use Rattle.fmp_live.specs.LiveLocals.{AreLiveTables, LiveTable}
use Rattle.fmp_live.specs.Zeroed.{IsLike, zeroed}
use Rattle.fmp_live.proofs.LikeLaws.{zeroed-like}
use Rattle.fmp_reachable.proofs.RowLaws.{rows-told}
use Rattle.fmp_reachable.proofs.AlikeWorlds.{worlds-told}
use Rattle.fmp_reachable.specs.Rows.{SameRow}
use Rattle.fmp_reachable.proofs.SameBodies.{bodies-same}

pub fields-told : (sys : SystemTables) (bodies : List BodyTables) (limited : Bool) (fields : List What)
    (v w : World MachineContext) (came other : ℕ)
    → AreAllFields sys bodies limited fields → IsReadable sys bodies v → IsReadable sys bodies w
    → map (number_of sys v came) fields ≡ map (number_of sys w other) fields → Alike sys v w
fields-told sys bodies limited fields v w came other all a b e =
    let h : SameFields sys bodies v w came other =
    record { each = λ f is. same-at (number_of sys v came) (number_of sys w other) fields f e (all.each f is) } in
    let row : SameRow sys v.state w.state = row-same sys bodies v w came other a b h in
    let states : AlikeStates sys v.state w.state = rows-told sys v.state w.state a.regular.state b.regular.state row in
    let told = bodies-told sys bodies v w came other a b h states in
    worlds-told sys v w a.regular b.regular row (bodies-same sys bodies v w a.rooms b.rooms told)

-- so are worlds whose fields have the same numbers once dead locals are 0, but for these locals
pub live-fields-told : (outs : Bool) (sys : SystemTables) (bodies : List BodyTables) (limited : Bool)
    (fields : List What) (v w : World MachineContext) (tables others : List LiveTable) (came other : ℕ)
    → AreAllFields sys bodies limited fields → AreLiveTables outs bodies tables → AreLiveTables outs bodies others
    → IsReadable sys bodies v → IsReadable sys bodies w
    → map (number_of sys (zeroed sys tables v) came) fields ≡ map (number_of sys (zeroed sys others w) other) fields
    → IsLike outs sys bodies v w
live-fields-told outs sys bodies limited fields v w tables others came other all live also a b e =
    zeroed-like outs sys bodies v w tables others live also a.regular.settled b.regular.settled
    (fields-told sys bodies limited fields (zeroed sys tables v) (zeroed sys others w) came other all
    (readable-zeroed sys tables v bodies a) (readable-zeroed sys others w bodies b) e)

below-256 : (m n : ℕ) → m < 256 → n < 256 → m % 256 ≡ n % 256 → m ≡ n
below-256 m n a b e = omega (arith, a, b, e)

pub interrupts-told : (sys : SystemTables) (bodies : List BodyTables) (limited : Bool) (fields : List What)
    (v w : World MachineContext) (came other : ℕ)
    → AreAllFields sys bodies limited fields → limited ≡ true → came < 256 → other < 256
    → map (number_of sys v came) fields ≡ map (number_of sys w other) fields → came ≡ other
interrupts-told sys bodies limited fields v w came other all counted a b e =
    below-256 came other a b
    (same-at (number_of sys v came) (number_of sys w other) fields what.Interrupts e (all.interrupts counted))
