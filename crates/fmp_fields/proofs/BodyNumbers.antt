-- The numbers of the fields of a body, of which all are told by one context.
use Rattle.std.proofs.Common.{◌≡◌, ℕ, ◌+◌, List, [], ◌∷◌, ◌++◌, Option, None, Some, length, map, refl, sym, ap, ◌∙◌}
use Rattle.std.specs.List.{range_with_len}
use Rattle.std.proofs.lemmas.List.{map-append}
use Rattle.std.proofs.lemmas.Simd.{map-map}
use Rattle.fmp_base.specs.Meanings.{World}
use Rattle.fmp_base.specs.Systems.{SystemTables}
use Rattle.fmp_fields.specs.declared.field.What.{What}
use Rattle.fmp_fields.specs.declared.owner.Owner.{Owner}
use Rattle.fmp_fields.specs.declared.owner.Owner.TheVariants as owner
use Rattle.fmp_fields.specs.declared.room.Room.{Room}
use Rattle.fmp_fields.specs.FieldNumbers.{body_number, number_of, owned_by}
use Rattle.fmp_fields.specs.Pieces.{body_fields, count_of, local_of, operand_of, pc_of}
use Rattle.fmp_fields.specs.Reading.{context_numbers}
use Rattle.fmp_instructions.specs.declared.instructions.MachineContext.{MachineContext}

-- what a function gives for each field of a body
abbrev pub body_given : (What → ℕ) → Owner → Room → List ℕ
body_given f o room =
    f (pc_of o) ∷ (map (λ (l : ℕ). f (local_of o l)) (range_with_len 0 room.locals)
    ++ f (count_of o) ∷ map (λ (i : ℕ). f (operand_of o i)) (range_with_len 0 room.operands))

pub body-given : (f : What → ℕ) (o : Owner) (room : Room) → map f (body_fields o room) ≡ body_given f o room
body-given f o room =
    let locals : List ℕ = range_with_len 0 room.locals in
    let operands : List ℕ = range_with_len 0 room.operands in
    let behind : List What = count_of o ∷ map (operand_of o) operands in
    ap (λ (ns : List ℕ). f (pc_of o) ∷ ns)
    (map-append f (map (local_of o) locals) behind
    ∙ (ap (λ (ns : List ℕ). ns ++ map f behind) (map-map f (local_of o) locals)
    ∙ ap (λ (ns : List ℕ). map (λ (l : ℕ). f (local_of o l)) locals ++ f (count_of o) ∷ ns)
    (map-map f (operand_of o) operands)))

-- they are told by the context of their body
told : (sys : SystemTables) (w : World MachineContext) (came : ℕ) (o : Owner) (room : Room)
    → body_given (number_of sys w came) o room ≡ body_given (body_number (owned_by w o)) o room
told sys w came (owner.Task t) room = refl
told sys w came (owner.Handler p) room = refl

context-given : (o : Owner) (room : Room) (c : MachineContext)
    → body_given (body_number (Some c)) o room ≡ context_numbers room c
context-given (owner.Task t) room c = refl
context-given (owner.Handler p) room c = refl

pub context-told : (sys : SystemTables) (w : World MachineContext) (came : ℕ) (o : Owner) (room : Room)
    (c : MachineContext) → Some c ≡ owned_by w o
    → context_numbers room c ≡ map (number_of sys w came) (body_fields o room)
context-told sys w came o room c is =
    sym (body-given (number_of sys w came) o room
    ∙ (told sys w came o room
    ∙ (ap (λ (b : Option MachineContext). body_given (body_number b) o room) (sym is) ∙ context-given o room c)))

pub nothing-told : (sys : SystemTables) (w : World MachineContext) (came : ℕ) (o : Owner) (room : Room)
    → None ≡ owned_by w o
    → map (body_number None) (body_fields o room) ≡ map (number_of sys w came) (body_fields o room)
nothing-told sys w came o room is =
    body-given (body_number None) o room
    ∙ sym (body-given (number_of sys w came) o room
    ∙ (told sys w came o room
    ∙ ap (λ (b : Option MachineContext). body_given (body_number b) o room) (sym is)))

-- as many zeros as there are fields
pub zeros-told : (a : ℕ) (fields : List What)
    → map (λ (n : ℕ). 0) (range_with_len a (length fields)) ≡ map (body_number None) fields
zeros-told a [] = refl
zeros-told a (f ∷ fields) = ap (λ (ns : List ℕ). 0 ∷ ns) (zeros-told (a + 1) fields)
