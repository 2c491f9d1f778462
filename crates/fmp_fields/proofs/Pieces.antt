-- Fields and values that pieces add.
use Rattle.std.proofs.Common.{◌≡◌, ℕ, ◌+◌, ◌<◌, ◌≤◌, List, [], ◌∷◌, ◌++◌, length, map, sym, ap, ◌∙◌, take, drop, arith}
use Rattle.std.proofs.Common.{add-zero, append_assoc, append-nil}
use Rattle.std.proofs.Common.{Option, Some, subst}
use lib.ListN.{set}
use Rattle.std.specs.Prelude.{IfSome, get_or}
use Rattle.std.specs.List.{flat_map, range_with_len}
use Rattle.std.proofs.lemmas.Grind.{flat_map-append}
use Rattle.std.proofs.Math.Seq.{take-append-add}
use Rattle.std.proofs.lemmas.List.{length-append, length-take-le, map-append, take-append-drop, take-take, take_all}
use Rattle.std.proofs.lemmas.List.{take_more, take_more_set}
use Rattle.std.proofs.lemmas.List.FromFn.{length-map-range_with_len, map-range_with_len_more}
use Rattle.std.proofs.lemmas.List.FromFn.{take-map-range_with_len}
use Rattle.fmp_fields.specs.declared.field.What.{What}
use Rattle.fmp_fields.specs.declared.piece.Piece.{Piece}
use Rattle.fmp_fields.specs.declared.piece.Piece.TheVariants as piece
use Rattle.fmp_fields.specs.declared.owner.Owner.{Owner}
use Rattle.fmp_fields.specs.declared.owner.Owner.TheVariants as owner
use Rattle.fmp_fields.specs.declared.room.Room.{Room}
use Rattle.fmp_fields.specs.Pieces.{block_fields, body_fields, count_of, fields_of_piece, fields_of_pieces}
use Rattle.fmp_fields.specs.Pieces.{fields_of_processor, fields_of_task, local_of, operand_of, processor_fields}

-- one more of what a function gives for each number from 0 on
pub each-more : {X : Type 0} (f : ℕ → X) (n : ℕ) (first before after : List X) (x : X) → x ≡ f n
    → before ≡ first ++ map f (range_with_len 0 n) → after ≡ before ++ x ∷ []
    → after ≡ first ++ map f (range_with_len 0 (n + 1))
each-more {X} f n first before after x is was now =
    let some : List X = map f (range_with_len 0 n) in
    now
    ∙ (ap (λ (xs : List X). xs ++ x ∷ []) was
    ∙ (append_assoc first some (x ∷ [])
    ∙ ap (λ (xs : List X). first ++ xs)
    (ap (λ (y : X). some ++ y ∷ []) is ∙ sym (map-range_with_len_more f 0 n n (omega arith)))))

-- what is added in four steps, two elements and two lists
pub all-joined : {X : Type 0} (a b c d e xs ys : List X) (x y : X) → b ≡ a ++ x ∷ [] → c ≡ b ++ xs
    → d ≡ c ++ y ∷ [] → e ≡ d ++ ys → e ≡ a ++ x ∷ (xs ++ y ∷ ys)
all-joined {X} a b c d e xs ys x y b-is c-is d-is e-is =
    let one : c ≡ (a ++ x ∷ []) ++ xs = c-is ∙ ap (λ (l : List X). l ++ xs) b-is in
    let two : d ≡ ((a ++ x ∷ []) ++ xs) ++ y ∷ [] = d-is ∙ ap (λ (l : List X). l ++ y ∷ []) one in
    e-is
    ∙ (ap (λ (l : List X). l ++ ys) two
    ∙ (append_assoc ((a ++ x ∷ []) ++ xs) (y ∷ []) ys
    ∙ (append_assoc (a ++ x ∷ []) xs (y ∷ ys) ∙ append_assoc a (x ∷ []) (xs ++ y ∷ ys))))

-- what the first elements give, and one more
pub flat-more : {X A : Type 0} (f : X → List A) (xs : List X) (i : ℕ) (d : X) → i < length xs
    → flat_map f (take (i + 1) xs) ≡ flat_map f (take i xs) ++ f (get_or xs i d)
flat-more {X} {A} f xs i d lt =
    ap (λ (l : List X). flat_map f l) (take_more xs i d lt)
    ∙ (flat_map-append f (take i xs) (get_or xs i d ∷ [])
    ∙ ap (λ (l : List A). flat_map f (take i xs) ++ l) (append-nil (f (get_or xs i d))))

-- what the first pieces give, and the next one
pub pieces-more : {X : Type 0} (f : Piece → List X) (pieces : List Piece) (i : ℕ) (d : Piece) (before after : List X)
    → i < length pieces → before ≡ flat_map f (take i pieces) → after ≡ before ++ f (get_or pieces i d)
    → after ≡ flat_map f (take (i + 1) pieces)
pieces-more {X} f pieces i d before after lt was now =
    now ∙ (ap (λ (l : List X). l ++ f (get_or pieces i d)) was ∙ sym (flat-more f pieces i d lt))

-- the numbers of the fields of the first pieces, and of the next one
pub numbers-more : (f : What → ℕ) (pieces : List Piece) (i : ℕ) (d : Piece) (before after : List ℕ)
    → i < length pieces → before ≡ map f (fields_of_pieces (take i pieces))
    → after ≡ before ++ map f (fields_of_piece (get_or pieces i d))
    → after ≡ map f (fields_of_pieces (take (i + 1) pieces))
numbers-more f pieces i d before after lt was now =
    let more : List What = fields_of_piece (get_or pieces i d) in
    now
    ∙ (ap (λ (l : List ℕ). l ++ map f more) was
    ∙ (sym (map-append f (fields_of_pieces (take i pieces)) more)
    ∙ ap (λ (l : List What). map f l) (sym (flat-more fields_of_piece pieces i d lt))))

-- one more field as a piece of its own
pub single-more : (fields : List What) (pieces after : List Piece) (i : ℕ) (d : What) → i < length fields
    → fields_of_pieces pieces ≡ take i fields → after ≡ pieces ++ piece.Single (get_or fields i d) ∷ []
    → fields_of_pieces after ≡ take (i + 1) fields
single-more fields pieces after i d lt was now =
    let last : List Piece = piece.Single (get_or fields i d) ∷ [] in
    ap (λ (l : List Piece). fields_of_pieces l) now
    ∙ (flat_map-append fields_of_piece pieces last
    ∙ (ap (λ (l : List What). l ++ get_or fields i d ∷ []) was ∙ sym (take_more fields i d lt)))

-- how many fields a body of this room has
pub body_length : (o : Owner) (room : Room) → length (body_fields o room) ≡ room.locals + room.operands + 2
body_length o room =
    let locals : List What = map (local_of o) (range_with_len 0 room.locals) in
    let operands : List What = map (operand_of o) (range_with_len 0 room.operands) in
    let all = length-append locals (count_of o ∷ operands) in
    let some = length-map-range_with_len (local_of o) 0 room.locals in
    let more = length-map-range_with_len (operand_of o) 0 room.operands in
    omega (arith, all, some, more)

-- how many a task has, and a processor
pub task_length : (t : ℕ) (room : Room)
    → length (fields_of_task t room) ≡ 11 + length (body_fields (owner.Task t) room)
task_length t room = length-append (block_fields t) (body_fields (owner.Task t) room)

pub processor_length : (p : ℕ) (room : Room)
    → length (fields_of_processor p room) ≡ 5 + length (body_fields (owner.Handler p) room)
processor_length p room = length-append (processor_fields p) (body_fields (owner.Handler p) room)

pub task_size : (t : ℕ) (room : Room) → length (fields_of_task t room) ≡ 11 + (room.locals + room.operands + 2)
task_size t room = task_length t room ∙ ap (λ (n : ℕ). 11 + n) (body_length (owner.Task t) room)

pub processor_size : (p : ℕ) (room : Room)
    → length (fields_of_processor p room) ≡ 5 + (room.locals + room.operands + 2)
processor_size p room = processor_length p room ∙ ap (λ (n : ℕ). 5 + n) (body_length (owner.Handler p) room)

-- what is added of two lists of fields
pub both-written : (f : What → ℕ) (a b : List What) (first middle last : List ℕ) → middle ≡ first ++ map f a
    → last ≡ middle ++ map f b → last ≡ first ++ map f (a ++ b)
both-written f a b first middle last one two =
    two
    ∙ (ap (λ (l : List ℕ). l ++ map f b) one
    ∙ (append_assoc first (map f a) (map f b) ∙ ap (λ (l : List ℕ). first ++ l) (sym (map-append f a b))))

-- one more field of two lists that begin with the same ones
pub take-same : (a b : List What) (k : ℕ) (d e : What) → k < length a → k < length b → take k a ≡ take k b
    → get_or a k d ≡ get_or b k e → take (k + 1) a ≡ take (k + 1) b
take-same a b k d e in_a in_b before now =
    take_more a k d in_a
    ∙ (ap (λ (l : List What). l ++ get_or a k d ∷ []) before
    ∙ (ap (λ (f : What). take k b ++ f ∷ []) now ∙ sym (take_more b k e in_b)))

pub all-same : (a b : List What) (k : ℕ) → length a ≤ k → length b ≤ k → take k a ≡ take k b → a ≡ b
all-same a b k in_a in_b e = sym (take_all k a in_a) ∙ (e ∙ take_all k b in_b)

-- ---- numbers that are written over others

-- before the first one
pub written-none : (f : ℕ → ℕ) (at : ℕ) (xs : List ℕ) → take (at + 0) xs ≡ take at xs ++ map f (range_with_len 0 0)
written-none f at xs = ap (λ (n : ℕ). take n xs) (add-zero at) ∙ sym (append-nil (take at xs))

-- one more of what a function gives for each number from 0 on
pub written-more : (f : ℕ → ℕ) (at n : ℕ) (first now : List ℕ) (x : ℕ) → x ≡ f n → at + n < length now
    → take (at + n) now ≡ first ++ map f (range_with_len 0 n)
    → take (at + (n + 1)) (set now (at + n) x) ≡ first ++ map f (range_with_len 0 (n + 1))
written-more f at n first now x is lt was =
    let after : List ℕ = take (at + (n + 1)) (set now (at + n) x) in
    let next : at + (n + 1) ≡ at + n + 1 = omega arith in
    each-more f n first (take (at + n) now) after x is was
    (ap (λ (k : ℕ). take k (set now (at + n) x)) next ∙ take_more_set now (at + n) x lt)

-- the first ones of them
pub written-first : (f : ℕ → ℕ) (at count all : ℕ) (old new : List ℕ) → count ≤ all → at ≤ length old
    → take (at + all) new ≡ take at old ++ map f (range_with_len 0 all)
    → take (at + count) new ≡ take at old ++ map f (range_with_len 0 count)
written-first f at count all old new few inside is =
    let first : List ℕ = take at old in
    let more : List ℕ = map f (range_with_len 0 all) in
    let size : length first ≡ at = length-take-le at old inside in
    sym (take-take (at + count) (at + all) new (omega arith))
    ∙ (ap (λ (l : List ℕ). take (at + count) l) is
    ∙ (ap (λ (n : ℕ). take (n + count) (first ++ more)) (sym size)
    ∙ (take-append-add first more count
    ∙ ap (λ (l : List ℕ). first ++ l) (take-map-range_with_len f 0 all count few))))

-- what a function gives for the first four numbers
pub four-told : (f : ℕ → ℕ) (a b c d : ℕ) → a ≡ f 0 → b ≡ f 1 → c ≡ f 2 → d ≡ f 3
    → a ∷ b ∷ c ∷ d ∷ [] ≡ map f (range_with_len 0 4)
four-told f a b c d one two three four =
    ap (λ (x : ℕ). x ∷ b ∷ c ∷ d ∷ []) one
    ∙ (ap (λ (x : ℕ). f 0 ∷ x ∷ c ∷ d ∷ []) two
    ∙ (ap (λ (x : ℕ). f 0 ∷ f 1 ∷ x ∷ d ∷ []) three ∙ ap (λ (x : ℕ). f 0 ∷ f 1 ∷ f 2 ∷ x ∷ []) four))

-- what holds of a value, if there is one
pub some-told : {X : Type 0} (P : X → Type 0) (o : Option X) (x : X) → o ≡ Some x → IfSome o P → P x
some-told P o x is h = subst (λ y. IfSome y P) is h

-- how many fields come before a piece, and it has
pieces-length : (pieces : List Piece) (i : ℕ) (d : Piece) → i < length pieces
    → length (fields_of_pieces (take (i + 1) pieces))
    ≡ length (fields_of_pieces (take i pieces)) + length (fields_of_piece (get_or pieces i d))
pieces-length pieces i d lt =
    ap (λ (l : List What). length l) (flat-more fields_of_piece pieces i d lt)
    ∙ length-append (fields_of_pieces (take i pieces)) (fields_of_piece (get_or pieces i d))

-- they are among all fields
pieces-fit : (pieces : List Piece) (i : ℕ) (d : Piece) → i < length pieces
    → length (fields_of_pieces (take i pieces)) + length (fields_of_piece (get_or pieces i d))
    ≤ length (fields_of_pieces pieces)
pieces-fit pieces i d lt =
    let front : List Piece = take (i + 1) pieces in
    let back : List Piece = drop (i + 1) pieces in
    let all : length (fields_of_pieces pieces) ≡ length (fields_of_pieces front ++ fields_of_pieces back) =
    ap (λ (l : List Piece). length (fields_of_pieces l)) (sym (take-append-drop (i + 1) pieces))
    ∙ ap (λ (l : List What). length l) (flat_map-append fields_of_piece front back) in
    let both = length-append (fields_of_pieces front) (fields_of_pieces back) in
    let some = pieces-length pieces i d lt in
    omega (arith, all, both, some)

pub pieces-room : (pieces : List Piece) (i : ℕ) (d : Piece) (at size : ℕ) → i < length pieces
    → at ≡ length (fields_of_pieces (take i pieces)) → size ≡ length (fields_of_pieces pieces)
    → at + length (fields_of_piece (get_or pieces i d)) ≤ size
pieces-room pieces i d at size lt place all =
    let fit = pieces-fit pieces i d lt in omega (arith, fit, place, all)

pub pieces-place : (pieces : List Piece) (i : ℕ) (d : Piece) (at count : ℕ) → i < length pieces
    → at ≡ length (fields_of_pieces (take i pieces)) → count ≡ length (fields_of_piece (get_or pieces i d))
    → at + count ≡ length (fields_of_pieces (take (i + 1) pieces))
pieces-place pieces i d at count lt place own =
    let more = pieces-length pieces i d lt in omega (arith, more, place, own)
