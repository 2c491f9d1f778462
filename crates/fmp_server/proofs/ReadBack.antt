-- What is framed is read back.
use Rattle.std.proofs.Common.{ℕ, ◌≡◌, ◌+◌, ◌^◌, ◌<◌, ◌≤◌, ◌&&◌, ◌==◌, List, [], ◌∷◌, ◌++◌, Bool, true, false}
use Rattle.std.proofs.Common.{Option, Some, None, length, min, codes, decimal, refl, ap, sym, ◌∙◌, arith, append_assoc}
use Rattle.std.proofs.lemmas.Bool.{ne_eqb, le-leb, leb-true, lt-leb, lt-ltb}
use Rattle.std.proofs.lemmas.Fmt.{digits_decimal, digits_value-decimal, length-decimal-le}
use Rattle.std.proofs.lemmas.List.{append-nil, length-append}
use Rattle.std.proofs.lemmas.Str.Parse.{IsNumeralModel, numerals_by_value, tells_all_ascii_digits}
use Rattle.std.specs.Char.{is_ascii_digit}
use Rattle.std.specs.Option.{option_to_list}
use Rattle.std.specs.Prelude.{if◌then◌else◌, nat_le}
use Rattle.std.specs.Str.{all_ascii_digits}
use Rattle.std.specs.Str.Parse.{digits_value}
use Rattle.fmp_server.specs.Framing.{Part, fed, framed, fresh, step, tells_length, told, within}
use Rattle.fmp_server.proofs.Feeding.{body_part, fed_append, last_fed}

-- a header whose line has begun
abbrev in_line : List ℕ → Part
in_line line = record { line = line; told = 0; left = 0; message = [] }

-- a message of which some bytes came, after a header that left nothing
abbrev in_body : (left : ℕ) → (message : List ℕ) → Part
in_body left message = body_part [] 0 left message

abbrev field : List ℕ
field = codes "content-length:"

and_parts : (a b : Bool) → (a && b) ≡ true → (a ≡ true) × (b ≡ true)
and_parts true b e = (refl, e)
and_parts false b e = cc

-- a digit is kept in the line
digit_step : (line : List ℕ) (d : ℕ) → is_ascii_digit d ≡ true → length line < 256
    → step (in_line line) d ≡ (in_line (line ++ d ∷ []), None)
digit_step line d a h =
    let p = and_parts (nat_le 48 d) (nat_le d 57) a in
    let low : 48 ≤ d = leb-true 48 d p.0 in
    let high : d ≤ 57 = leb-true d 57 p.1 in
    let n10 = ne_eqb d 10 (λ q. omega (arith, q)) in
    let n32 = ne_eqb d 32 (λ q. omega (arith, q)) in
    let n9 = ne_eqb d 9 (λ q. omega (arith, q)) in
    let n13 = ne_eqb d 13 (λ q. omega (arith, q)) in
    let small = lt-ltb d 65 (omega arith) in
    let room = lt-leb 256 (length line) h in
    simp (n10, n32, n9, n13, small, room)

digits_kept : (line ds : List ℕ) → all_ascii_digits ds ≡ true → length line + length ds ≤ 256
    → fed (in_line line) ds ≡ (in_line (line ++ ds), [])
digits_kept line [] a h = ap (λ (l : List ℕ). (in_line l, [])) (sym (append-nil line))
digits_kept line (d ∷ ds) a h =
    let p = and_parts (is_ascii_digit d) (all_ascii_digits ds) a in
    let longer : length (line ++ d ∷ []) + length ds ≤ 256 = omega (arith, length-append line (d ∷ [])) in
    ap (λ (s : Part × Option (List ℕ)). let r = fed s.0 ds in (r.0, option_to_list s.1 ++ r.1))
    (digit_step line d p.0 (omega arith))
    ∙ digits_kept (line ++ d ∷ []) ds p.1 longer
    ∙ ap (λ (l : List ℕ). (in_line l, [])) (append_assoc line (d ∷ []) ds)

-- the length that the line tells
told_length : (ds : List ℕ) → all_ascii_digits ds ≡ true → digits_value 10 ds ≤ 67108864
    → told (field ++ ds) 0 ≡ digits_value 10 ds
unfolding tells_length
told_length ds a h =
    let n = digits_value 10 ds in
    let least : min n 67108865 ≡ n = omega arith in
    ap (λ (b : Bool). within (if b then Some (min n 67108865) else None)) a
    ∙ ap (λ (k : ℕ). within (Some k)) least
    ∙ ap (λ (b : Bool). if b then n else 0) (le-leb n 67108864 h)

-- what the end of a line makes of a header, whether the line is empty or tells something
abbrev after_line : List ℕ → Bool → Part
after_line line empty =
    if empty then in_line line else record { line = []; told = told line 0; left = 0; message = [] }

header_ends : (ds : List ℕ) → all_ascii_digits ds ≡ true → digits_value 10 ds ≤ 67108864
    → fed (in_line (field ++ ds)) (codes "\r\n\r\n") ≡ (in_body (digits_value 10 ds) [], [])
header_ends ds a h =
    let line = field ++ ds in
    let some : (length line == 0) ≡ false = ne_eqb (length line) 0 (λ q. omega (arith, q)) in
    ap (λ (empty : Bool). fed (after_line line empty) (codes "\r\n")) some
    ∙ ap (λ (k : ℕ). (in_body k [], [])) (told_length ds a h)

-- one part, and then another
chain : (p q z : Part) (a b : List ℕ) (ms : List (List ℕ)) → fed p a ≡ (q, []) → fed q b ≡ (z, ms)
    → fed p (a ++ b) ≡ (z, ms)
chain p q z a b ms e f =
    fed_append p a b ∙ ap (λ (r : Part × List (List ℕ)). let s = fed r.0 b in (s.0, r.1 ++ s.1)) e ∙ f

own : IsNumeralModel (λ ds. all_ascii_digits ds ≡ true) (digits_value 10)
own = numerals_by_value (λ ds. all_ascii_digits ds ≡ true) tells_all_ascii_digits

pub read_back : (b : ℕ) (bs : List ℕ) → length (b ∷ bs) ≤ 67108864 → fed fresh (framed (b ∷ bs))
    ≡ (fresh, (b ∷ bs) ∷ [])
read_back b bs h =
    let m = b ∷ bs in
    let n = length m in
    let ds = decimal n in
    let fits : n < 2 ^ 64 = omega arith in
    let digits : all_ascii_digits ds ≡ true = digits_decimal own n fits in
    let value : digits_value 10 ds ≡ n = digits_value-decimal own n fits in
    let short : length ds ≤ 8 = length-decimal-le 8 n (omega arith) (omega arith) fits in
    let most : digits_value 10 ds ≤ 67108864 = omega (arith, value) in
    let line = chain fresh (in_line field) (in_line (field ++ ds)) (codes "Content-Length: ") ds [] refl
    (digits_kept field ds digits (omega arith)) in
    let ended = chain fresh (in_line (field ++ ds)) (in_body (digits_value 10 ds) [])
    (codes "Content-Length: " ++ ds) (codes "\r\n\r\n") [] line (header_ends ds digits most) in
    chain fresh (in_body (digits_value 10 ds) []) fresh (codes "Content-Length: " ++ ds ++ codes "\r\n\r\n") m (m ∷ [])
    ended (ap (λ (k : ℕ). fed (in_body k []) m) value ∙ last_fed [] 0 [] b bs)
