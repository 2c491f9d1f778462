-- What a claim says never happens is read as what was asked for.
use Rattle.std.proofs.Common.{ℕ, ℤ, pos, negsuc, ◌≡◌, ◌-◌, ◌<◌, ◌^◌, ◌∙◌, ◌++◌, ◌||◌, ◌&&◌, List, [], ◌∷◌, Bool}
use Rattle.std.proofs.Common.{true, false, cond, Option, Some, None, Result, Ok, Err, append_assoc, ap, arith}
use Rattle.std.proofs.Common.{codes, drop, length, nat_eq, refl, sym, take, true≢false}
use Rattle.std.proofs.Math.Seq.{drop-append_seam, take-append_seam}
use Rattle.std.proofs.lemmas.Bool.Decides.{Decides-and}
use Rattle.std.proofs.lemmas.Fmt.{parse-signed_decimal}
use Rattle.std.proofs.lemmas.List.{length-append}
use Rattle.std.specs.Bool.{Decides, ⊤}
use Rattle.std.specs.Fmt.{signed_decimal}
use Rattle.std.specs.Int.{w32}
use Rattle.std.specs.Cmp.Lexicographic.{pointwise}
use Rattle.std.specs.Int.Signed.{mag}
use Rattle.std.specs.List.{starts_with}
use Rattle.std.specs.Option.{option_or}
use Rattle.std.specs.Prelude.{option_and_then, option_map}
use Rattle.std.specs.Result.{OkIff, result_ok}
use Rattle.std.specs.Str.Parse.{signed_digits_value, without_leading_sign}
use Rattle.fmp_base.specs.Codes.{code_name}
use Rattle.fmp_base.specs.Systems.{SystemTables}
use Rattle.fmp_base.specs.Texts.{fault_named, fault_text}
use Rattle.fmp_base.specs.declared.bodies.Fault.{Fault}
use Rattle.fmp_base.specs.declared.bodies.Fault.TheVariants.{Overflow, Division, Index}
use Rattle.fmp_base.specs.declared.codes.Er.{Er}
use Rattle.fmp_base.specs.declared.codes.Er.TheVariants as er
use Rattle.fmp_question.specs.declared.question.Never.{Never}
use Rattle.fmp_question.specs.declared.question.Never.TheVariants as never
use Rattle.fmp_searching.specs.Claims.{faults_text, forbids_fault, never_text, one_fault_text}
use Rattle.fmp_searching.specs.Words.{after, before, code_named, is_value, is_worded_never, never_named}
use Rattle.fmp_searching.specs.Words.{value_named, value_put}
use Rattle.fmp_searching.proofs.Grammar.{are_digits-Decides, is_value-Decides, value_parsed}

-- ---- values

-- what is read of a text that is read where a test passes
read_where : {A : Type 0} (b : Bool) (v : A) → Result A ⊤
read_where b v = cond b (Ok v) (Err tt)

read_if : {A : Type 0} (b : Bool) (P : Type 0) (v : A) → Decides b P → OkIff (read_where b v) P v
unfolding read_where
read_if true P v d = (d.0 refl, refl)
read_if false P v d = λ p. true≢false (sym (d.1 p))

small : (v : ℤ) → is_value v ≡ true → mag v < 2 ^ 63
small (pos n) is = omega (arith, (is_value-Decides (pos n)).0 is)
small (negsuc n) is = omega (arith, (is_value-Decides (negsuc n)).0 is)

value_named-written : (v : ℤ) → is_value v ≡ true → value_named (signed_decimal v) ≡ Some v
value_named-written v is =
    let text = signed_decimal v in
    let tests =
    Decides-and _ _
    (are_digits-Decides (without_leading_sign text))
    (is_value-Decides (signed_digits_value 10 text)) in
    let parses = read_if _ _ (signed_digits_value 10 text) tests in
    sym (value_parsed text _ parses)
    ∙ ap (λ (r : Result ℤ ⊤). result_ok r)
    (parse-signed_decimal w32 v text _ ((is_value-Decides v).0 is) (small v is) refl parses)

before_close : (text : List ℕ) → before (codes ")") (text ++ codes ")") ≡ Some text
unfolding before
before_close text =
    let all = text ++ codes ")" in
    let short : length all - 1 ≡ length text = omega (arith, length-append text (codes ")")) in
    ap (λ (k : ℕ). cond (pointwise nat_eq (codes ")") (drop k all)) (Some (take k all)) None) short
    ∙ ap (λ (rest : List ℕ). cond (pointwise nat_eq (codes ")") rest) (Some (take (length text) all)) None)
    (drop-append_seam text (codes ")"))
    ∙ ap (λ (front : List ℕ). Some front) (take-append_seam text (codes ")"))

value_put-written : (v : ℤ) → is_value v ≡ true
    → value_put (codes "put(" ++ (signed_decimal v ++ codes ")")) ≡ Some v
unfolding value_put after
value_put-written v is = ap (λ t. option_and_then value_named t) (before_close (signed_decimal v))
    ∙ value_named-written v is

-- ---- words

word_of : Never → List ℕ
word_of (never.Answer code) = code_name code
word_of (never.Put value) = codes "put(" ++ (signed_decimal value ++ codes ")")
word_of (never.Fault fault) = fault_text fault
word_of (never.Acts t) = []

never_text-word : (sys : SystemTables) (n : Never) → is_worded_never n ≡ true
    → never_text sys n ≡ codes "never " ++ (word_of n ++ codes ", ")
unfolding never_text word_of
never_text-word sys (never.Answer code) is = refl
never_text-word sys (never.Put value) is =
    ap (λ (t : List ℕ). codes "never put(" ++ t) (sym (append_assoc (signed_decimal value) (codes ")") (codes ", ")))
never_text-word sys (never.Fault fault) is = absurd cc
never_text-word sys (never.Acts t) is = absurd cc

answer_named : (code : Er) → is_worded_never (never.Answer code) ≡ true
    → never_named (code_name code) ≡ Some (never.Answer code)
unfolding never_named value_put after code_named
answer_named er.Ok is = refl
answer_named er.Sys is = absurd cc
answer_named er.Nospt is = absurd cc
answer_named er.Rsatr is = absurd cc
answer_named er.Par is = refl
answer_named er.Id is = refl
answer_named er.Ctx is = refl
answer_named er.Iluse is = refl
answer_named er.Obj is = refl
answer_named er.Qovr is = refl
answer_named er.Rlwai is = refl
answer_named er.Tmout is = refl

pub fault_read : (fault : Fault) → never_named (fault_text fault) ≡ Some (never.Fault fault)
unfolding never_named value_put after
fault_read Overflow = refl
fault_read Division = refl
fault_read Index = refl

word_read : (n : Never) → is_worded_never n ≡ true → never_named (word_of n) ≡ Some n
unfolding never_named word_of
word_read (never.Answer code) is = answer_named code is
word_read (never.Put value) is =
    ap
    (λ (put : Option ℤ). option_or (option_map (λ value. never.Put value) put)
    (option_or
    (option_map (λ fault. never.Fault fault) (fault_named (word_of (never.Put value))))
    (option_map (λ code. never.Answer code) (code_named (word_of (never.Put value))))))
    (value_put-written value is)
word_read (never.Fault fault) is = absurd cc
word_read (never.Acts t) is = absurd cc

pub never_read : (sys : SystemTables) (n : Never) → is_worded_never n ≡ true → (word : List ℕ)
    × ((never_text sys n ≡ codes "never " ++ (word ++ codes ", ")) × (never_named word ≡ Some n))
never_read sys n is = (word_of n, (never_text-word sys n is, word_read n is))

-- ---- faults

-- a part stands somewhere in a text
has : (part text : List ℕ) → Bool
has part [] = starts_with nat_eq [] part
has part (b ∷ bs) = starts_with nat_eq (b ∷ bs) part || has part bs

has_first : (part text : List ℕ) → starts_with nat_eq text part ≡ true → has part text ≡ true
unfolding has
has_first part [] h = h
has_first part (b ∷ bs) h = ap (λ t. t || has part bs) h

or_later : (a b : Bool) → b ≡ true → (a || b) ≡ true
or_later true b h = refl
or_later false b h = h

has_after : (part front text : List ℕ) → starts_with nat_eq text part ≡ true → has part (front ++ text) ≡ true
unfolding has
has_after part [] text h = has_first part text h
has_after part (b ∷ front) text h =
    or_later (starts_with nat_eq (b ∷ (front ++ text)) part) (has part (front ++ text)) (has_after part front text h)

-- what is said of faults, by which are forbidden
said_of : (overflow division index : Bool) → List ℕ
said_of overflow division index =
    cond (overflow && division && index) (codes ", no fault")
    (cond overflow (codes ", never " ++ fault_text Overflow) []
    ++ (cond division (codes ", never " ++ fault_text Division) []
    ++ cond index (codes ", never " ++ fault_text Index) []))

faults_said : (nevers : List Never) → faults_text nevers
    ≡ said_of (forbids_fault nevers Overflow) (forbids_fault nevers Division) (forbids_fault nevers Index)
unfolding faults_text one_fault_text said_of
faults_said nevers = refl

part_of : Fault → List ℕ
part_of fault = codes ", never " ++ fault_text fault

begins_so : (fault : Fault) (rest : List ℕ)
    → starts_with nat_eq (codes ", never " ++ (fault_text fault ++ rest)) (part_of fault) ≡ true
unfolding part_of
begins_so Overflow rest = refl
begins_so Division rest = refl
begins_so Index rest = refl

overflow_said : (a b c : Bool) → has (part_of Overflow) (said_of a b c) ≡ true → a ≡ true
unfolding said_of part_of has
overflow_said true b c h = refl
overflow_said false true true h = absurd (true≢false (sym h))
overflow_said false true false h = absurd (true≢false (sym h))
overflow_said false false true h = absurd (true≢false (sym h))
overflow_said false false false h = absurd (true≢false (sym h))

division_said : (a b c : Bool) → has (part_of Division) (said_of a b c) ≡ true → b ≡ true
unfolding said_of part_of has
division_said a true c h = refl
division_said true false true h = absurd (true≢false (sym h))
division_said true false false h = absurd (true≢false (sym h))
division_said false false true h = absurd (true≢false (sym h))
division_said false false false h = absurd (true≢false (sym h))

index_said : (a b c : Bool) → has (part_of Index) (said_of a b c) ≡ true → c ≡ true
unfolding said_of part_of has
index_said a b true h = refl
index_said true true false h = absurd (true≢false (sym h))
index_said true false false h = absurd (true≢false (sym h))
index_said false true false h = absurd (true≢false (sym h))
index_said false false false h = absurd (true≢false (sym h))

-- the flag of a fault
flag_of : Fault → (overflow division index : Bool) → Bool
flag_of Overflow a b c = a
flag_of Division a b c = b
flag_of Index a b c = c

forbidden_so : (fault : Fault) (a b c : Bool) → has (part_of fault) (said_of a b c) ≡ true → flag_of fault a b c ≡ true
unfolding flag_of
forbidden_so Overflow a b c h = overflow_said a b c h
forbidden_so Division a b c h = division_said a b c h
forbidden_so Index a b c h = index_said a b c h

flag_is : (nevers : List Never) (fault : Fault)
    → flag_of fault (forbids_fault nevers Overflow) (forbids_fault nevers Division) (forbids_fault nevers Index)
    ≡ forbids_fault nevers fault
unfolding flag_of
flag_is nevers Overflow = refl
flag_is nevers Division = refl
flag_is nevers Index = refl

pub named_forbidden : (nevers : List Never) (fault : Fault) (front rest : List ℕ)
    → faults_text nevers ≡ front ++ (codes ", never " ++ (fault_text fault ++ rest))
    → forbids_fault nevers fault ≡ true
named_forbidden nevers fault front rest same =
    let part = part_of fault in
    let there : has part (faults_text nevers) ≡ true =
    ap (has part) same ∙ has_after part front (codes ", never " ++ (fault_text fault ++ rest)) (begins_so fault rest)
    in
    sym (flag_is nevers fault)
    ∙ forbidden_so fault (forbids_fault nevers Overflow) (forbids_fault nevers Division) (forbids_fault nevers Index)
    (ap (has part) (sym (faults_said nevers)) ∙ there)

all_said : (fault : Fault) (a b c : Bool) → said_of a b c ≡ codes ", no fault" → flag_of fault a b c ≡ true
unfolding said_of flag_of
all_said Overflow true b c h = refl
all_said Overflow false true true h = absurd cc
all_said Overflow false true false h = absurd cc
all_said Overflow false false true h = absurd cc
all_said Overflow false false false h = absurd cc
all_said Division a true c h = refl
all_said Division true false true h = absurd cc
all_said Division true false false h = absurd cc
all_said Division false false true h = absurd cc
all_said Division false false false h = absurd cc
all_said Index a b true h = refl
all_said Index true true false h = absurd cc
all_said Index true false false h = absurd cc
all_said Index false true false h = absurd cc
all_said Index false false false h = absurd cc

pub all_forbidden : (nevers : List Never) (fault : Fault) → faults_text nevers ≡ codes ", no fault"
    → forbids_fault nevers fault ≡ true
all_forbidden nevers fault same =
    sym (flag_is nevers fault)
    ∙ all_said fault (forbids_fault nevers Overflow) (forbids_fault nevers Division) (forbids_fault nevers Index)
    (sym (faults_said nevers) ∙ same)
