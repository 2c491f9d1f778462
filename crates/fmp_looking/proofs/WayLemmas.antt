-- What is known of branches after more of them were added.
use Rattle.std.proofs.Common.{◌≡◌, ◌∙◌, ℕ, suc, zero, ◌+◌, ◌<◌, ◌==◌, ◌&&◌, Bool, true, false, if◌then◌else◌, List, []}
use Rattle.std.proofs.Common.{◌∷◌, ◌++◌, ap, arith, get_or, length, refl, slice_set, sym}
use Rattle.std.proofs.Common.{nat_lt, ◌||◌, ◌≤◌, ◌*◌, slice_get, None, Option, count_by, true≢false}
use Rattle.std.proofs.Math.Dec.{eqb-suc-suc, eqb-suc-zero, eqb-zero-suc}
use Rattle.std.proofs.lemmas.Bool.{eqb-true, ltb-false}
use Rattle.std.proofs.lemmas.Bool.Decides.{nat_tests}
use Rattle.std.proofs.lemmas.Option.{slice_get_past}
use Rattle.fmp_looking.specs.declared.branches.BranchStep.{BranchStep}
use Rattle.fmp_looking.specs.declared.ways.BodyWays.{BodyWays}
use Rattle.fmp_looking.specs.declared.ways.WayCounts.{WayCounts}
use Rattle.fmp_looking.specs.Ways.{both_ways, branches_in, branches_of, capped, goes, is_way, never, one_way, times_of}

-- room for one more changes nothing
pub get_or_more : {X : Type 0} (xs : List X) (d : X) (n : ℕ) → get_or (xs ++ d ∷ []) n d ≡ get_or xs n d
get_or_more [] d zero = refl
get_or_more [] d (suc n) = refl
get_or_more (x ∷ xs) d zero = refl
get_or_more (x ∷ xs) d (suc n) = get_or_more xs d n

pub branches_more : (bodies : List BodyWays) (more : BodyWays) (b : ℕ) → more.branches.items ≡ []
    → branches_of (bodies ++ more ∷ []) b ≡ branches_of bodies b
branches_more [] more zero none = none
branches_more [] more (suc b) none = refl
branches_more (x ∷ xs) more zero none = refl
branches_more (x ∷ xs) more (suc b) none = branches_more xs more b none

-- what is known of a body after that of one was changed
branches_set : (bodies : List BodyWays) (i b : ℕ) (now : BodyWays) → i < length bodies
    → branches_of (slice_set bodies i now) b ≡ (if b == i then now.branches.items else branches_of bodies b)
branches_set [] i b now h = absurd (omega arith)
branches_set (x ∷ xs) zero zero now h = refl
branches_set (x ∷ xs) zero (suc b) now h =
    ap (λ (e : Bool). if e then now.branches.items else branches_of xs b) (sym (eqb-suc-zero b))
branches_set (x ∷ xs) (suc i) zero now h =
    ap (λ (e : Bool). if e then now.branches.items else x.branches.items) (sym (eqb-zero-suc i))
branches_set (x ∷ xs) (suc i) (suc b) now h =
    branches_set xs i b now (omega arith)
    ∙ ap (λ (e : Bool). if e then now.branches.items else branches_of xs b) (sym (eqb-suc-suc b i))

branches_was : (bodies : List BodyWays) (i : ℕ) (was : BodyWays) → i < length bodies → was ≡ get_or bodies i was
    → branches_of bodies i ≡ was.branches.items
branches_was [] i was h is = absurd (omega arith)
branches_was (x ∷ xs) zero was h is = ap (λ (w : BodyWays). w.branches.items) (sym is)
branches_was (x ∷ xs) (suc i) was h is = branches_was xs i was (omega arith) is

capped_sum : (a b : ℕ) → capped (capped (a + b)) ≡ capped (capped a + b)
capped_sum a b = omega arith

capped_none : (a : ℕ) → capped a ≡ capped (capped a + 0)
capped_none a = omega arith

-- a branch of which more is known
with_more : (is_it way : Bool) (was more : WayCounts)
    → capped (times_of way (if is_it then both_ways was more else was))
    ≡ capped (capped (times_of way was) + (if is_it then times_of way more else 0))
with_more true true was more = capped_sum was.is_true more.is_true
with_more true false was more = capped_sum was.is_false more.is_false
with_more false way was more = capped_none (times_of way was)

-- the branches of a body of which more is known
in_body : (is_it : Bool) (n number : ℕ) (way : Bool) (before was now : List WayCounts) (more : WayCounts)
    → (is_it ≡ true → before ≡ was)
    → get_or now n never ≡ (if n == number then both_ways (get_or was n never) more else get_or was n never)
    → capped (times_of way (get_or (if is_it then now else before) n never))
    ≡ capped (capped (times_of way (get_or before n never))
    + (if is_it && (n == number) then times_of way more else 0))
in_body true n number way before was now more same is =
    ap (λ (w : WayCounts). capped (times_of way w)) is
    ∙ with_more (n == number) way (get_or was n never) more
    ∙ ap (λ (ws : List WayCounts). capped (capped (times_of way (get_or ws n never))
    + (if n == number then times_of way more else 0))) (sym (same refl))
in_body false n number way before was now more same is = capped_none (times_of way (get_or before n never))

-- the bodies, of which room for one and for its branch was made, after more is known of that
pub added : (start bodies : List BodyWays) (body number : ℕ) (was now : BodyWays) (more : WayCounts)
    → ((b : ℕ) → branches_of bodies b ≡ branches_of start b)
    → body < length bodies → was ≡ get_or bodies body was
    → ((n : ℕ) → get_or now.branches.items n never
    ≡ (if n == number then both_ways (get_or was.branches.items n never) more else get_or was.branches.items n never))
    → (b n : ℕ) (way : Bool)
    → capped (times_of way (get_or (branches_of (slice_set bodies body now) b) n never))
    ≡ capped (capped (times_of way (get_or (branches_of start b) n never))
    + (if (b == body) && (n == number) then times_of way more else 0))
added start bodies body number was now more room here read is b n way =
    let same : (b == body) ≡ true → branches_of bodies b ≡ was.branches.items = λ e.
    ap (λ (k : ℕ). branches_of bodies k) (eqb-true b body e) ∙ branches_was bodies body was here read in
    ap (λ (ws : List WayCounts). capped (times_of way (get_or ws n never))) (branches_set bodies body b now here)
    ∙ in_body (b == body) n number way (branches_of bodies b) was.branches.items now.branches.items more same (is n)
    ∙ ap (λ (ws : List WayCounts). capped (capped (times_of way (get_or ws n never))
    + (if (b == body) && (n == number) then times_of way more else 0))) (room b)

-- how often the branch of a number of a body went a way
abbrev gone : List BodyWays → (body number : ℕ) → (way : Bool) → ℕ
gone bodies b n way = capped (times_of way (get_or (branches_of bodies b) n never))

below_next : (b body : ℕ) → nat_lt b (body + 1) ≡ (nat_lt b body || (b == body))
below_next b body = grind (arith, nat_tests)

not_below : (b body : ℕ) → (b == body) ≡ true → nat_lt b body ≡ false
not_below b body e = grind (arith, nat_tests)

one_more : (is_it is_below : Bool) (t u first before after : ℕ) → (is_it ≡ true → u ≡ t)
    → (is_it ≡ true → is_below ≡ false)
    → before ≡ capped (first + (if is_below then capped t else 0))
    → after ≡ capped (before + (if is_it then u else 0))
    → after ≡ capped (first + (if is_below || is_it then capped t else 0))
one_more true true t u first before after same other was is = absurd (true≢false (other refl))
one_more true false t u first before after same other was is =
    let u_is : u ≡ t = same refl in omega (arith, u_is, was, is)
one_more false true t u first before after same other was is = omega (arith, was, is)
one_more false false t u first before after same other was is = omega (arith, was, is)

-- after what others know of one body more
pub body_added : (others : List BodyWays) (body : ℕ) (row : BodyWays) (b n : ℕ) (way : Bool) (first before after : ℕ)
    → body < length others → row ≡ get_or others body row
    → before ≡ capped (first + (if nat_lt b body then gone others b n way else 0))
    → after ≡ capped (before + (if b == body then times_of way (get_or row.branches.items n never) else 0))
    → after ≡ capped (first + (if nat_lt b (body + 1) then gone others b n way else 0))
body_added others body row b n way first before after here read was is =
    one_more (b == body) (nat_lt b body) (times_of way (get_or (branches_of others b) n never))
    (times_of way (get_or row.branches.items n never)) first before after
    (λ e. ap (λ (ws : List WayCounts). times_of way (get_or ws n never))
    (sym (ap (λ (k : ℕ). branches_of others k) (eqb-true b body e) ∙ branches_was others body row here read)))
    (not_below b body) was is
    ∙ ap (λ (below : Bool). capped (first + (if below then gone others b n way else 0))) (sym (below_next b body))

never_gone : (n : ℕ) (way : Bool) → capped (times_of way (get_or [] n never)) ≡ 0
never_gone n true = refl
never_gone n false = refl

known : (is_below : Bool) (t first after : ℕ) → (is_below ≡ false → t ≡ 0)
    → after ≡ capped (first + (if is_below then t else 0)) → after ≡ capped (first + t)
known true t first after none is = is
known false t first after none is = is ∙ ap (λ (x : ℕ). capped (first + x)) (sym (none refl))

-- after what others know of all their bodies
pub bodies_added : (others : List BodyWays) (at b n : ℕ) (way : Bool) (first after : ℕ) → length others ≤ at
    → after ≡ capped (first + (if nat_lt b at then gone others b n way else 0))
    → after ≡ capped (first + gone others b n way)
bodies_added others at b n way first after all is =
    known (nat_lt b at) (gone others b n way) first after
    (λ e. let past : at ≤ b = ltb-false b at e in
    ap (λ (o : Option BodyWays). capped (times_of way (get_or (branches_in o) n never)))
    (slice_get_past others b (omega (arith, all, past)))
    ∙ never_gone n way) is

pub one_count : (is_body is_number way is_true : Bool) (times : ℕ) (s : BranchStep) → s.is_true ≡ is_true
    → (if is_body && is_number then times_of way (one_way is_true times) else 0)
    ≡ times * count_by (λ (x : BranchStep). is_body && (is_number && is_way way x)) (s ∷ [])
one_count false n way t times s is = omega arith
one_count true false way t times s is = omega arith
one_count true true true true times s is = rw is (omega arith)
one_count true true true false times s is = rw is (omega arith)
one_count true true false true times s is = rw is (omega arith)
one_count true true false false times s is = rw is (omega arith)
