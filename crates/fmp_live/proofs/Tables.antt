-- The tables of bodies, one by one.
use Rattle.std.proofs.Common.{◌≡◌, ◌+◌, ◌<◌, ◌≤◌, ℕ, zero, suc, Bool, List, [], ◌∷◌, ◌++◌, length, get_or, map, Some}
use Rattle.std.proofs.Common.{refl, sym, ◌∙◌, ap, subst, arith, ⊎_elim, slice_get, option_map}
use Rattle.std.proofs.lemmas.Bool.{cases_lt}
use Rattle.std.proofs.lemmas.List.{length-append}
use Rattle.std.proofs.lemmas.Option.{slice_get-map}
use Rattle.fmp_instructions.specs.declared.instructions.BodyCode.{BodyCode}
use Rattle.fmp_instructions.specs.declared.instructions.Instruction.{Instruction}
use Rattle.fmp_instructions.specs.Instructions.{BodyTables, body_tables, found_instructions, instructions_at}
use Rattle.fmp_live.specs.declared.live_rows.LiveRows.{LiveRows}
use Rattle.fmp_live.specs.LiveLocals.{AreLiveTables, IsLiveTable, LiveTable, live_table, table_at}

read-left : {A B : Type 0} (f : A → B) (xs ys : List A) (k : ℕ) (d : B) → k < length xs
    → get_or (map f (xs ++ ys)) k d ≡ get_or (map f xs) k d
read-left f [] ys k d lt = absurd (omega (arith, lt))
read-left f (x ∷ xs) ys zero d lt = refl
read-left f (x ∷ xs) ys (suc k) d lt = read-left f xs ys k d (omega (arith, lt))

read-last : {A B : Type 0} (f : A → B) (xs : List A) (y : A) (d : B) → get_or (map f (xs ++ y ∷ [])) (length xs) d ≡ f y
read-last f [] y d = refl
read-last f (x ∷ xs) y d = read-last f xs y d

read-past : {A B : Type 0} (f : A → B) (xs : List A) (k : ℕ) (d : B) → length xs ≤ k → get_or (map f xs) k d ≡ d
read-past f [] k d le = refl
read-past f (x ∷ xs) zero d le = absurd (omega (arith, le))
read-past f (x ∷ xs) (suc k) d le = read-past f xs k d (omega (arith, le))

abbrev no_table : LiveTable
no_table = record { goes = []; awaits = [] }

-- where there is no row every local is live
pub all-live : (outs : Bool) (code : List Instruction) → IsLiveTable outs code no_table
all-live outs code = record { goes = λ place v i e dead. cc; awaits = λ place v dead. cc }

-- the first bodies have their tables
abbrev pub HaveTables : (outs : Bool) → List BodyTables → List LiveRows → Type 0
HaveTables outs bodies rows =
    (k : ℕ) → k < length rows → IsLiveTable outs (instructions_at bodies k) (table_at (map live_table rows) k)

pub one-more : (outs : Bool) (bodies : List BodyTables) (rows : List LiveRows) (r : LiveRows)
    → IsLiveTable outs (instructions_at bodies (length rows)) (live_table r) → HaveTables outs bodies rows
    → HaveTables outs bodies (rows ++ r ∷ [])
one-more outs bodies rows r h have k lt =
    ⊎_elim
    (λ below.
    subst (λ (t : LiveTable). IsLiveTable outs (instructions_at bodies k) t)
    (sym (read-left live_table rows (r ∷ []) k no_table below)) (have k below))
    (λ le.
    let long : length (rows ++ r ∷ []) ≡ length rows + 1 = length-append rows (r ∷ []) in
    let last : length rows ≡ k = omega (arith, lt, le, long) in
    subst (λ (i : ℕ). IsLiveTable outs (instructions_at bodies i) (table_at (map live_table (rows ++ r ∷ [])) i)) last
    (subst (λ (t : LiveTable). IsLiveTable outs (instructions_at bodies (length rows)) t)
    (sym (read-last live_table rows r no_table)) h))
    (cases_lt k (length rows))

-- a body behind them has none
pub have-all : (outs : Bool) (bodies : List BodyTables) (rows : List LiveRows) → HaveTables outs bodies rows
    → AreLiveTables outs bodies (map live_table rows)
have-all outs bodies rows have k =
    ⊎_elim (λ below. have k below)
    (λ le.
    subst (λ (t : LiveTable). IsLiveTable outs (instructions_at bodies k) t) (sym (read-past live_table rows k no_table le))
    (all-live outs (instructions_at bodies k)))
    (cases_lt k (length rows))

-- the instructions of the body at a place
pub instructions-there : (bodies : List BodyCode) (k : ℕ) (body : BodyCode) → slice_get bodies k ≡ Some body
    → instructions_at (map body_tables bodies) k ≡ body.instructions.items
instructions-there bodies k body e =
    ap found_instructions (slice_get-map body_tables bodies k)
    ∙ ap (λ o. found_instructions (option_map body_tables o)) e
