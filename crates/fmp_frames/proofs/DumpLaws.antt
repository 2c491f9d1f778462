-- No two variables of a dump have the same identifier.
use Rattle.std.proofs.Common.{◌≡◌, ◌∙◌, ◌*◌, ◌<◌, ◌≤◌, ◌/◌, ℕ, zero, suc, [], ◌∷◌, Bool, true, false}
use Rattle.std.proofs.Common.{arith, nat_lt, refl, sym}
use Rattle.std.proofs.lemmas.Bool.{ltb-true}
use Rattle.std.proofs.lemmas.Bool.Decides.{nat_tests}
use Rattle.fmp_frames.specs.DumpLaws.{IdentifiersDiffer}
use Rattle.fmp_frames.specs.Dumps.{digit, digits}
use Rattle.fmp_frames.proofs.DumpLemmas.{last_digit, more_digits}

-- how many numbers have one digit, or at most this many digits more
limit : ℕ → ℕ
limit zero = 94
limit (suc more) = 94 * limit more

some_digit : (more n : ℕ) → [] ≡ digits more n → ⊥
unfolding digits
some_digit zero n e = cc
some_digit (suc more) n e = cc

same_lowest : (a b : ℕ) → a < 94 → b < 94 → digit a ≡ digit b → a ≡ b
same_lowest a b ha hb e = omega (arith, ha, hb, e)

same_digits : (a b : ℕ) → digit a ≡ digit b → a / 94 ≡ b / 94 → a ≡ b
same_digits a b e h = omega (arith, e, h)

large : (n : ℕ) → nat_lt n 94 ≡ false → 94 ≤ n
large n e = grind (arith, nat_tests)

same_if : (more a b : ℕ) (s t : Bool) → nat_lt a 94 ≡ s → nat_lt b 94 ≡ t
    → (digits more (a / 94) ≡ digits more (b / 94) → a / 94 ≡ b / 94) → digits (suc more) a ≡ digits (suc more) b
    → a ≡ b
same_if more a b true true small_a small_b rest e =
    let la = ltb-true a 94 small_a in
    let lb = ltb-true b 94 small_b in
    let one : digit a ∷ [] ≡ digit b ∷ [] = sym (last_digit (suc more) a la) ∙ e ∙ last_digit (suc more) b lb in
    let same : digit a ≡ digit b = cc in
    same_lowest a b la lb same
same_if more a b true false small_a large_b rest e =
    let la = ltb-true a 94 small_a in
    let one : digit a ∷ [] ≡ digit b ∷ digits more (b / 94) =
    sym (last_digit (suc more) a la) ∙ e ∙ more_digits more b (large b large_b) in
    let none : [] ≡ digits more (b / 94) = cc in
    absurd (some_digit more (b / 94) none)
same_if more a b false true large_a small_b rest e =
    let lb = ltb-true b 94 small_b in
    let one : digit b ∷ [] ≡ digit a ∷ digits more (a / 94) =
    sym (last_digit (suc more) b lb) ∙ sym e ∙ more_digits more a (large a large_a) in
    let none : [] ≡ digits more (a / 94) = cc in
    absurd (some_digit more (a / 94) none)
same_if more a b false false large_a large_b rest e =
    let both : digit a ∷ digits more (a / 94) ≡ digit b ∷ digits more (b / 94) =
    sym (more_digits more a (large a large_a)) ∙ e ∙ more_digits more b (large b large_b) in
    let first : digit a ≡ digit b = cc in
    let others : digits more (a / 94) ≡ digits more (b / 94) = cc in
    same_digits a b first (rest others)

same_number : (more a b : ℕ) → a < limit more → b < limit more → digits more a ≡ digits more b → a ≡ b
unfolding digits limit
same_number zero a b ha hb e =
    let same : digit a ≡ digit b = cc in
    same_lowest a b ha hb same
same_number (suc more) a b ha hb e =
    let p = limit more in
    let below : (n : ℕ) → n < 94 * p → n / 94 < p = λ n h. omega (arith, h) in
    same_if more a b (nat_lt a 94) (nat_lt b 94) refl refl
    (λ h. same_number more (a / 94) (b / 94) (below a ha) (below b hb) h) e

pub identifiers_differ : IdentifiersDiffer
unfolding limit
identifiers_differ a b ha hb e = same_number 3 a b ha hb e
