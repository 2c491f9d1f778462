-- Identifiers digit by digit, and values that end before their variables.
use Rattle.std.proofs.Common.{◌≡◌, ◌∙◌, ◌+◌, ◌<◌, ◌≤◌, ◌/◌, ℕ, zero, suc, List, [], ◌∷◌, ◌++◌, Bool, false}
use Rattle.std.proofs.Common.{OnOk, Result, Ok, Err, ap, append-nil, arith, cond, length, nat_lt, refl, sym}
use Rattle.std.proofs.lemmas.Bool.{lt-ltb}
use Rattle.std.proofs.lemmas.Bool.Decides.{nat_tests}
use Rattle.fmp_frames.specs.declared.variable.Variable.{Variable}
use Rattle.fmp_frames.specs.Dumps.{changes_text, digit, digits, values_text}

pub last_digit : (more n : ℕ) → n < 94 → digits more n ≡ digit n ∷ []
unfolding digits
last_digit zero n h = refl
last_digit (suc more) n h =
    ap (λ (b : Bool). digit n ∷ cond b [] (digits more (n / 94))) (lt-ltb n 94 h)

pub more_digits : (more n : ℕ) → 94 ≤ n → digits (suc more) n ≡ digit n ∷ digits more (n / 94)
unfolding digits
more_digits more n h =
    let large : nat_lt n 94 ≡ false = grind (arith, nat_tests) in
    ap (λ (b : Bool). digit n ∷ cond b [] (digits more (n / 94))) large

-- nothing is left to append
pub nothing_left : (out rest whole : List ℕ) → rest ≡ [] → out ++ rest ≡ whole → out ≡ whole
nothing_left out rest whole none h = sym (append-nil out) ∙ ap (λ (r : List ℕ). out ++ r) (sym none) ∙ h

pub no_values : (n : ℕ) (vs : List Variable) (xs : List ℕ) → length xs < 1 → values_text n vs xs ≡ []
unfolding values_text
no_values n [] xs h = refl
no_values n (v ∷ vs) [] h = refl
no_values n (v ∷ vs) (x ∷ xs) h = absurd (omega (arith, h))

pub no_changes_before : (n : ℕ) (vs : List Variable) (xs ys : List ℕ) → length xs < 1 → changes_text n vs xs ys ≡ []
unfolding changes_text
no_changes_before n [] xs ys h = refl
no_changes_before n (v ∷ vs) [] ys h = refl
no_changes_before n (v ∷ vs) (x ∷ xs) ys h = absurd (omega (arith, h))

pub no_changes_now : (n : ℕ) (vs : List Variable) (xs ys : List ℕ) → length ys < 1 → changes_text n vs xs ys ≡ []
unfolding changes_text
no_changes_now n [] xs ys h = refl
no_changes_now n (v ∷ vs) [] ys h = refl
no_changes_now n (v ∷ vs) (x ∷ xs) [] h = refl
no_changes_now n (v ∷ vs) (x ∷ xs) (y ∷ ys) h = absurd (omega (arith, h))

-- a fact holds on success where one that implies it does
pub on_ok_then : {T E P Q : Type 0} (r : Result T E) → (P → Q) → OnOk r P → OnOk r Q
on_ok_then (Ok x) f p = f p
on_ok_then (Err e) f p = tt
