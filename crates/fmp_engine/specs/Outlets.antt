-- What an outlet was given of a text, and what is left of it.
use Rattle.std.proofs.Common.{ℕ, ◌≡◌, ◌++◌, ◌∙◌, List, [], ap, append_assoc, append-nil, sym}

-- Between two states of an outlet it was given the front of a text, and this is left of the text. The first argument
-- says what it means that an outlet was given some bytes.
pub record Given {T : Type 0} (gave : T → T → List ℕ → Type 0) (from to : T) (left whole : List ℕ) : Type 0 where
  pub front : List ℕ
  pub is_given : gave from to front
  pub whole_is : whole ≡ front ++ left

-- the same, whatever is left
abbrev pub GivenFront : {T : Type 0} → (T → T → List ℕ → Type 0) → (from to : T) → (whole : List ℕ) → Type 0
GivenFront gave from to whole = (left : List ℕ) × Given gave from to left whole

-- a list to which nothing is appended
pub appended_nothing : (xs : List ℕ) → xs ≡ xs ++ []
appended_nothing xs = sym (append-nil xs)

-- a list to which two others are appended
pub appended_twice : (xs x y : List ℕ) {ys zs : List ℕ} → ys ≡ xs ++ x → zs ≡ ys ++ y → zs ≡ xs ++ (x ++ y)
appended_twice xs x y first then = then ∙ ap (λ (text : List ℕ). text ++ y) first ∙ append_assoc xs x y
