-- Times at two clocks.
use Rattle.std.proofs.Common.{◌≡◌, ◌+◌, ℕ, zero, suc, List, [], ◌∷◌, Option, Some, None, Bool, true, false, refl, sym}
use Rattle.std.proofs.Common.{◌∙◌, ap, nat_eq, length, slice_get, slice_set, subst, arith}
use Rattle.std.proofs.lemmas.Bool.{eqb-true, eq-eqb}
use Rattle.fmp_base.specs.declared.states.TaskBlock.{TaskBlock}
use Rattle.fmp_base.specs.States.{task_at}
use Rattle.fmp_base.specs.Systems.{found}
use Rattle.fmp_base.specs.Ticks.{is_due}
use Rattle.fmp_bisimulation.specs.Alike.{SameTime, SameTimes, SameBlock, SameBlocks}

pub same_time-refl : (a : ℕ) (x : Option ℕ) → SameTime a a x x
same_time-refl a None = tt
same_time-refl a (Some x) = refl

pub same_time-sym : (a b : ℕ) (x y : Option ℕ) → SameTime a b x y → SameTime b a y x
same_time-sym a b None None h = tt
same_time-sym a b (Some x) (Some y) h = sym h
same_time-sym a b None (Some y) h = absurd h
same_time-sym a b (Some x) None h = absurd h

pub same_time-chained : (a b c : ℕ) (x y z : Option ℕ) → SameTime a b x y → SameTime b c y z → SameTime a c x z
same_time-chained a b c None None None h k = tt
same_time-chained a b c (Some x) (Some y) (Some z) h k = omega arith
same_time-chained a b c None None (Some z) h k = absurd k
same_time-chained a b c None (Some y) z h k = absurd h
same_time-chained a b c (Some x) None z h k = absurd h
same_time-chained a b c (Some x) (Some y) None h k = absurd k

-- a time that begins now at both clocks
pub same-later : (a b n : ℕ) → SameTime a b (Some (a + n)) (Some (b + n))
same-later a b n = omega arith

pub same-after : (a b n : ℕ) → SameTime a b (Some (a + n + 1)) (Some (b + n + 1))
same-after a b n = omega arith

-- both clocks advance
pub same_time-advanced : (a b : ℕ) (x y : Option ℕ) → SameTime a b x y → SameTime (a + 1) (b + 1) x y
same_time-advanced a b None None h = tt
same_time-advanced a b (Some x) (Some y) h = omega arith
same_time-advanced a b None (Some y) h = absurd h
same_time-advanced a b (Some x) None h = absurd h

same-bools : (p q : Bool) → (p ≡ true → q ≡ true) → (q ≡ true → p ≡ true) → p ≡ q
same-bools true q f g = sym (f refl)
same-bools false true f g = g refl
same-bools false false f g = refl

-- a time is now at both clocks, or at none
nat_eq-shifted : (a b x y : ℕ) → x + b ≡ y + a → nat_eq x a ≡ nat_eq y b
nat_eq-shifted a b x y h =
    same-bools (nat_eq x a) (nat_eq y b)
    (λ k. let e : x ≡ a = eqb-true x a k in eq-eqb y b (let l : y ≡ b = omega arith in l))
    (λ k. let e : y ≡ b = eqb-true y b k in eq-eqb x a (let l : x ≡ a = omega arith in l))

pub same-due : (a b : ℕ) (x y : Option ℕ) → SameTime a b x y → is_due a x ≡ is_due b y
same-due a b None None h = refl
same-due a b (Some x) (Some y) h = nat_eq-shifted a b x y h
same-due a b None (Some y) h = absurd h
same-due a b (Some x) None h = absurd h

pub times-at : (a b : ℕ) (xs ys : List (Option ℕ)) → SameTimes a b xs ys → (c : ℕ)
    → SameTime a b (found None (slice_get xs c)) (found None (slice_get ys c))
times-at a b [] [] h c = tt
times-at a b (x ∷ xs) (y ∷ ys) (h, hs) zero = h
times-at a b (x ∷ xs) (y ∷ ys) (h, hs) (suc c) = times-at a b xs ys hs c
times-at a b [] (y ∷ ys) h c = absurd h
times-at a b (x ∷ xs) [] h c = absurd h

pub times-set : (a b : ℕ) (xs ys : List (Option ℕ)) → SameTimes a b xs ys → (c : ℕ) (x y : Option ℕ) → SameTime a b x y
    → SameTimes a b (slice_set xs c x) (slice_set ys c y)
times-set a b [] [] h c x y k = tt
times-set a b (v ∷ vs) (w ∷ ws) (h, hs) zero x y k = (k, hs)
times-set a b (v ∷ vs) (w ∷ ws) (h, hs) (suc c) x y k = (h, times-set a b vs ws hs c x y k)
times-set a b [] (w ∷ ws) h c x y k = absurd h
times-set a b (v ∷ vs) [] h c x y k = absurd h

pub times-long : (a b : ℕ) (xs ys : List (Option ℕ)) → SameTimes a b xs ys → length xs ≡ length ys
times-long a b [] [] h = refl
times-long a b (x ∷ xs) (y ∷ ys) (h, hs) = ap (λ (n : ℕ). suc n) (times-long a b xs ys hs)
times-long a b [] (y ∷ ys) h = absurd h
times-long a b (x ∷ xs) [] h = absurd h

pub times-advanced : (a b : ℕ) (xs ys : List (Option ℕ)) → SameTimes a b xs ys → SameTimes (a + 1) (b + 1) xs ys
times-advanced a b [] [] h = tt
times-advanced a b (x ∷ xs) (y ∷ ys) (h, hs) = (same_time-advanced a b x y h, times-advanced a b xs ys hs)
times-advanced a b [] (y ∷ ys) h = absurd h
times-advanced a b (x ∷ xs) [] h = absurd h

pub times-refl : (a : ℕ) (xs : List (Option ℕ)) → SameTimes a a xs xs
times-refl a [] = tt
times-refl a (x ∷ xs) = (same_time-refl a x, times-refl a xs)

pub times-sym : (a b : ℕ) (xs ys : List (Option ℕ)) → SameTimes a b xs ys → SameTimes b a ys xs
times-sym a b [] [] h = tt
times-sym a b (x ∷ xs) (y ∷ ys) (h, hs) = (same_time-sym a b x y h, times-sym a b xs ys hs)
times-sym a b [] (y ∷ ys) h = absurd h
times-sym a b (x ∷ xs) [] h = absurd h

pub times-chained : (a b c : ℕ) (xs ys zs : List (Option ℕ)) → SameTimes a b xs ys → SameTimes b c ys zs
    → SameTimes a c xs zs
times-chained a b c [] [] [] h k = tt
times-chained a b c (x ∷ xs) (y ∷ ys) (z ∷ zs) (h, hs) (k, ks) =
    (same_time-chained a b c x y z h k, times-chained a b c xs ys zs hs ks)
times-chained a b c [] [] (z ∷ zs) h k = absurd k
times-chained a b c [] (y ∷ ys) zs h k = absurd h
times-chained a b c (x ∷ xs) [] zs h k = absurd h
times-chained a b c (x ∷ xs) (y ∷ ys) [] h k = absurd k

-- what is shown of a block with any deadline at its time holds of each one that is the same
pub by_block : (Q : TaskBlock → Type 0) (a b : ℕ) (x y : TaskBlock) → SameBlock a b x y
    → ((d : Option ℕ) → SameTime a b x.deadline d → Q (record x { deadline = d })) → Q y
by_block Q a b x y h q =
    subst Q (ap (λ (z : TaskBlock). record z { deadline = y.deadline }) h.rest) (q y.deadline h.deadline)

pub same_block-refl : (a : ℕ) (x : TaskBlock) → SameBlock a a x x
same_block-refl a x = record { rest = refl; deadline = same_time-refl a x.deadline }

pub blocks-at : (a b : ℕ) (xs ys : List TaskBlock) → SameBlocks a b xs ys → (t : ℕ)
    → SameBlock a b (task_at xs t) (task_at ys t)
blocks-at a b [] [] h t = record { rest = refl; deadline = tt }
blocks-at a b (x ∷ xs) (y ∷ ys) (h, hs) zero = h
blocks-at a b (x ∷ xs) (y ∷ ys) (h, hs) (suc t) = blocks-at a b xs ys hs t
blocks-at a b [] (y ∷ ys) h t = absurd h
blocks-at a b (x ∷ xs) [] h t = absurd h

pub blocks-set : (a b : ℕ) (xs ys : List TaskBlock) → SameBlocks a b xs ys → (t : ℕ) (x y : TaskBlock)
    → SameBlock a b x y
    → SameBlocks a b (slice_set xs t x) (slice_set ys t y)
blocks-set a b [] [] h t x y k = tt
blocks-set a b (v ∷ vs) (w ∷ ws) (h, hs) zero x y k = (k, hs)
blocks-set a b (v ∷ vs) (w ∷ ws) (h, hs) (suc t) x y k = (h, blocks-set a b vs ws hs t x y k)
blocks-set a b [] (w ∷ ws) h t x y k = absurd h
blocks-set a b (v ∷ vs) [] h t x y k = absurd h

pub blocks-long : (a b : ℕ) (xs ys : List TaskBlock) → SameBlocks a b xs ys → length xs ≡ length ys
blocks-long a b [] [] h = refl
blocks-long a b (x ∷ xs) (y ∷ ys) (h, hs) = ap (λ (n : ℕ). suc n) (blocks-long a b xs ys hs)
blocks-long a b [] (y ∷ ys) h = absurd h
blocks-long a b (x ∷ xs) [] h = absurd h

pub blocks-advanced : (a b : ℕ) (xs ys : List TaskBlock) → SameBlocks a b xs ys → SameBlocks (a + 1) (b + 1) xs ys
blocks-advanced a b [] [] h = tt
blocks-advanced a b (x ∷ xs) (y ∷ ys) (h, hs) = (
  record { rest = h.rest; deadline = same_time-advanced a b x.deadline y.deadline h.deadline },
  blocks-advanced a b
      xs ys hs,
)
blocks-advanced a b [] (y ∷ ys) h = absurd h
blocks-advanced a b (x ∷ xs) [] h = absurd h

pub blocks-refl : (a : ℕ) (xs : List TaskBlock) → SameBlocks a a xs xs
blocks-refl a [] = tt
blocks-refl a (x ∷ xs) = (same_block-refl a x, blocks-refl a xs)

pub blocks-sym : (a b : ℕ) (xs ys : List TaskBlock) → SameBlocks a b xs ys → SameBlocks b a ys xs
blocks-sym a b [] [] h = tt
blocks-sym a b (x ∷ xs) (y ∷ ys) (h, hs) = (
  record { rest = sym h.rest; deadline = same_time-sym a b x.deadline y.deadline h.deadline },
  blocks-sym a b xs ys
      hs,
)
blocks-sym a b [] (y ∷ ys) h = absurd h
blocks-sym a b (x ∷ xs) [] h = absurd h

pub blocks-chained : (a b c : ℕ) (xs ys zs : List TaskBlock) → SameBlocks a b xs ys → SameBlocks b c ys zs
    → SameBlocks a c xs zs
blocks-chained a b c [] [] [] h k = tt
blocks-chained a b c (x ∷ xs) (y ∷ ys) (z ∷ zs) (h, hs) (k, ks) = (
  record {
    rest = h.rest ∙ k.rest;
    deadline = same_time-chained a b c x.deadline y.deadline z.deadline h.deadline k.deadline;
  },
  blocks-chained a b c xs ys zs hs ks,
)
blocks-chained a b c [] [] (z ∷ zs) h k = absurd k
blocks-chained a b c [] (y ∷ ys) zs h k = absurd h
blocks-chained a b c (x ∷ xs) [] zs h k = absurd h
blocks-chained a b c (x ∷ xs) (y ∷ ys) [] h k = absurd k
