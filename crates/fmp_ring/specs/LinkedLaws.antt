-- In which of the lists a node stands, and after each change.
use Rattle.fmp_base.specs.MailboxCalls.{is_among, is_queued}
use Rattle.fmp_base.specs.States.{without}
use Rattle.std.specs.Prelude.{slice_set}
use Rattle.std.proofs.Common.{◌≡◌, ℕ, zero, suc, ◌<◌, List, [], ◌∷◌, length, Bool, true, false, ◌||◌, ◌&&◌, not, refl}
use Rattle.std.proofs.Common.{arith, nat_eq, ◌++◌, cond, ap, sym, ◌∙◌}
use Rattle.std.proofs.lemmas.Bool.{or_parts, or_right, or_from}
use Rattle.fmp_ring.specs.RingLists.{is_in, is_linked, list_at, without_node, with_before, inserted_before}
use Rattle.fmp_ring.specs.OrderLaws.{without-gone, nat_eq-flip, nat_same}

pub is_linked-none : (x : ℕ) (lists : List (List ℕ)) → is_linked x lists ≡ false → (h : ℕ)
    → is_in x (list_at lists h) ≡ false
is_linked-none x [] k h = refl
is_linked-none x (l ∷ ls) k zero = (or_parts (is_in x l) (is_linked x ls) k).0
is_linked-none x (l ∷ ls) k (suc h) = is_linked-none x ls (or_parts (is_in x l) (is_linked x ls) k).1 h

pub is_linked-some : (x : ℕ) (lists : List (List ℕ)) → is_linked x lists ≡ true
    → (h : ℕ) × (h < length lists) × (is_in x (list_at lists h) ≡ true)
is_linked-some x [] k = cc
is_linked-some x (l ∷ ls) k = by_test (is_in x l) refl k (is_linked-some x ls) where
  by_test : (b : Bool) → is_in x l ≡ b → (b || is_linked x ls) ≡ true
      → (is_linked x ls ≡ true → (h : ℕ) × (h < length ls) × (is_in x (list_at ls h) ≡ true))
      → (h : ℕ) × (h < suc (length ls)) × (is_in x (list_at (l ∷ ls) h) ≡ true)
  by_test true e r rest = (zero, omega arith, e)
  by_test false e r rest = let f = rest r in let low : f.0 < length ls = f.1 in (suc f.0, omega arith, f.2)

pub is_linked-at : (x : ℕ) (lists : List (List ℕ)) (h : ℕ) → is_in x (list_at lists h) ≡ true → is_linked x lists ≡ true
is_linked-at x [] h k = k
is_linked-at x (l ∷ ls) zero k = rw k refl
is_linked-at x (l ∷ ls) (suc h) k = or_right (is_in x l) (is_linked x ls) (is_linked-at x ls h k)

pub head-there : (x : ℕ) (lists : List (List ℕ)) (h : ℕ) → is_in x (list_at lists h) ≡ true → h < length lists
head-there x [] h k = cc
head-there x (l ∷ ls) zero k = omega arith
head-there x (l ∷ ls) (suc h) k = let r : h < length ls = head-there x ls h k in omega arith

pub is_linked-without : (x : ℕ) (lists : List (List ℕ)) → is_linked x (without_node x lists) ≡ false
is_linked-without x [] = refl
is_linked-without x (l ∷ ls) = rw (without-gone x l) (is_linked-without x ls)

or_comm : (a b : Bool) → (a || b) ≡ (b || a)
or_comm true true = refl
or_comm true false = refl
or_comm false true = refl
or_comm false false = refl

or_assoc : (a b c : Bool) → (a || (b || c)) ≡ ((a || b) || c)
or_assoc true b c = refl
or_assoc false b c = refl

-- the others stay when x leaves
in-without : (y x : ℕ) (l : List ℕ) → nat_eq y x ≡ false → is_in y (without l x) ≡ is_in y l
in-without y x [] h = refl
in-without y x (t ∷ ts) h = by_test (nat_eq t x) refl (in-without y x ts h) where
  by_test : (b : Bool) → nat_eq t x ≡ b → is_in y (without ts x) ≡ is_in y ts
      → is_in y (cond (not b) (t ∷ without ts x) (without ts x)) ≡ (nat_eq y t || is_in y ts)
  by_test true e rest = let same : t ≡ x = nat_same t x e in rw (same, h) rest
  by_test false e rest = rw rest refl

pub is_linked-others : (y x : ℕ) (lists : List (List ℕ)) → nat_eq y x ≡ false
    → is_linked y (without_node x lists) ≡ is_linked y lists
is_linked-others y x [] h = refl
is_linked-others y x (l ∷ ls) h = rw (in-without y x l h, is_linked-others y x ls h) refl

-- which nodes stand there after x came before b
in-before : (y b x : ℕ) (l : List ℕ) → is_in y (inserted_before b x l) ≡ (is_in y l || (is_in b l && nat_eq y x))
in-before y b x [] = refl
in-before y b x (t ∷ ts) = by_test (nat_eq t b) refl (in-before y b x ts) where
  by_test : (c : Bool) → nat_eq t b ≡ c → is_in y (inserted_before b x ts) ≡ (is_in y ts || (is_in b ts && nat_eq y x))
      → is_in y (cond c (x ∷ t ∷ ts) (t ∷ inserted_before b x ts))
      ≡ ((nat_eq y t || is_in y ts) || ((nat_eq b t || is_in b ts) && nat_eq y x))
  by_test true e rest = rw (nat_eq-flip b t ∙ e) (or_comm (nat_eq y x) (nat_eq y t || is_in y ts))
  by_test false e rest = rw (nat_eq-flip b t ∙ e, rest) (or_assoc (nat_eq y t) (is_in y ts) (is_in b ts && nat_eq y x))

spread : (a b c d e : Bool) → ((a || (b && e)) || (c || (d && e))) ≡ ((a || c) || ((b || d) && e))
spread true b c d e = refl
spread false true true true true = refl
spread false true true true false = refl
spread false true true false true = refl
spread false true true false false = refl
spread false true false true true = refl
spread false true false true false = refl
spread false true false false true = refl
spread false true false false false = refl
spread false false c d e = refl

pub is_linked-before : (y b x : ℕ) (lists : List (List ℕ))
    → is_linked y (with_before b x lists) ≡ (is_linked y lists || (is_linked b lists && nat_eq y x))
is_linked-before y b x [] = refl
is_linked-before y b x (l ∷ ls) =
    rw (in-before y b x l, is_linked-before y b x ls)
    (spread (is_in y l) (is_in b l) (is_linked y ls) (is_linked b ls) (nat_eq y x))

-- which nodes stand there after x came last
in-push : (y x : ℕ) (l : List ℕ) → is_in y (l ++ x ∷ []) ≡ (is_in y l || nat_eq y x)
in-push y x [] = or_comm (nat_eq y x) false
in-push y x (t ∷ ts) = rw (in-push y x ts) (or_assoc (nat_eq y t) (is_in y ts) (nat_eq y x))

pub is_linked-pushed : (y x : ℕ) (lists : List (List ℕ)) (h : ℕ) → h < length lists
    → is_linked y (slice_set lists h (list_at lists h ++ x ∷ [])) ≡ (is_linked y lists || nat_eq y x)
is_linked-pushed y x [] h k = absurd (omega arith)
is_linked-pushed y x (l ∷ ls) zero k =
    rw (in-push y x l) (sym (or_assoc (is_in y l) (nat_eq y x) (is_linked y ls))
    ∙ (ap (λ (c : Bool). is_in y l || c) (or_comm (nat_eq y x) (is_linked y ls))
    ∙ or_assoc (is_in y l) (is_linked y ls) (nat_eq y x)))
is_linked-pushed y x (l ∷ ls) (suc h) k =
    rw (is_linked-pushed y x ls h (omega arith)) (or_assoc (is_in y l) (is_linked y ls) (nat_eq y x))

pub is_linked-from_none : (x : ℕ) (lists : List (List ℕ)) → ((h : ℕ) → is_in x (list_at lists h) ≡ false)
    → is_linked x lists ≡ false
is_linked-from_none x [] each = refl
is_linked-from_none x (l ∷ ls) each =
    or_from (is_in x l) (is_linked x ls) (each zero) (is_linked-from_none x ls (λ h. each (suc h)))

-- which is how the definitions of mailboxes say it of a message
pub is_linked-queued : (x : ℕ) (lists : List (List ℕ)) → is_linked x lists ≡ is_queued x lists
is_linked-queued x [] = refl
is_linked-queued x (l ∷ ls) = rw (among l, is_linked-queued x ls) refl where
  among : (l : List ℕ) → is_in x l ≡ is_among x l
  among [] = refl
  among (t ∷ ts) = ap (λ (b : Bool). nat_eq x t || b) (among ts)
