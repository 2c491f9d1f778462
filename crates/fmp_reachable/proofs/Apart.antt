-- No message is queued twice: how this comes through a change of a mailbox.
use Rattle.std.proofs.Common.{◌≡◌, ℕ, zero, suc, ◌<◌, List, [], ◌∷◌, ◌++◌, Bool, true, false, ◌||◌, ◌⊎◌, inl, inr, refl}
use Rattle.std.proofs.Common.{sym, ◌∙◌, ap, subst, nat_eq, nat_lt, get_or, slice_set, replicate, if◌then◌else◌}
use Rattle.std.proofs.lemmas.Bool.{or_parts}
use Rattle.fmp_base.specs.declared.systems.QueueOrder.{QueueOrder}
use Rattle.fmp_base.specs.declared.systems.QueueOrder.TheVariants.{Fifo, Priority}
use Rattle.fmp_base.specs.MailboxCalls.{behind_equals, enqueued}
use Rattle.fmp_ring.specs.OrderLaws.{IsOrder-push, nat_same, nat_eq-flip}
use Rattle.fmp_ring.specs.Orders.{IsOrder}
use Rattle.fmp_ring.specs.RingLists.{is_in, is_linked}
use Rattle.fmp_reachable.specs.Sound.{AreApart}

pub apart-at : (n : ℕ) (boxes : List (List ℕ)) (x : ℕ) → AreApart n boxes → IsOrder n (get_or boxes x [])
apart-at n [] x h = tt
apart-at n (l ∷ ls) zero h = h.0
apart-at n (l ∷ ls) (suc x) h = apart-at n ls x h.2

pub apart-empty : (n k : ℕ) → AreApart n (replicate k [])
apart-empty n zero = tt
apart-empty n (suc k) = (tt, (λ g e. cc), apart-empty n k)

-- who is in one of the lists is linked
pub linked-at : (g : ℕ) (ls : List (List ℕ)) (x : ℕ) → is_in g (get_or ls x []) ≡ true → is_linked g ls ≡ true
linked-at g [] x e = e
linked-at g (l ∷ ls) zero e = rw e refl
linked-at g (l ∷ ls) (suc x) e = by_test (is_in g l) (linked-at g ls x e) where
  by_test : (b : Bool) → is_linked g ls ≡ true → (b || is_linked g ls) ≡ true
  by_test true k = refl
  by_test false k = k

linked-set : (g : ℕ) (ls : List (List ℕ)) (x : ℕ) (ms : List ℕ) → is_linked g ls ≡ false → is_in g ms ≡ false
    → is_linked g (slice_set ls x ms) ≡ false
linked-set g [] x ms e k = refl
linked-set g (l ∷ ls) zero ms e k = let parts = or_parts (is_in g l) (is_linked g ls) e in rw k parts.1
linked-set g (l ∷ ls) (suc x) ms e k =
    let parts = or_parts (is_in g l) (is_linked g ls) e in
    rw parts.0 (linked-set g ls x ms parts.1 k)

-- of those that a list gets each was there, or was in no list
abbrev pub AreNew : List (List ℕ) → ℕ → List ℕ → Type 0
AreNew boxes x ms = (g : ℕ) → is_in g ms ≡ true → (is_in g (get_or boxes x []) ≡ true) ⊎ (is_linked g boxes ≡ false)

clash : (b : Bool) → b ≡ true → b ≡ false → true ≡ false
clash b e k = sym e ∙ k

pub apart-set : (n : ℕ) (boxes : List (List ℕ)) (x : ℕ) (ms : List ℕ) → AreApart n boxes → IsOrder n ms
    → AreNew boxes x ms
    → AreApart n (slice_set boxes x ms)
apart-set n [] x ms h o k = tt
apart-set n (l ∷ ls) zero ms h o k = (o, (λ g e. by_kind g (k g e)), h.2) where
  by_kind : (g : ℕ) → (is_in g l ≡ true) ⊎ (is_linked g (l ∷ ls) ≡ false) → is_linked g ls ≡ false
  by_kind g (inl e) = h.1 g e
  by_kind g (inr e) = let parts = or_parts (is_in g l) (is_linked g ls) e in parts.1
apart-set n (l ∷ ls) (suc x) ms h o k = (
  h.0,
  (λ g e. linked-set g ls x ms (h.1 g e) (outside g e (is_in g ms) refl)),
  apart-set n ls x ms h.2 o (λ g e. behind g (k g e)),
) where
  behind : (g : ℕ) → (is_in g (get_or ls x []) ≡ true) ⊎ (is_linked g (l ∷ ls) ≡ false)
      → (is_in g (get_or ls x []) ≡ true) ⊎ (is_linked g ls ≡ false)
  behind g (inl e) = inl e
  behind g (inr e) = let parts = or_parts (is_in g l) (is_linked g ls) e in inr parts.1

  by_kind : (g : ℕ) → is_in g l ≡ true → (is_in g (get_or ls x []) ≡ true) ⊎ (is_linked g (l ∷ ls) ≡ false)
      → true ≡ false
  by_kind g e (inl i) = clash (is_linked g ls) (linked-at g ls x i) (h.1 g e)
  by_kind g e (inr i) = let parts = or_parts (is_in g l) (is_linked g ls) i in clash (is_in g l) e parts.0

  outside : (g : ℕ) → is_in g l ≡ true → (b : Bool) → is_in g ms ≡ b → is_in g ms ≡ false
  outside g e false i = i
  outside g e true i = let no : true ≡ false = by_kind g e (k g i) in cc

-- a message that joins a mailbox
in-pushed : (g t : ℕ) (l : List ℕ) → is_in g (l ++ t ∷ []) ≡ true → (is_in g l ≡ true) ⊎ (nat_eq g t ≡ true)
in-pushed g t [] e = by_test (nat_eq g t) e where
  by_test : (b : Bool) → (b || false) ≡ true → (false ≡ true) ⊎ (b ≡ true)
  by_test true k = inr refl
  by_test false k = inl k
in-pushed g t (u ∷ us) e = by_test (nat_eq g u) (in-pushed g t us) e where
  by_test : (b : Bool) → (is_in g (us ++ t ∷ []) ≡ true → (is_in g us ≡ true) ⊎ (nat_eq g t ≡ true))
      → (b || is_in g (us ++ t ∷ [])) ≡ true → ((b || is_in g us) ≡ true) ⊎ (nat_eq g t ≡ true)
  by_test true go k = inl refl
  by_test false go k = go k

in-placed : (f : ℕ → ℕ) (g t : ℕ) (l : List ℕ) → is_in g (behind_equals f t l) ≡ (is_in g l || nat_eq g t)
in-placed f g t [] = by_test (nat_eq g t) where
  by_test : (b : Bool) → (b || false) ≡ b
  by_test true = refl
  by_test false = refl
in-placed f g t (u ∷ us) = by_test (nat_lt (f t) (f u)) (in-placed f g t us) where
  turned : (a b c : Bool) → (a || (b || c)) ≡ ((b || c) || a)
  turned true true c = refl
  turned true false true = refl
  turned true false false = refl
  turned false true c = refl
  turned false false true = refl
  turned false false false = refl

  grouped : (a b c : Bool) → (a || (b || c)) ≡ ((a || b) || c)
  grouped true b c = refl
  grouped false b c = refl

  by_test : (b : Bool) → is_in g (behind_equals f t us) ≡ (is_in g us || nat_eq g t)
      → is_in g (if b then t ∷ u ∷ us else u ∷ behind_equals f t us) ≡ ((nat_eq g u || is_in g us) || nat_eq g t)
  by_test true k = turned (nat_eq g t) (nat_eq g u) (is_in g us)
  by_test false k = ap (λ (b : Bool). nat_eq g u || b) k ∙ grouped (nat_eq g u) (is_in g us) (nat_eq g t)

order-placed : (n : ℕ) (f : ℕ → ℕ) (t : ℕ) (l : List ℕ) → IsOrder n l → is_in t l ≡ false → t < n
    → IsOrder n (behind_equals f t l)
order-placed n f t [] h e below = (below, refl, tt)
order-placed n f t (u ∷ us) h e below =
    let parts = or_parts (nat_eq t u) (is_in t us) e in
    by_test (nat_lt (f t) (f u)) (order-placed n f t us h.2 parts.1 below) where
      apart : is_in u (behind_equals f t us) ≡ false
      apart =
          let parts = or_parts (nat_eq t u) (is_in t us) e in
          let other : nat_eq u t ≡ false = nat_eq-flip u t ∙ parts.0 in
          let absent : is_in u us ≡ false = h.1 in
          in-placed f u t us ∙ ap (λ (b : Bool). b || nat_eq u t) absent ∙ other

      by_test : (b : Bool) → IsOrder n (behind_equals f t us)
          → IsOrder n (if b then t ∷ u ∷ us else u ∷ behind_equals f t us)
      by_test true rest = (below, e, h)
      by_test false rest = (h.0, apart, rest)

pub order-enqueued : (n : ℕ) (o : QueueOrder) (f : ℕ → ℕ) (t : ℕ) (l : List ℕ) → IsOrder n l → is_in t l ≡ false → t < n
    → IsOrder n (enqueued o f t l)
order-enqueued n Fifo f t l h e below = IsOrder-push n t l h e below
order-enqueued n Priority f t l h e below = order-placed n f t l h e below

in-enqueued : (o : QueueOrder) (f : ℕ → ℕ) (g t : ℕ) (l : List ℕ) → is_in g (enqueued o f t l) ≡ true
    → (is_in g l ≡ true) ⊎ (nat_eq g t ≡ true)
in-enqueued Fifo f g t l e = in-pushed g t l e
in-enqueued Priority f g t l e = by_test (is_in g l) (nat_eq g t) (sym (in-placed f g t l) ∙ e) where
  by_test : (a b : Bool) → (a || b) ≡ true → (a ≡ true) ⊎ (b ≡ true)
  by_test true b k = inl refl
  by_test false b k = inr k

-- one that is in no list is in none of them
pub unlinked-at : (g : ℕ) (ls : List (List ℕ)) (x : ℕ) → is_linked g ls ≡ false → is_in g (get_or ls x []) ≡ false
unlinked-at g [] x e = refl
unlinked-at g (l ∷ ls) zero e = let parts = or_parts (is_in g l) (is_linked g ls) e in parts.0
unlinked-at g (l ∷ ls) (suc x) e = let parts = or_parts (is_in g l) (is_linked g ls) e in unlinked-at g ls x parts.1

pub new-enqueued : (o : QueueOrder) (f : ℕ → ℕ) (t : ℕ) (boxes : List (List ℕ)) (x : ℕ) → is_linked t boxes ≡ false
    → AreNew boxes x (enqueued o f t (get_or boxes x []))
new-enqueued o f t boxes x e g i = by_kind (in-enqueued o f g t (get_or boxes x []) i) where
  by_kind : (is_in g (get_or boxes x []) ≡ true) ⊎ (nat_eq g t ≡ true)
      → (is_in g (get_or boxes x []) ≡ true) ⊎ (is_linked g boxes ≡ false)
  by_kind (inl k) = inl k
  by_kind (inr k) = inr (subst (λ (v : ℕ). is_linked v boxes ≡ false) (sym (nat_same g t k)) e)

-- the first leaves
pub new-rest : (boxes : List (List ℕ)) (x m : ℕ) (rest : List ℕ) → get_or boxes x [] ≡ m ∷ rest → AreNew boxes x rest
new-rest boxes x m rest e g i =
    inl (ap (λ (l : List ℕ). is_in g l) e ∙ by_test (nat_eq g m) (is_in g rest) i) where
      by_test : (a b : Bool) → b ≡ true → (a || b) ≡ true
      by_test true b k = refl
      by_test false b k = k

pub order-rest : (n m : ℕ) (l rest : List ℕ) → l ≡ m ∷ rest → IsOrder n l → IsOrder n rest
order-rest n m [] rest e h = cc
order-rest n m (u ∷ us) rest e h = let same : us ≡ rest = cc in subst (λ (l : List ℕ). IsOrder n l) same h.2
