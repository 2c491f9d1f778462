-- A list in which nobody stands twice is told by who stands in it, and who behind whom.
use Rattle.std.proofs.Common.{◌≡◌, ℕ, List, [], ◌∷◌, Some, Bool, true, false, ◌||◌, refl, sym, ◌∙◌, ap, subst, nat_eq}
use Rattle.std.proofs.Common.{cond}
use Rattle.std.specs.List.{list_any}
use Rattle.std.proofs.lemmas.Bool.{eqb-true, eq-eqb, ne_eqb}
use Rattle.fmp_base.specs.declared.systems.QueueOrder.{QueueOrder}
use Rattle.fmp_base.specs.declared.systems.QueueOrder.TheVariants.{Fifo, Priority}
use Rattle.fmp_base.specs.Queues.{arranged, first_of}
use Rattle.fmp_ring.specs.Orders.{IsOrder}
use Rattle.fmp_ring.specs.RingLists.{behind, follower, is_in}
use Rattle.fmp_ring.specs.WalkLaws.{behind-cons}
use Rattle.fmp_tasks.proofs.StandLemmas.{any-sorted}

follower-cons : (t u : ℕ) (l : List ℕ) → follower t (u ∷ l) ≡ cond (nat_eq t u) (first_of l) (follower t l)
follower-cons t u l = ap first_of (behind-cons t u l) ∙ by_test (nat_eq t u) where
  by_test : (b : Bool) → first_of (cond b l (behind t l)) ≡ cond b (first_of l) (follower t l)
  by_test true = refl
  by_test false = refl

pub follower-first : (t : ℕ) (l : List ℕ) → follower t (t ∷ l) ≡ first_of l
follower-first t l = follower-cons t t l ∙ ap (λ (b : Bool). cond b (first_of l) (follower t l)) (eq-eqb t t refl)

pub follower-later : (t u : ℕ) (l : List ℕ) → nat_eq t u ≡ false → follower t (u ∷ l) ≡ follower t l
follower-later t u l e = follower-cons t u l ∙ ap (λ (b : Bool). cond b (first_of l) (follower t l)) e

pub in-first : (t : ℕ) (l : List ℕ) → is_in t (t ∷ l) ≡ true
in-first t l = ap (λ (b : Bool). b || is_in t l) (eq-eqb t t refl)

pub in-later : (t u : ℕ) (l : List ℕ) → is_in t l ≡ true → is_in t (u ∷ l) ≡ true
in-later t u l h = ap (λ (b : Bool). nat_eq t u || b) h ∙ or_true (nat_eq t u) where
  or_true : (a : Bool) → (a || true) ≡ true
  or_true true = refl
  or_true false = refl

in-rest : (t u : ℕ) (l : List ℕ) → nat_eq t u ≡ false → is_in t (u ∷ l) ≡ is_in t l
in-rest t u l e = ap (λ (b : Bool). b || is_in t l) e

-- who stands in a list is not one that does not
pub apart : (t u : ℕ) (l : List ℕ) → is_in t l ≡ true → is_in u l ≡ false → nat_eq t u ≡ false
apart t u l h k =
    ne_eqb t u (λ same. let clash : true ≡ false = sym h ∙ (ap (λ (v : ℕ). is_in v l) same ∙ k) in cc)

-- who follows stands behind the first
follower-in : (p x a : ℕ) (l : List ℕ) → follower p (a ∷ l) ≡ Some x → is_in x l ≡ true
follower-in p x a [] h = by_test (nat_eq p a) (sym (follower-cons p a []) ∙ h) where
  by_test : (b : Bool) → cond b (first_of []) (follower p []) ≡ Some x → is_in x [] ≡ true
  by_test true k = cc
  by_test false k = cc
follower-in p x a (b ∷ l) h = by_test (nat_eq p a) (sym (follower-cons p a (b ∷ l)) ∙ h) (follower-in p x b l) where
  by_test : (c : Bool) → cond c (first_of (b ∷ l)) (follower p (b ∷ l)) ≡ Some x
      → (follower p (b ∷ l) ≡ Some x → is_in x l ≡ true)
      → is_in x (b ∷ l) ≡ true
  by_test true k rest = let same : b ≡ x = cc in subst (λ (v : ℕ). is_in x (v ∷ l) ≡ true) (sym same) (in-first x l)
  by_test false k rest = in-later x b l (rest k)

-- who stands behind the first follows somebody
record Follows (x : ℕ) (l : List ℕ) : Type 0 where
  pub before : ℕ
  pub there : is_in before l ≡ true
  pub follows : follower before l ≡ Some x

follows : (n x a : ℕ) (l : List ℕ) → IsOrder n (a ∷ l) → is_in x l ≡ true → Follows x (a ∷ l)
follows n x a [] h k = cc
follows n x a (b ∷ l) h k = by_test (nat_eq x b) refl (follows n x b l h.2) where
  by_test : (c : Bool) → nat_eq x b ≡ c → (is_in x l ≡ true → Follows x (b ∷ l)) → Follows x (a ∷ b ∷ l)
  by_test true e rest =
      let same : x ≡ b = eqb-true x b e in
      record {
        before = a;
        there = in-first a (b ∷ l);
        follows = follower-first a (b
            ∷ l) ∙ ap (λ (v : ℕ). Some v) (sym same);
      }
  by_test false e rest =
      let f = rest (sym (in-rest x b l e) ∙ k) in
      record {
        before = f.before;
        there = in-later f.before a (b ∷ l) f.there;
        follows = follower-later f.before a (b ∷ l) (apart f.before a (b ∷ l) f.there h.1) ∙ f.follows;
      }

-- the first of both is the same
same-first : (n x y : ℕ) (xs ys : List ℕ) → IsOrder n (x ∷ xs) → IsOrder n (y ∷ ys)
    → ((t : ℕ) → is_in t (x ∷ xs) ≡ is_in t (y ∷ ys))
    → ((t : ℕ) → is_in t (x ∷ xs) ≡ true → follower t (x ∷ xs) ≡ follower t (y ∷ ys)) → x ≡ y
same-first n x y xs ys a b same told = by_test (nat_eq x y) refl where
  by_test : (c : Bool) → nat_eq x y ≡ c → x ≡ y
  by_test true e = eqb-true x y e
  by_test false e =
      let f = follows n x y ys b (sym (in-rest x y ys e) ∙ (sym (same x) ∙ in-first x xs)) in
      let here : is_in f.before (x ∷ xs) ≡ true = same f.before ∙ f.there in
      let twice : is_in x xs ≡ true = follower-in f.before x x xs (told f.before here ∙ f.follows) in
      let clash : true ≡ false = sym twice ∙ a.1 in cc

rest-same : (n x : ℕ) (xs ys : List ℕ) → IsOrder n (x ∷ xs) → IsOrder n (x ∷ ys)
    → ((t : ℕ) → is_in t (x ∷ xs) ≡ is_in t (x ∷ ys))
    → (t : ℕ) → is_in t xs ≡ is_in t ys
rest-same n x xs ys a b same t = by_test (nat_eq t x) refl where
  by_test : (c : Bool) → nat_eq t x ≡ c → is_in t xs ≡ is_in t ys
  by_test true e =
      let is : t ≡ x = eqb-true t x e in
      subst (λ (v : ℕ). is_in v xs ≡ is_in v ys) (sym is) (a.1 ∙ sym b.1)
  by_test false e = sym (in-rest t x xs e) ∙ (same t ∙ in-rest t x ys e)

pub lists-told : (n : ℕ) (xs ys : List ℕ) → IsOrder n xs → IsOrder n ys → ((t : ℕ) → is_in t xs ≡ is_in t ys)
    → ((t : ℕ) → is_in t xs ≡ true → follower t xs ≡ follower t ys) → xs ≡ ys
lists-told n [] [] a b same told = refl
lists-told n [] (y ∷ ys) a b same told = let clash : false ≡ true = same y ∙ in-first y ys in cc
lists-told n (x ∷ xs) [] a b same told = let clash : true ≡ false = sym (in-first x xs) ∙ same x in cc
lists-told n (x ∷ xs) (y ∷ ys) a b same told =
    let first : x ≡ y = same-first n x y xs ys a b same told in
    let b2 : IsOrder n (x ∷ ys) = subst (λ (v : ℕ). IsOrder n (v ∷ ys)) (sym first) b in
    let same2 : (t : ℕ) → is_in t (x ∷ xs) ≡ is_in t (x ∷ ys) =
    subst (λ (v : ℕ). (t : ℕ) → is_in t (x ∷ xs) ≡ is_in t (v ∷ ys)) (sym first) same in
    let told2 : (t : ℕ) → is_in t (x ∷ xs) ≡ true → follower t (x ∷ xs) ≡ follower t (x ∷ ys) =
    subst (λ (v : ℕ). (t : ℕ) → is_in t (x ∷ xs) ≡ true → follower t (x ∷ xs) ≡ follower t (v ∷ ys)) (sym first) told in
    let rest : xs ≡ ys =
    lists-told n xs ys a.2 b2.2 (rest-same n x xs ys a b2 same2)
    (λ t h. sym (follower-later t x xs (apart t x xs h a.1)) ∙ (told2 t (in-later t x xs h)
    ∙ follower-later t x ys (apart t x ys (sym (rest-same n x xs ys a b2 same2 t) ∙ h) b2.1))) in
    subst (λ (v : ℕ). x ∷ xs ≡ v ∷ ys) first (ap (λ (l : List ℕ). x ∷ l) rest)

pub any-arranged : (o : QueueOrder) (p : ℕ → Bool) (f : ℕ → ℕ) (l : List ℕ) → list_any p (arranged o f l) ≡ list_any p l
any-arranged Fifo p f l = refl
any-arranged Priority p f l = any-sorted p f l
