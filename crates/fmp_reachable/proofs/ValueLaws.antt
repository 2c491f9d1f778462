-- Lists of values are told by how many there are and the number of each.
use Rattle.std.proofs.Common.{◌≡◌, ◌<◌, ℕ, zero, suc, ℤ, pos, List, [], ◌∷◌, Option, Some, None, Bool, true, false}
use Rattle.std.proofs.Common.{◌||◌, refl, sym, ◌∙◌, ap, subst, length, get_or, nat_eq, arith}
use Rattle.std.proofs.lemmas.Bool.{eqb-true}
use Rattle.std.proofs.lemmas.List.{ext_get_or}
use Rattle.fmp_base.specs.declared.systems.InterruptConfig.{InterruptConfig}
use Rattle.fmp_base.specs.Queues.{first_of}
use Rattle.fmp_base.specs.States.{KernelState}
use Rattle.fmp_base.specs.Systems.{SystemTables, interrupt_config}
use Rattle.fmp_base.specs.Ticks.{is_pending}
use Rattle.fmp_ring.specs.Orders.{IsOrder}
use Rattle.fmp_ring.specs.RingLists.{follower, is_in}
use Rattle.fmp_reachable.specs.Behind.{mailbox_at, message_behind}
use Rattle.fmp_reachable.specs.Numbers.{bit, unsigned}
use Rattle.fmp_reachable.specs.Values.{AreMessagesApart, IsUndefinedQuiet, SameValueNumbers, SameSizes}
use Rattle.fmp_reachable.proofs.ListLaws.{apart, follower-first, follower-later, in-first, in-later}
use Rattle.fmp_reachable.proofs.NumberLaws.{bit-told, place-told, unsigned-told}

words-told : (xs ys : List ℤ) → length xs ≡ length ys
    → ((i : ℕ) → i < length xs → unsigned (get_or xs i (pos 0)) ≡ unsigned (get_or ys i (pos 0))) → xs ≡ ys
words-told xs ys e h = ext_get_or (pos 0) xs ys e (λ i l. unsigned-told _ _ (h i l))

flags-told : (xs ys : List Bool) → length xs ≡ length ys
    → ((i : ℕ) → i < length xs → bit (is_pending xs i) ≡ bit (is_pending ys i)) → xs ≡ ys
flags-told [] [] e h = refl
flags-told [] (y ∷ ys) e h = absurd (omega arith)
flags-told (x ∷ xs) [] e h = absurd (omega arith)
flags-told (x ∷ xs) (y ∷ ys) e h =
    let first : x ≡ y = bit-told x y (h zero (omega arith)) in
    let rest : xs ≡ ys = flags-told xs ys (omega arith) (λ i l. h (suc i) (omega arith)) in cc

-- a list is told by its first, and who stands behind whom
chain-told : (n : ℕ) (xs ys : List ℕ) → IsOrder n xs → IsOrder n ys → first_of xs ≡ first_of ys
    → ((t : ℕ) → is_in t xs ≡ true → is_in t ys ≡ true → follower t xs ≡ follower t ys) → xs ≡ ys
chain-told n [] [] a b e h = refl
chain-told n [] (y ∷ ys) a b e h = cc
chain-told n (x ∷ xs) [] a b e h = cc
chain-told n (x ∷ xs) (y ∷ ys) a b e h =
    let first : y ≡ x = cc in
    let b2 : IsOrder n (x ∷ ys) = subst (λ (v : ℕ). IsOrder n (v ∷ ys)) first b in
    let h2 : (t : ℕ) → is_in t (x ∷ xs) ≡ true → is_in t (x ∷ ys) ≡ true → follower t (x ∷ xs) ≡ follower t (x ∷ ys) =
    subst (λ (v : ℕ). (t : ℕ) → is_in t (x ∷ xs) ≡ true → is_in t (v ∷ ys) ≡ true → follower t (x ∷ xs)
    ≡ follower t (v ∷ ys)) first h in
    let next : first_of xs ≡ first_of ys =
    sym (follower-first x xs) ∙ (h2 x (in-first x xs) (in-first x ys) ∙ follower-first x ys) in
    let rest : xs ≡ ys =
    chain-told n xs ys a.2 b2.2 next
    (λ t k l. sym (follower-later t x xs (apart t x xs k a.1)) ∙ (h2 t (in-later t x xs k) (in-later t x ys l)
    ∙ follower-later t x ys (apart t x ys l b2.1))) in
    subst (λ (v : ℕ). x ∷ xs ≡ v ∷ ys) (sym first) (ap (λ (l : List ℕ). x ∷ l) rest)

in_order-below : (n g : ℕ) (l : List ℕ) → IsOrder n l → is_in g l ≡ true → g < n
in_order-below n g [] h k = cc
in_order-below n g (x ∷ xs) h k = by_test (nat_eq g x) refl k (in_order-below n g xs h.2) where
  by_test : (b : Bool) → nat_eq g x ≡ b → (b || is_in g xs) ≡ true → (is_in g xs ≡ true → g < n) → g < n
  by_test true e m rest = subst (λ (v : ℕ). v < n) (sym (eqb-true g x e)) h.0
  by_test false e m rest = rest m

-- the values of the objects, and which handlers are pending
pub record SameValues (s u : KernelState) : Type 0 where
  pub semaphores : s.semaphores ≡ u.semaphores
  pub flags : s.flags ≡ u.flags
  pub data_queues : s.data_queues ≡ u.data_queues
  pub mailboxes : s.mailboxes ≡ u.mailboxes
  pub shared_words : s.shared_words ≡ u.shared_words
  pub pending_cyclics : s.pending_cyclics ≡ u.pending_cyclics
  pub pending_interrupts : s.pending_interrupts ≡ u.pending_interrupts

pub values-told : (sys : SystemTables) (s u : KernelState) → AreMessagesApart (length sys.messages) s
    → AreMessagesApart (length sys.messages) u → IsUndefinedQuiet sys s
    → IsUndefinedQuiet sys u → SameSizes s u → SameValueNumbers sys s u → SameValues s u
values-told sys s u a b q r z n =
    record {
      semaphores = ext_get_or 0 s.semaphores u.semaphores z.semaphores n.semaphores;
      flags = ext_get_or 0 s.flags u.flags z.flags n.flags;
      data_queues = ext_get_or [] s.data_queues u.data_queues z.data_queues
          (λ d l. words-told (get_or s.data_queues d []) (get_or u.data_queues d []) (n.lengths d l) (n.words d l));
      mailboxes = ext_get_or [] s.mailboxes u.mailboxes z.mailboxes (λ x l. mailbox x l);
      shared_words = words-told s.shared_words u.shared_words z.shared_words n.shared_words;
      pending_cyclics = flags-told s.pending_cyclics u.pending_cyclics z.pending_cyclics n.pending_cyclics;
      pending_interrupts = flags-told s.pending_interrupts u.pending_interrupts z.pending_interrupts
          (λ i l. interrupt i (interrupt_config sys i) refl l);
    } where
      mailbox : (x : ℕ) → x < length s.mailboxes → mailbox_at s x ≡ mailbox_at u x
      mailbox x l =
          chain-told (length sys.messages) (mailbox_at s x) (mailbox_at u x) (a.once x) (b.once x)
          (place-told _ _ (n.first_messages x l))
          (λ g i j. ap (λ (m : List ℕ). follower g m) (sym (a.own x g i))
          ∙ (place-told (message_behind s g) (message_behind u g) (n.behind g
          (in_order-below (length sys.messages) g (mailbox_at s x) (a.once x) i))
          ∙ ap (λ (m : List ℕ). follower g m) (b.own x g j)))

      interrupt : (i : ℕ) (c : Option InterruptConfig) → interrupt_config sys i ≡ c → i < length s.pending_interrupts
          → bit (is_pending s.pending_interrupts i) ≡ bit (is_pending u.pending_interrupts i)
      interrupt i None e l = ap (λ (b : Bool). bit b) (q.each i e ∙ sym (r.each i e))
      interrupt i (Some c) e l = n.pending_interrupts i c e
