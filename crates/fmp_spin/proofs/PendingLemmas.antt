-- How the bitmaps stay exact, and what the first bit of a bitmap says.
use Rattle.std.proofs.Common.{◌≡◌, ◌≢◌, ℕ, zero, suc, ◌+◌, ◌-◌, ◌*◌, ◌<◌, ◌≤◌, List, [], ◌∷◌, length, Option, Some}
use Rattle.std.proofs.Common.{None, Bool, true, false, ◌&&◌, nat_eq, nat_lt, refl, ap, ◌∙◌, sym, arith, get_or, take}
use Rattle.std.proofs.Common.{drop, ◌++◌, append-nil}
use Rattle.std.specs.Prelude.{slice_get, slice_set, if◌then◌else◌, IfSome}
use Rattle.std.proofs.Math.Bool.{and-true}
use Rattle.std.proofs.Math.ListN.{drop_of_length-le}
use Rattle.std.proofs.Math.Seq.{take-length}
use Rattle.std.proofs.lemmas.Bool.Decides.{nat_tests}
use Rattle.fmp_base.specs.declared.states.Handler.TheVariants as handler
use Rattle.fmp_base.specs.Settles.{first_pending, cyclic_handler, interrupt_or}
use Rattle.fmp_base.specs.Systems.{found}
use Rattle.fmp_base.specs.Ticks.{is_pending}
use Rattle.fmp_spin.specs.Bits.{bit_in, as_bit, IsFirst}
use Rattle.fmp_spin.specs.Pending.{HandlerProcessors, PendingMarks, AreBitmaps, AreQuiet, IsSetAt, is_on}
use Rattle.fmp_spin.specs.Pending.{interrupts_there, cycles_there, first_handler, processor_at_slot, mark_at_slot}

nat_same : (a b : ℕ) → nat_eq a b ≡ true → a ≡ b
nat_same a b h = grind (arith, nat_tests)

nat_apart : (a b : ℕ) → nat_eq a b ≡ false → a ≢ b
nat_apart a b h = grind (arith, nat_tests)

below : (a b : ℕ) → a < b → nat_lt a b ≡ true
below a b h = grind (arith, nat_tests)

above : (a b : ℕ) → b ≤ a → nat_lt a b ≡ false
above a b h = grind (arith, nat_tests)

from_above : (a b : ℕ) → nat_lt a b ≡ false → b ≤ a
from_above a b h = grind (arith, nat_tests)

and-false : (b : Bool) → (b && false) ≡ false
and-false true = refl
and-false false = refl

clear-bit : (b : Bool) → as_bit b ≡ 0 → b ≡ false
clear-bit false e = refl
clear-bit true e = cc

set-bit : (b : Bool) → as_bit b ≡ 1 → b ≡ true
set-bit true e = refl
set-bit false e = cc

left-true : (a b : Bool) → (a && b) ≡ true → a ≡ true
left-true true b h = refl
left-true false b h = cc

-- one slot is marked anew, with its bit
pub AreBitmaps-set : (count : ℕ) (old new : List ℕ) (on : ℕ → Option ℕ) (mark mark_new : ℕ → Bool) (s : ℕ) (b : Bool)
    → AreBitmaps count old on mark → IsSetAt old new (on s) s b → mark_new s ≡ b
    → ((n : ℕ) → n ≢ s → mark_new n ≡ mark n)
    → AreBitmaps count new on mark_new
AreBitmaps-set count old new on mark mark_new s b rows set here others = λ p n l m. by_slot p n l m (nat_eq n s) refl
    (is_on (on s) p) refl where
      by_slot : (p n : ℕ) → p < count → n < 320 → (t : Bool) → nat_eq n s ≡ t → (w : Bool) → is_on (on s) p ≡ w
          → bit_in new (p * 320 + n) ≡ as_bit (mark_new n && is_on (on n) p)
      by_slot p n l m false e w k =
          rw e at (set p n m) ∙ rows p n l m ∙ ap (λ (x : Bool). as_bit (x && is_on (on n) p))
          (sym (others n (nat_apart n s e)))
      by_slot p n l m true e true k =
          let same : n ≡ s = nat_same n s e in
          let right : as_bit (mark_new n && is_on (on n) p) ≡ as_bit b = rw (same, here, k) (ap as_bit (and-true b)) in
          rw (e, k) at (set p n m) ∙ sym right
      by_slot p n l m true e false k =
          let same : n ≡ s = nat_same n s e in
          let off : is_on (on n) p ≡ false = rw same k in
          let right : as_bit (mark n && is_on (on n) p) ≡ as_bit (mark_new n && is_on (on n) p) = rw off
          (ap as_bit (and-false (mark n) ∙ sym (and-false (mark_new n)))) in
          rw (e, k) at (set p n m) ∙ rows p n l m ∙ right

pending-same : (bs : List Bool) (i : ℕ) (b : Bool) → i < length bs → is_pending (slice_set bs i b) i ≡ b
pending-same [] i b l = absurd (omega arith)
pending-same (x ∷ bs) zero b l = refl
pending-same (x ∷ bs) (suc i) b l = pending-same bs i b (omega arith)

pending-other : (bs : List Bool) (i j : ℕ) (b : Bool) → j ≢ i → is_pending (slice_set bs i b) j ≡ is_pending bs j
pending-other [] i j b l = refl
pending-other (x ∷ bs) zero zero b l = absurd (l refl)
pending-other (x ∷ bs) zero (suc j) b l = refl
pending-other (x ∷ bs) (suc i) zero b l = refl
pending-other (x ∷ bs) (suc i) (suc j) b l = pending-other bs i j b (omega arith)

pending-there : (bs : List Bool) (i : ℕ) → is_pending bs i ≡ true → i < length bs
pending-there [] i h = cc
pending-there (x ∷ bs) zero h = omega arith
pending-there (x ∷ bs) (suc i) h = let l : i < length bs = pending-there bs i h in omega arith

-- the marks at the slots, where one of them is written
pub mark-interrupt_same : (is cs : List Bool) (i : ℕ) (b : Bool) → i < length is → i < 64
    → mark_at_slot (slice_set is i b) cs i ≡ b
mark-interrupt_same is cs i b l m = rw (below i 64 m) (pending-same is i b l)

pub mark-interrupt_other : (is cs : List Bool) (i : ℕ) (b : Bool) (n : ℕ) → n ≢ i
    → mark_at_slot (slice_set is i b) cs n ≡ mark_at_slot is cs n
mark-interrupt_other is cs i b n other =
    ap (λ (x : Bool). if nat_lt n 64 then x else is_pending cs (n - 64)) (pending-other is i n b other)

pub mark-cyclic_same : (is cs : List Bool) (c : ℕ) (b : Bool) → c < length cs
    → mark_at_slot is (slice_set cs c b) (64 + c) ≡ b
mark-cyclic_same is cs c b l =
    let e : 64 + c - 64 ≡ c = omega arith in
    rw (above (64 + c) 64 (omega arith), e) (pending-same cs c b l)

pub mark-cyclic_other : (is cs : List Bool) (c : ℕ) (b : Bool) (n : ℕ) → n ≢ 64 + c
    → mark_at_slot is (slice_set cs c b) n ≡ mark_at_slot is cs n
mark-cyclic_other is cs c b n other = by_test (nat_lt n 64) refl where
  by_test : (t : Bool) → nat_lt n 64 ≡ t → mark_at_slot is (slice_set cs c b) n ≡ mark_at_slot is cs n
  by_test true e = rw e refl
  by_test false e = let l : 64 ≤ n = from_above n 64 e in let d : n - 64 ≢ c = omega arith in rw e
      (pending-other cs c (n - 64) b d)

-- the processor of the handler at a slot, as it was read
pub processor-interrupt : (count : ℕ) (ps : List (Option ℕ)) (cs : List ℕ) (i : ℕ) (x : Option ℕ) → i < length ps
    → i < 64 → x ≡ get_or ps i x
    → processor_at_slot (record { count = count; interrupts = ps; cyclics = cs }) i ≡ x
processor-interrupt count ps cs i x l m e = rw (below i 64 m) (read ps i l e) where
  read : (qs : List (Option ℕ)) (i : ℕ) → i < length qs → x ≡ get_or qs i x → found None (slice_get qs i) ≡ x
  read [] i l e = absurd (omega arith)
  read (q ∷ qs) zero l e = sym e
  read (q ∷ qs) (suc i) l e = read qs i (omega arith) e

pub processor-cyclic : (count : ℕ) (ps : List (Option ℕ)) (cs : List ℕ) (c x : ℕ) → c < length cs → x ≡ get_or cs c x
    → processor_at_slot (record { count = count; interrupts = ps; cyclics = cs }) (64 + c) ≡ Some x
processor-cyclic count ps cs c x l e =
    let d : 64 + c - 64 ≡ c = omega arith in
    rw (above (64 + c) 64 (omega arith), d) (read cs c l e) where
      read : (qs : List ℕ) (i : ℕ) → i < length qs → x ≡ get_or qs i x → slice_get qs i ≡ Some x
      read [] i l e = absurd (omega arith)
      read (q ∷ qs) zero l e = ap (λ (n : ℕ). Some n) (sym e)
      read (q ∷ qs) (suc i) l e = read qs i (omega arith) e

-- the first mark, where those before it are not set or not on the processor
first-at : (on : ℕ → Bool) (from : ℕ) (bs : List Bool) (k : ℕ) → (is_pending bs k && on (from + k)) ≡ true
    → ((j : ℕ) → j < k → (is_pending bs j && on (from + j)) ≡ false) → first_pending on from bs ≡ Some (from + k)
first-at on from [] k set clear = cc
first-at on from (b ∷ bs) zero set clear =
    let e : from + 0 ≡ from = omega arith in
    let s : (b && on from) ≡ true = rw e at set in
    rw (s, e) refl
first-at on from (b ∷ bs) (suc k) set clear =
    let e : from + 0 ≡ from = omega arith in
    let d : from + suc k ≡ from + 1 + k = omega arith in
    let none : (b && on from) ≡ false = rw e at (clear 0 (omega arith)) in
    rw none (first-at on (from + 1) bs k (rw d at set) (λ j l. shifted j (clear (suc j) (omega arith)))
    ∙ ap (λ (n : ℕ). Some n) (sym d)) where
      shifted : (j : ℕ) → (is_pending bs j && on (from + suc j)) ≡ false → (is_pending bs j && on (from + 1 + j))
          ≡ false
      shifted j h = let a : from + suc j ≡ from + 1 + j = omega arith in rw a at h

first-none : (on : ℕ → Bool) (from : ℕ) (bs : List Bool) → ((j : ℕ) → j < length bs
    → (is_pending bs j && on (from + j)) ≡ false)
    → first_pending on from bs ≡ None
first-none on from [] clear = refl
first-none on from (b ∷ bs) clear =
    let e : from + 0 ≡ from = omega arith in
    let none : (b && on from) ≡ false = rw e at (clear 0 (omega arith)) in
    rw none (first-none on (from + 1) bs (λ j l. shifted j (clear (suc j) (omega arith)))) where
      shifted : (j : ℕ) → (is_pending bs j && on (from + suc j)) ≡ false → (is_pending bs j && on (from + 1 + j))
          ≡ false
      shifted j h = let a : from + suc j ≡ from + 1 + j = omega arith in rw a at h

first-at_start : (on : ℕ → Bool) (bs : List Bool) (k : ℕ) → (is_pending bs k && on k) ≡ true
    → ((j : ℕ) → j < k → (is_pending bs j && on j) ≡ false) → first_pending on 0 bs ≡ Some k
first-at_start on bs k set clear = let e : 0 + k ≡ k = omega arith in rw e at
    (first-at on 0 bs k (rw e set) (λ j l. from_zero j (clear j l))) where
      from_zero : (j : ℕ) → (is_pending bs j && on j) ≡ false → (is_pending bs j && on (0 + j)) ≡ false
      from_zero j h = let e : 0 + j ≡ j = omega arith in rw e h

first-none_start : (on : ℕ → Bool) (bs : List Bool) → ((j : ℕ) → j < length bs → (is_pending bs j && on j) ≡ false)
    → first_pending on 0 bs ≡ None
first-none_start on bs clear = first-none on 0 bs (λ j l. from_zero j (clear j l)) where
  from_zero : (j : ℕ) → (is_pending bs j && on j) ≡ false → (is_pending bs j && on (0 + j)) ≡ false
  from_zero j h = let e : 0 + j ≡ j = omega arith in rw e h

-- whether the handler at a slot is pending and runs on p
pub slot-interrupt : (on : HandlerProcessors) (is cs : List Bool) (p n : ℕ) → n < 64
    → (mark_at_slot is cs n && is_on (processor_at_slot on n) p) ≡ (is_pending is n && interrupts_there on p n)
slot-interrupt on is cs p n l = rw (below n 64 l) refl

pub slot-cyclic : (on : HandlerProcessors) (is cs : List Bool) (p c : ℕ)
    → (mark_at_slot is cs (64 + c) && is_on (processor_at_slot on (64 + c)) p)
    ≡ (is_pending cs c && cycles_there on p c)
slot-cyclic on is cs p c =
    let e : 64 + c - 64 ≡ c = omega arith in
    rw (above (64 + c) 64 (omega arith), e) refl

bit-of : (count : ℕ) (words : List ℕ) (on : ℕ → Option ℕ) (mark : ℕ → Bool) (p n : ℕ) → AreBitmaps count words on mark
    → p < count → n < 320
    → bit_in words (p * 5 * 64 + n) ≡ as_bit (mark n && is_on (on n) p)
bit-of count words on mark p n rows l m = let e : p * 5 * 64 + n ≡ p * 320 + n = omega arith in rw e (rows p n l m)

pub first-is_interrupt : (count : ℕ) (words : List ℕ) (marks : PendingMarks) (p k : ℕ)
    → AreBitmaps count words (processor_at_slot marks.processors) (mark_at_slot marks.interrupts marks.cyclics)
    → p < count
    → IsFirst (λ i. bit_in words (p * 5 * 64 + i)) 320 (Some k) → k < 64
    → (Some (handler.Interrupt k) ≡ first_handler marks p) × (k < length marks.interrupts)
first-is_interrupt count words marks p k rows l first low = (
  ap (λ (o : Option ℕ). interrupt_or o (cyclic_handler (first_pending (cycles_there marks.processors p) 0 marks.cyclics
      ))) (sym (first-at_start (interrupts_there marks.processors p) marks.interrupts k set clear)),
  pending-there marks.interrupts k (left-true _ _ set),
) where
  set : (is_pending marks.interrupts k && interrupts_there marks.processors p k) ≡ true
  set = set-bit _ (ap as_bit (sym (slot-interrupt marks.processors marks.interrupts marks.cyclics p k low))
      ∙ sym (bit-of count words _ _ p k rows l first.0) ∙ first.1)

  clear : (j : ℕ) → j < k → (is_pending marks.interrupts j && interrupts_there marks.processors p j) ≡ false
  clear j m =
      clear-bit _ (ap as_bit (sym (slot-interrupt marks.processors marks.interrupts marks.cyclics p j (omega arith))) ∙
      sym (bit-of count words _ _ p j rows l (omega (arith, first.0))) ∙ first.2 j m)

-- no interrupt, where no bit below 64 is set
no_interrupt : (count : ℕ) (words : List ℕ) (marks : PendingMarks) (p : ℕ)
    → AreBitmaps count words (processor_at_slot marks.processors) (mark_at_slot marks.interrupts marks.cyclics)
    → p < count
    → ((i : ℕ) → i < 64 → bit_in words (p * 5 * 64 + i) ≡ 0) → length marks.interrupts ≤ 64
    → first_pending (interrupts_there marks.processors p) 0 marks.interrupts ≡ None
no_interrupt count words marks p rows l none few = first-none_start (interrupts_there marks.processors p)
    marks.interrupts clear where
      clear : (j : ℕ) → j < length marks.interrupts → (is_pending marks.interrupts j
          && interrupts_there marks.processors p j) ≡ false
      clear j m =
          clear-bit _ (ap as_bit (sym (slot-interrupt marks.processors marks.interrupts marks.cyclics p j (omega arith))) ∙
          sym (bit-of count words _ _ p j rows l (omega arith)) ∙ none j (omega arith))

pub first-is_cyclic : (count : ℕ) (words : List ℕ) (marks : PendingMarks) (p k c : ℕ)
    → AreBitmaps count words (processor_at_slot marks.processors) (mark_at_slot marks.interrupts marks.cyclics)
    → p < count
    → length marks.interrupts ≤ 64 → IsFirst (λ i. bit_in words (p * 5 * 64 + i)) 320 (Some k) → k ≡ 64 + c
    → (Some (handler.Cyclic c) ≡ first_handler marks p) × (c < length marks.cyclics)
first-is_cyclic count words marks p k c rows l few first is = (
  sym (ap
      (λ (o : Option ℕ). interrupt_or o
      (cyclic_handler (first_pending (cycles_there marks.processors p) 0 marks.cyclics)))
      (no_interrupt count words marks p rows l (λ i m. first.2 i (omega (arith, is))) few)
      ∙ ap cyclic_handler (first-at_start (cycles_there marks.processors p) marks.cyclics c set clear)),
  pending-there marks.cyclics c (left-true _ _ set),
) where
  bit : (j : ℕ) → 64 + j < 320 → bit_in words (p * 5 * 64 + (64 + j))
      ≡ as_bit (is_pending marks.cyclics j && cycles_there marks.processors p j)
  bit j m = bit-of count words _ _ p (64 + j) rows l m ∙ ap as_bit (slot-cyclic marks.processors marks.interrupts
      marks.cyclics p j)

  set : (is_pending marks.cyclics c && cycles_there marks.processors p c) ≡ true
  set = set-bit _ (sym (bit c (omega (arith, is, first.0))) ∙ rw is at first.1)

  clear : (j : ℕ) → j < c → (is_pending marks.cyclics j && cycles_there marks.processors p j) ≡ false
  clear j m = clear-bit _ (sym (bit j (omega (arith, is, first.0))) ∙ first.2 (64 + j) (omega (arith, is)))

pub first-is_none : (count : ℕ) (words : List ℕ) (marks : PendingMarks) (p : ℕ)
    → AreBitmaps count words (processor_at_slot marks.processors) (mark_at_slot marks.interrupts marks.cyclics)
    → p < count
    → length marks.interrupts ≤ 64 → length marks.cyclics ≤ 255 → IsFirst (λ i. bit_in words (p * 5 * 64 + i)) 320 None
    → None ≡ first_handler marks p
first-is_none count words marks p rows l few short none =
    sym (ap
    (λ (o : Option ℕ). interrupt_or o
    (cyclic_handler (first_pending (cycles_there marks.processors p) 0 marks.cyclics)))
    (no_interrupt count words marks p rows l (λ i m. none i (omega arith)) few)
    ∙ ap cyclic_handler (first-none_start (cycles_there marks.processors p) marks.cyclics clear)) where
      clear : (j : ℕ) → j < length marks.cyclics → (is_pending marks.cyclics j && cycles_there marks.processors p j)
          ≡ false
      clear j m =
          clear-bit _ (ap as_bit (sym (slot-cyclic marks.processors marks.interrupts marks.cyclics p j))
          ∙ sym (bit-of count words _ _ p (64 + j) rows l (omega arith)) ∙ none (64 + j) (omega arith))

-- the bitmap of a processor that is there
pub bitmap-there : (count long : ℕ) (x : Option ℕ) → long ≡ count * 5 → ((q : ℕ) → x ≡ Some q → q < count)
    → IfSome x (λ q. q * 5 + 5 ≤ long)
bitmap-there count long None e h = tt
bitmap-there count long (Some q) e h = let l : q < count = h q refl in omega arith

-- what is written over all items of a vector is what it then holds
pub written_whole : {A : Type 0} (items new : List A) (n : ℕ) → length new ≡ length items → n ≡ length items
    → take n (new ++ drop (length new) items) ≡ new
written_whole items new n same all =
    let past : drop (length new) items ≡ [] = drop_of_length-le items (omega (arith, same)) in
    let is : n ≡ length new = omega (arith, same, all) in
    rw (past, is) (ap (take (length new)) (append-nil new) ∙ take-length new)

-- the mark of a processor that is there
pub marked-there : (count long : ℕ) (x : Option ℕ) → long ≡ count → ((q : ℕ) → x ≡ Some q → q < count)
    → IfSome x (λ q. q < long)
marked-there count long None e h = tt
marked-there count long (Some q) e h = let l : q < count = h q refl in omega arith

marked-at : (busy : List Bool) (p : ℕ) (x : Bool) → x ≡ get_or busy p x → x ≡ false → p < length busy
    → get_or busy p true ≡ false
marked-at [] p x e h l = absurd (omega (arith, l))
marked-at (b ∷ bs) zero x e h l = sym e ∙ h
marked-at (b ∷ bs) (suc p) x e h l = marked-at bs p x e h (omega (arith, l))

-- no bit is set of a processor that is not marked as busy
pub quiet-clear : (words : List ℕ) (busy : List Bool) (p : ℕ) (x : Bool) → AreQuiet words busy → x ≡ get_or busy p x
    → x ≡ false → p < length busy
    → (i : ℕ) → i < 320 → bit_in words (p * 5 * 64 + i) ≡ 0
quiet-clear words busy p x quiet e h l i m =
    let s : p * 5 * 64 + i ≡ p * 320 + i = omega arith in rw s (quiet p i m (marked-at busy p x e h l))
