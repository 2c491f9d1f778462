-- The bitmaps of a system in which no handler is pending.
use Rattle.std.proofs.Common.{◌≡◌, ℕ, zero, suc, ◌+◌, ◌*◌, ◌-◌, ◌/◌, ◌%◌, ◌<◌, List, [], ◌∷◌, length, Option, Some}
use Rattle.std.proofs.Common.{None, Bool, true, false, nat_eq, nat_lt, refl, ap, ◌∙◌, subst, arith, map, replicate}
use Rattle.std.proofs.Common.{◌++◌, append_assoc}
use Rattle.std.specs.Prelude.{slice_get, slice_index_or}
use Rattle.std.specs.List.{AllByRecursion}
use Rattle.std.proofs.lemmas.List.{length-map}
use Rattle.std.proofs.lemmas.Nat.Bits.{bit_at-zero}
use Rattle.fmp_base.specs.declared.systems.CyclicConfig.{CyclicConfig}
use Rattle.fmp_base.specs.declared.systems.InterruptConfig.{InterruptConfig}
use Rattle.fmp_base.specs.Ranges.{IsInRange, CyclicInRange, InterruptInRange}
use Rattle.fmp_base.specs.States.{places_from}
use Rattle.fmp_base.specs.Systems.{SystemTables, defined_for, found, interrupt_config}
use Rattle.fmp_base.specs.Ticks.{is_pending}
use Rattle.fmp_spin.specs.Pending.{AreBitmaps, AreQuiet, handler_processors, mark_at_slot, processor_at_slot}
use Rattle.fmp_spin.specs.Pending.{processor_of}

zeros : (n k : ℕ) → ◌≡◌ {A = ℕ} (slice_index_or (replicate n 0) k 0) 0
zeros zero k = refl
zeros (suc n) zero = refl
zeros (suc n) (suc k) = zeros n k

no_mark : (n i : ℕ) → is_pending (replicate n false) i ≡ false
no_mark zero i = refl
no_mark (suc n) zero = refl
no_mark (suc n) (suc i) = no_mark n i

no_mark-at : (n m i : ℕ) → mark_at_slot (replicate n false) (replicate m false) i ≡ false
no_mark-at n m i = by_test (nat_lt i 64) refl where
  by_test : (t : Bool) → nat_lt i 64 ≡ t → mark_at_slot (replicate n false) (replicate m false) i ≡ false
  by_test true e = rw e (no_mark n i)
  by_test false e = rw e (no_mark m (i - 64))

pub AreBitmaps-none : (count : ℕ) (words : List ℕ) (on : ℕ → Option ℕ) (is cs : List Bool) (k n m : ℕ) → words
    ≡ replicate k 0
    → is ≡ replicate n false → cs ≡ replicate m false → AreBitmaps count words on (mark_at_slot is cs)
AreBitmaps-none count words on is cs k n m clear none unmarked = λ p i l b.
    rw (clear, none, unmarked, zeros k ((p * 320 + i) / 64), no_mark-at n m i) (bit_at-zero ((p * 320 + i) % 64))

pub AreQuiet-none : (words : List ℕ) (busy : List Bool) (k : ℕ) → words ≡ replicate k 0 → AreQuiet words busy
AreQuiet-none words busy k clear = λ p i b e. rw (clear, zeros k ((p * 320 + i) / 64))
    (bit_at-zero ((p * 320 + i) % 64))

length-places : (k n : ℕ) → length (places_from k n) ≡ n
length-places k zero = refl
length-places k (suc n) = ap (λ i. suc i) (length-places (k + 1) n)

pub length-interrupts : (sys : SystemTables) → length (handler_processors sys).interrupts ≡ 32
length-interrupts sys = length-map (places_from 0 32) (λ (i : ℕ). processor_of (interrupt_config sys i))
    ∙ length-places 0 32

defined-below : (count number : ℕ) (rows : List InterruptConfig) (q : ℕ) → AllByRecursion (InterruptInRange count) rows
    → processor_of (defined_for number rows) ≡ Some q → q < count
defined-below count number [] q each is = cc
defined-below count number (i ∷ rows) q each is = by_test (nat_eq i.number number) refl
    (defined-below count number rows q each.1) where
      by_test : (t : Bool) → nat_eq i.number number ≡ t → (processor_of (defined_for number rows) ≡ Some q → q < count)
          → q < count
      by_test true e rest =
          let same : Some i.processor ≡ Some q = rw e at is in
          let s : i.processor ≡ q = cc in
          subst (λ (x : ℕ). x < count) s each.0.processor
      by_test false e rest = rest (rw e at is)

interrupt-below : (count : ℕ) (rows : List InterruptConfig) (places : List ℕ) (n q : ℕ)
    → AllByRecursion (InterruptInRange count) rows
    → found None (slice_get (map (λ i. processor_of (defined_for (i + 1) rows)) places) n) ≡ Some q → q < count
interrupt-below count rows [] n q each is = cc
interrupt-below count rows (i ∷ places) zero q each is = defined-below count (i + 1) rows q each is
interrupt-below count rows (i ∷ places) (suc n) q each is = interrupt-below count rows places n q each is

cyclic-below : (count : ℕ) (rows : List CyclicConfig) (n q : ℕ) → AllByRecursion (CyclicInRange count) rows
    → slice_get (map (λ (c : CyclicConfig). c.processor) rows) n ≡ Some q → q < count
cyclic-below count [] n q each is = cc
cyclic-below count (c ∷ rows) zero q each is =
    let s : c.processor ≡ q = cc in
    subst (λ (x : ℕ). x < count) s each.0.processor
cyclic-below count (c ∷ rows) (suc n) q each is = cyclic-below count rows n q each.1 is

-- each handler runs on a processor that is there
pub processor-below : (sys : SystemTables) → IsInRange sys → (n q : ℕ) → processor_at_slot (handler_processors sys) n
    ≡ Some q → q < sys.processors
processor-below sys range n q is = by_test (nat_lt n 64) refl where
  by_test : (t : Bool) → nat_lt n 64 ≡ t → q < sys.processors
  by_test true e = interrupt-below sys.processors sys.interrupts (places_from 0 32) n q range.interrupts.each
      (rw e at is)
  by_test false e = cyclic-below sys.processors sys.cyclics (n - 64) q range.cyclics.each (rw e at is)

-- one more processor is put behind those so far
pub next-place : (f : ℕ → Option ℕ) (xs new all : List (Option ℕ)) (i n : ℕ) (x : Option ℕ) → i < n → xs
    ++ map f (places_from i (n - i)) ≡ all
    → new ≡ xs ++ x ∷ [] → x ≡ f i → new ++ map f (places_from (i + 1) (n - (i + 1))) ≡ all
next-place f xs new all i n x l so_far is this =
    let e : n - i ≡ suc (n - (i + 1)) = omega arith in
    let h : xs ++ f i ∷ map f (places_from (i + 1) (n - (i + 1))) ≡ all = rw e at so_far in
    rw (is, this) (append_assoc xs (f i ∷ []) (map f (places_from (i + 1) (n - (i + 1)))) ∙ h)
