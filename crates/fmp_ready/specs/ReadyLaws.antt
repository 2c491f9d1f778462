-- How bitmaps are exact in the beginning, and stay so when a list changes that no call here wrote.
use Rattle.std.proofs.Common.{◌≡◌, ◌≢◌, ℕ, ◌+◌, ◌*◌, ◌<◌, ◌≤◌, ◌^◌, List, [], length, Bool, true, false, nat_eq, refl}
use Rattle.std.proofs.Common.{ap, ◌∙◌, sym, arith, replicate}
use Rattle.std.specs.Prelude.{slice_set, slice_index_or}
use Rattle.std.specs.Int.{bit_at}
use Rattle.std.proofs.Math.ListN.{length-set}
use Rattle.std.proofs.lemmas.List.{get_or-set_same, get_or-set_other, get_or-replicate, length-replicate}
use Rattle.std.proofs.lemmas.Nat.Bits.{bit_at-zero}
use Rattle.fmp_ring.specs.OrderLaws.{nat_same, nat_apart}
use Rattle.fmp_ring.specs.RingLists.{RingLists, list_at}
use Rattle.fmp_ready.specs.ReadyLists.{AreExact, bit_for}

-- of empty lists no bit is set
pub AreExact-new : (processors heads nodes : ℕ) → nodes ≤ 2 ^ 8 → processors * 16 ≤ heads
    → AreExact (replicate processors 0) (record { nodes = nodes; lists = replicate heads [] })
AreExact-new processors heads nodes few enough = record {
  few = few;
  heads = rw (length-replicate {A = ℕ} processors 0, length-replicate {A = List ℕ} heads []) enough;
  bits = λ p k l m. at_bit p k (simp length-replicate at l) m;
} where
  at_bit : (p k : ℕ) → p < processors → k < 16
      → bit_at (slice_index_or (replicate processors 0) p 0) k ≡ bit_for (list_at (replicate heads []) (p * 16 + k))
  at_bit p k l m =
      let low : p * 16 + k < heads = omega arith in
      rw (get_or-replicate {A = ℕ} processors p 0 0 l, get_or-replicate {A = List ℕ} heads (p * 16 + k) [] [] low)
      (bit_at-zero k)

-- a list that stays empty, or not empty, changes no bit
pub AreExact-kept : (bitmaps : List ℕ) (r : RingLists) (h : ℕ) (q : List ℕ) → AreExact bitmaps r → h < length r.lists
    → bit_for q ≡ bit_for (list_at r.lists h) → AreExact bitmaps (record r { lists = slice_set r.lists h q })
AreExact-kept bitmaps r h q e there same = record {
  few = e.few;
  heads = rw (length-set r.lists h q) e.heads;
  bits = λ p k l m. by_test p k l m (nat_eq (p * 16 + k) h) refl;
} where
  by_test : (p k : ℕ) → p < length bitmaps → k < 16 → (b : Bool) → nat_eq (p * 16 + k) h ≡ b
      → bit_at (slice_index_or bitmaps p 0) k ≡ bit_for (list_at (slice_set r.lists h q) (p * 16 + k))
  by_test p k l m true d =
      let s : p * 16 + k ≡ h = nat_same (p * 16 + k) h d in
      e.bits p k l m ∙ rw (s, get_or-set_same r.lists h q [] there) (sym same)
  by_test p k l m false d =
      e.bits p k l m ∙ ap bit_for (sym (get_or-set_other r.lists h (p * 16 + k) q [] (nat_apart (p * 16 + k) h d)))

-- a list of no processor changes no bit
pub AreExact-elsewhere : (bitmaps : List ℕ) (r : RingLists) (h : ℕ) (q : List ℕ) → AreExact bitmaps r
    → length bitmaps * 16 ≤ h
    → AreExact bitmaps (record r { lists = slice_set r.lists h q })
AreExact-elsewhere bitmaps r h q e above = record {
  few = e.few;
  heads = rw (length-set r.lists h q) e.heads;
  bits =
      λ p k l m. let other : p * 16 + k ≢ h = omega arith in e.bits p k l m ∙ ap bit_for
      (sym (get_or-set_other r.lists h (p * 16 + k) q [] other));
}
