-- A handle as its fields, and back.
use Rattle.std.proofs.Common.{◌≡◌, List, [], ◌∷◌, ◌++◌, refl, subst}
use seplogic.Ra.Ura.{Ura}
use mir.Val.{Val, vstruct, vcons, vnil, of_list}
use types.Logic.{Logic, sem}
use types.Kit.{Item, Goal, Seq, Step, step, ‵, ◌$◌, drop, fsplit, fjoin, fpick, fpack, feq_i, feq_l}
use denote.RattleType.{RattleType, Valss}
use denote.Builtin.{RawPtr}
use denote.RawPtr.{Ptr, null_ptr, ptr_val, lies_at, Testable}
use denote.Steps.{nothing}
use denote.Struct.Struct.{within}
use denote.Struct.Owning.{shape}
use Rattle.std.specs.Prelude.{Option, Some, None}
use base.Fraction.{full_share}
use base.Logic.{ent, guard, via, snd∗, guard_i}
use contract.Monad.{fact_use}
use mir.Raw.{raw as bare}
use denote.Memory.{lone}
use Rattle.std.proofs.GlobalToken.{dealloc_token-Testable}
use Rattle.fmp_c.specs.contracts.machine.Machine as machine
use Rattle.fmp_c.specs.Held.{heap, held, token}
use Rattle.fmp_c.specs.declared.machine.Machine.{Machine}
use Rattle.fmp_c.specs.contracts.handle.FmpSystem as handle
use Rattle.fmp_c.specs.contracts.handle.Loose as loose
use Rattle.std_alloc.specs.Box.Ownership.{box_owns}

abbrev pub one : Ptr → Val
one p = vstruct (vcons (ptr_val p) vnil)

module _ {M : Type 1} {𝓤 : Ura M} {𝓛 : Logic 𝓤} {K : Type 0} {Γ : List (Item 𝓤)} {G : Goal 𝓤 𝓛.H} where
  pub held_in : K → (p : Ptr) (x : Option Machine)
      → Step K 𝓛 (‵ (handle.the_row.own_val (record { at = p; machine = x }) (one p ∷ [])) ∷ Γ) G (‵ (held p x) ∷ Γ) G
  held_in t p x = step (λ s.
      nothing t $ feq_i t (List Val) (ptr_val p ∷ []) (ptr_val p ∷ []) refl $ fjoin t $ feq_i t (List Val)
      (one p ∷ []) (one p ∷ []) refl $ fjoin t $
      fpack t (Valss (RawPtr ∷ [])) (within (shape handle.the_type) (p, tt) (one p ∷ [])) (ptr_val p ∷ [], tt) $
      fjoin t $ s)

  pub held_out : K → (h : handle.the_row.Denot) (vs : List Val)
      → (vs ≡ one h.at ∷ [] → Seq K 𝓛 (‵ (held h.at h.machine) ∷ Γ) G)
      → Seq K 𝓛 (‵ (handle.the_row.own_val h vs) ∷ Γ) G
  held_out t h vs k =
      fsplit t $ fpick t (λ vss. fsplit t $ feq_l t (λ ev. fsplit t $ feq_l t (λ ep. drop t $
      k (subst (λ (ps : List Val). vs ≡ vstruct (of_list (ps ++ [])) ∷ []) ep ev))))

module _ {M : Type 1} {𝓤 : Ura M} (𝓛 : Logic 𝓤) where
  -- a box of the heap may be compared with null
  pub tested : (p : Ptr) (x : Machine) → ent 𝓤 (sem 𝓛 (box_owns token machine.the_row p x)) (guard 𝓤 (Testable p)
      (sem 𝓛 (box_owns token machine.the_row p x)))
  tested p x = let B = sem 𝓛 (box_owns token machine.the_row p x) in
      fact_use 𝓤 (Testable p) (via 𝓤 _ (snd∗ 𝓤 (sem 𝓛 (lies_at machine.the_row full_share p x))
      (sem 𝓛 (token (bare (lone machine.the_row.mir)) p)))
      (dealloc_token-Testable 𝓛 heap (bare (lone machine.the_row.mir)) p)) (guard_i 𝓤 (Testable p) B)

module _ {M : Type 1} {𝓤 : Ura M} {𝓛 : Logic 𝓤} {K : Type 0} {Γ : List (Item 𝓤)} {G : Goal 𝓤 𝓛.H} where
  -- what a handle owns: nothing at null, or a box
  pub either_held : K → (p : Ptr) (s : Option Machine) → (s ≡ None → p ≡ null_ptr → Seq K 𝓛 Γ G)
      → ((x : Machine) → s ≡ Some x → Seq K 𝓛 (‵ (box_owns token machine.the_row p x) ∷ Γ) G)
      → Seq K 𝓛 (‵ (held p s) ∷ Γ) G
  either_held t p None none some = fpick t (λ e. drop t $ none refl e)
  either_held t p (Some x) none some = some x refl

module _ (R : RattleType) {M : Type 1} {𝓤 : Ura M} {𝓛 : Logic 𝓤} {K : Type 0} {Γ : List (Item 𝓤)} {G : Goal 𝓤 𝓛.H} where
  pub loose_in : K → (p : Ptr) (x : R.Denot)
      → Step K 𝓛 (‵ ((loose.the_row R).own_val (record { at = p; value = x })
      (one p ∷ [])) ∷ Γ) G (‵ (box_owns token R p x) ∷ Γ) G
  loose_in t p x = step (λ s.
      nothing t $ feq_i t (List Val) (ptr_val p ∷ []) (ptr_val p ∷ []) refl $ fjoin t $ feq_i t (List Val)
      (one p ∷ []) (one p ∷ []) refl $ fjoin t $
      fpack t (Valss (RawPtr ∷ [])) (within (shape (loose.the_type R)) (p, tt) (one p ∷ [])) (ptr_val p ∷ [], tt) $
      fjoin t $ s)

  pub loose_out : K → (h : (loose.the_row R).Denot) (vs : List Val)
      → (vs ≡ one h.at ∷ [] → Seq K 𝓛 (‵ (box_owns token R h.at h.value) ∷ Γ) G)
      → Seq K 𝓛 (‵ ((loose.the_row R).own_val h vs) ∷ Γ) G
  loose_out t h vs k =
      fsplit t $ fpick t (λ vss. fsplit t $ feq_l t (λ ev. fsplit t $ feq_l t (λ ep. drop t $
      k (subst (λ (ps : List Val). vs ≡ vstruct (of_list (ps ++ [])) ∷ []) ep ev))))
