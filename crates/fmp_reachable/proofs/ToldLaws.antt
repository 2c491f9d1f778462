-- The place, the locals and the operands of a context within its room tell all of it.
use Rattle.std.proofs.Common.{◌≡◌, ℕ, zero, suc, ◌<◌, List, ◌∷◌, refl, sym, ap, ◌∙◌, arith, ⊎_elim, ℤ, pos}
use Rattle.std.specs.Prelude.{get_or}
use Rattle.std.proofs.lemmas.Bool.{cases_lt}
use Rattle.std.proofs.lemmas.List.{ext_get_or}
use Rattle.fmp_instructions.specs.declared.instructions.MachineContext.{MachineContext}
use Rattle.fmp_instructions.specs.Instructions.{BodyTables}
use Rattle.fmp_instructions.specs.Machine.{places_of, tops}
use Rattle.fmp_reachable.specs.Rooms.{IsWithin, locals_at}

tops-same : (xs ys : List ℤ) (n : ℕ) → ((i : ℕ) → i < n → get_or xs i (pos 0) ≡ get_or ys i (pos 0))
    → tops xs n ≡ tops ys n
tops-same xs ys zero h = refl
tops-same xs ys (suc n) h =
    let below : n < suc n = omega arith in
    ap (λ (z : ℤ). z ∷ tops xs n) (h n below)
    ∙ ap (λ (zs : List ℤ). get_or ys n (pos 0) ∷ zs) (tops-same xs ys n (λ i lt. h i (omega (arith, lt))))

abbrev made : ℕ → ℕ → List ℤ → List ℤ → MachineContext
made pc count locals operands = record { pc = pc; count = count; locals = locals; operands = operands }

made-same : (p q m n : ℕ) (l k s t : List ℤ) → p ≡ q → m ≡ n → l ≡ k → s ≡ t → made p m l s ≡ made q n k t
made-same p q m n l k s t a b c d =
    ap (λ (x : ℕ). made x m l s) a ∙ ap (λ (x : ℕ). made q x l s) b ∙ ap (λ (x : List ℤ). made q n x s) c
    ∙ ap (λ (x : List ℤ). made q n k x) d

pub contexts-told : (bodies : List BodyTables) (k : ℕ) (c d : MachineContext) → IsWithin bodies k c
    → IsWithin bodies k d
    → c.pc ≡ d.pc → c.count ≡ d.count
    → ((l : ℕ) → l < locals_at bodies k → get_or c.locals l (pos 0) ≡ get_or d.locals l (pos 0))
    → ((i : ℕ) → i < c.count → get_or c.operands i (pos 0) ≡ get_or d.operands i (pos 0)) → c ≡ d
contexts-told bodies k c d a b pc count locals operands =
    let same_locals : c.locals ≡ d.locals =
    ext_get_or (pos 0) c.locals d.locals (a.long ∙ sym b.long)
    (λ l within. ⊎_elim (λ lt. locals l lt) (λ from. a.locals l from ∙ sym (b.locals l from))
    (cases_lt l (locals_at bodies k))) in
    let same_operands : c.operands ≡ d.operands =
    a.placed.rest ∙ ap places_of (tops-same c.operands d.operands c.count operands)
    ∙ ap (λ (n : ℕ). places_of (tops d.operands n)) count ∙ sym b.placed.rest in
    made-same c.pc d.pc c.count d.count c.locals d.locals c.operands d.operands pc count same_locals same_operands
