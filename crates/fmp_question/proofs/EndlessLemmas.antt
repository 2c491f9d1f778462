-- Contexts that come again: their bodies go on for ever.
use Rattle.std.proofs.Common.{◌≡◌, refl, ℕ, zero, suc, ◌+◌, ◌≤◌, ◌⊎◌, inl, inr, List, ℤ, Bool, true, false, Option}
use Rattle.std.proofs.Common.{IsTrue, Some, None, ap, sym, subst, ◌∙◌, ◌↔◌, arith}
use Rattle.fmp_base.specs.Meanings.{Meaning}
use Rattle.fmp_base.specs.Stretches.{Ending, is_over}
use Rattle.fmp_base.specs.Stretches as ends
use Rattle.fmp_base.specs.Systems.{found}
use Rattle.fmp_code.specs.Vms.{code_meaning-stays}
use Rattle.fmp_instructions.specs.declared.instructions.MachineContext.{MachineContext}
use Rattle.fmp_instructions.specs.Instructions.{BodyTables, instructions_at}
use Rattle.fmp_instructions.specs.Machine.{code_meaning, stack_of}
use Rattle.fmp_instructions.specs.Resuming.{exec-resumes}
use Rattle.fmp_kernel.specs.declared.actors.Actor.{Actor}
use Rattle.fmp_kernel.specs.KernelViews.{KernelView, actor_in, with_stamp}
use Rattle.fmp_worlds.specs.Stamps.{Going, actor_at_number}
use Rattle.fmp_question.specs.Endless.{GoesOnForEver, IsEndless, IsEndlessOn, LeadsTo}

abbrev context_of : ℕ → ℕ → List ℤ → List ℤ → MachineContext
context_of pc count locals operands =
    record { pc = pc; count = count; locals = locals; operands = operands }

pub same_context : (a b : MachineContext) → a.pc ≡ b.pc → a.count ≡ b.count → a.locals ≡ b.locals
    → a.operands ≡ b.operands → a ≡ b
same_context a b p c l o =
    ap (λ (x : ℕ). context_of x a.count a.locals a.operands) p
    ∙ ap (λ (x : ℕ). context_of b.pc x a.locals a.operands) c
    ∙ ap (λ (xs : List ℤ). context_of b.pc b.count xs a.operands) l
    ∙ ap (λ (xs : List ℤ). context_of b.pc b.count b.locals xs) o

pub together : (a b : MachineContext) → a ≡ b → (a.pc ≡ b.pc) × (a.count ≡ b.count)
together a b e = (ap (λ (x : MachineContext). x.pc) e, ap (λ (x : MachineContext). x.count) e)

-- the answer where a part of two contexts is not the same
pub not_same : {P Q : Type 0} (same : Bool) → same ≡ false → (IsTrue same ↔ P) → (Q → P) → IsTrue false ↔ Q
not_same same differs is part = (λ yes. absurd (cc (yes)), λ q. absurd (cc (sym differs ∙ is.1 (part q))))

-- this many rounds of this many instructions
laps : (made rounds : ℕ) → ℕ
laps made zero = 0
laps made (suc rounds) = made + laps made rounds

far : (made rounds : ℕ) → 1 ≤ made → rounds ≤ laps made rounds
unfolding laps
far made zero some = omega arith
far made (suc rounds) some =
    let rest = far made rounds some in
    let is : laps made (suc rounds) ≡ made + laps made rounds = refl in
    omega (arith, rest, some, is)

module _ (bodies : List BodyTables) (body : ℕ) where
  abbrev stretch : ℕ → MachineContext → Ending MachineContext
  stretch n c = (code_meaning bodies).stretch body n c

  abbrev Leads : MachineContext → MachineContext → Type 0
  Leads c d = LeadsTo (code_meaning bodies) body c d

  abbrev ForEver : MachineContext → Type 0
  ForEver c = GoesOnForEver (code_meaning bodies) body c

  at_once : (c : MachineContext) → is_over (stretch 0 c) ≡ true
  at_once c = refl

  below_by : (c : MachineContext) (low high : ℕ) (b : Bool) → low ≤ high → is_over (stretch high c) ≡ true
      → is_over (stretch low c) ≡ b → is_over (stretch low c) ≡ true
  below_by c low high true le h is = is
  below_by c low high false le h is =
      let same : is_over (stretch high c) ≡ is_over (stretch low c) =
      ap (λ (x : Ending MachineContext). is_over x) (code_meaning-stays bodies body low high c le is) in
      absurd (cc (sym h ∙ same ∙ is))

  -- a stretch that is over a bound is over each lower one
  below : (c : MachineContext) (low high : ℕ) → low ≤ high → is_over (stretch high c) ≡ true
      → is_over (stretch low c) ≡ true
  below c low high le h = below_by c low high (is_over (stretch low c)) le h refl

  pub none_made : (c : MachineContext) → Leads c c
  none_made c = record { made = 0; goes_on = λ n. ap (λ (k : ℕ). stretch k c) (omega arith) }

  pub more_made : (c d e : MachineContext) (n : ℕ) → Leads c d → stretch n d ≡ ends.Over (Some e) → Leads c e
  more_made c d e n l h =
      record {
        made = l.made + n;
        goes_on = λ k.
            ap (λ (m : ℕ). stretch m c) (omega arith) ∙ l.goes_on (n + k)
            ∙ exec-resumes (instructions_at bodies body) n k d.pc (stack_of d) d.locals e h;
      }

  pub both_made : (c d e : MachineContext) → Leads c d → Leads d e → Leads c e
  both_made c d e l m =
      record {
        made = l.made + m.made;
        goes_on = λ k. ap (λ (n : ℕ). stretch n c) (omega arith) ∙ l.goes_on (m.made + k) ∙ m.goes_on k;
      }

  rounds_made : (c : MachineContext) (made : ℕ) → ((n : ℕ) → stretch (made + n) c ≡ stretch n c) → (rounds n : ℕ)
      → stretch (laps made rounds + n) c ≡ stretch n c
  unfolding laps
  rounds_made c made h zero n =
      let is : laps made 0 ≡ 0 = refl in
      ap (λ (k : ℕ). stretch k c) (omega (arith, is))
  rounds_made c made h (suc rounds) n =
      let is : laps made (suc rounds) ≡ made + laps made rounds = refl in
      ap (λ (k : ℕ). stretch k c) (omega (arith, is)) ∙ h (laps made rounds + n) ∙ rounds_made c made h rounds n

  comes_again : (c : MachineContext) (made : ℕ) → 1 ≤ made → ((n : ℕ) → stretch (made + n) c ≡ stretch n c) → ForEver c
  comes_again c made some h = λ n.
      let enough = far made n some in
      below c n (laps made n + 0) (omega (arith, enough))
      (ap (λ (x : Ending MachineContext). is_over x) (rounds_made c made h n 0) ∙ at_once c)

  before : (c d : MachineContext) → Leads c d → ForEver d → ForEver c
  before c d l h = λ n.
      below c n (l.made + n) (omega arith) (ap (λ (x : Ending MachineContext). is_over x) (l.goes_on n) ∙ h n)

  -- so many instructions lead from one context to another
  abbrev pub Made : ℕ → MachineContext → MachineContext → Type 0
  Made made c d = (n : ℕ) → stretch (made + n) c ≡ stretch n d

  pub cut_once_more : (c d e : MachineContext) (made n more : ℕ) → Made made c d → stretch n d ≡ ends.Over (Some e)
      → more ≡ made + n → Made more c e
  cut_once_more c d e made n more m h is = λ k.
      ap (λ (x : ℕ). stretch x c) (omega (arith, is)) ∙ m (n + k)
      ∙ exec-resumes (instructions_at bodies body) n k d.pc (stack_of d) d.locals e h

  pub ended_within : (c d : MachineContext) (made n most : ℕ) → Made made c d → is_over (stretch n d) ≡ false
      → made + n ≤ most → is_over (stretch most c) ≡ false
  ended_within c d made n most m h le =
      let ended : is_over (stretch (made + n) c) ≡ false = ap (λ (x : Ending MachineContext). is_over x) (m n) ∙ h in
      ap (λ (x : Ending MachineContext). is_over x) (code_meaning-stays bodies body (made + n) most c le ended) ∙ ended

  pub not_ended : (c d : MachineContext) (made most : ℕ) → Made made c d → most ≡ made → is_over (stretch most c) ≡ true
  not_ended c d made most m is =
      ap (λ (x : ℕ). is_over (stretch x c)) (omega (arith, is))
      ∙ ap (λ (x : Ending MachineContext). is_over x) (m 0) ∙ at_once d

  -- the context that is looked for comes again
  pub found_again : (c mark at next : MachineContext) (n : ℕ) → 1 ≤ n → Leads c mark → Leads mark at
      → stretch n at ≡ ends.Over (Some next) → next ≡ mark → ForEver c
  unfolding more_made
  found_again c mark at next n some l m h same =
      let round : Leads mark next = more_made mark at next n m h in
      before c mark l
      (comes_again mark (m.made + n) (omega (arith, some))
      (λ k. round.goes_on k ∙ ap (λ (x : MachineContext). stretch k x) same))

  -- one stretch more, after which the same context is looked for, or the one that it left
  pub looked_on : (c mark at next mark' : MachineContext) (n : ℕ) → Leads c mark → Leads mark at
      → stretch n at ≡ ends.Over (Some next) → (mark' ≡ mark) ⊎ (mark' ≡ next) → Leads c mark' × Leads mark' next
  looked_on c mark at next mark' n l m h o = elim o [
    | inl same ↦ (
      subst (λ (x : MachineContext). Leads c x) (sym same) l,
      subst (λ (x : MachineContext). Leads x next) (sym same) (more_made mark at next n m h),
    )
    | inr new ↦ (
      subst (λ (x : MachineContext). Leads c x) (sym new)
          (both_made c mark next l (more_made mark at next n m h)),
      subst (λ (x : MachineContext). Leads x next) (sym new) (none_made next),
    )
  ]

module _ {B C : Type 0} (meaning : B → Meaning C) where
  endless_some : (M : Meaning C) (stamp : ℕ) (o : Option (Going C)) (a : Actor C) → Some a ≡ with_stamp stamp o
      → GoesOnForEver M a.entry a.context → IsEndless M o
  endless_some M stamp None a h g = absurd (cc)
  endless_some M stamp (Some x) a h g =
      let made : Actor C = record { entry = x.entry; context = x.context; stamp = stamp } in
      let same : a ≡ made = ap (found a) h in
      λ n. ap (λ (y : Actor C). is_over (M.stretch y.entry n y.context)) (sym same) ∙ g n

  -- the actor of a kernel goes on for ever
  pub actor_endless : (k : KernelView B C) (p : ℕ) (a : Actor C) → Some a ≡ actor_in k p
      → GoesOnForEver (meaning k.body) a.entry a.context → IsEndlessOn k.system (meaning k.body) k.world p
  actor_endless k zero a h g = absurd (cc)
  actor_endless k (suc p) a h g =
      endless_some (meaning k.body) _ (actor_at_number k.system k.world (suc p)) a h g
