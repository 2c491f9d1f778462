-- Stretches that come back to a context, and what they go through.
use Rattle.std.proofs.Common.{◌≡◌, ◌∙◌, ℕ, zero, suc, ◌+◌, ◌-◌, ◌*◌, ◌/◌, ◌%◌, ◌<◌, ◌≤◌, Bool, List, [], ◌∷◌, ◌++◌}
use Rattle.std.proofs.Common.{Option, Some, None, ap, append_assoc, arith, count_by, refl, sym}
use Rattle.std.specs.Cmp.Lexicographic.{pointwise}
use Rattle.std.specs.Cmp.Rules.{signed_items}
use Rattle.std.specs.Prelude.{ℤ, true}
use Rattle.std.specs.Ordering.{int_eq}
use Rattle.std.proofs.Math.Nat.{div-add-mod, mul_comm, suc-mul}
use Rattle.std.proofs.lemmas.Option.{none-some}
use Rattle.std.proofs.lemmas.List.Sums.{sum_by-append}
use Rattle.fmp_base.specs.Meanings.{Meaning}
use Rattle.fmp_instructions.specs.declared.instructions.Instruction.{Instruction}
use Rattle.fmp_instructions.specs.declared.instructions.MachineContext.{MachineContext}
use Rattle.fmp_looking.specs.declared.branches.BranchStep.{BranchStep}
use Rattle.fmp_looking.specs.declared.branches.Lap.{Lap}
use Rattle.fmp_looking.specs.declared.ways.BranchWays.{BranchWays}
use Rattle.fmp_looking.specs.Branches.{from_there, left_by, step_here, stretch_steps}
use Rattle.fmp_looking.specs.Laps.{IsLap, to_there, walk}
use Rattle.fmp_looking.specs.Ways.{IsWithSteps, capped, goes, times_in}

nothing : (m : ℕ) → zero + m ≡ m
nothing m = omega arith

one_more : (n m : ℕ) → suc n + m ≡ suc (n + m)
one_more n m = omega arith

round_more : (times cycle rest : ℕ) → suc times * cycle + rest ≡ cycle + (times * cycle + rest)
round_more times cycle rest = omega (arith, suc-mul times cycle)

round_counted : (times one rest : ℕ) → one + (times * one + rest) ≡ suc times * one + rest
round_counted times one rest = omega (arith, suc-mul times one)

no_rounds : (one rest : ℕ) → rest ≡ zero * one + rest
no_rounds one rest = omega arith

parts : (n cycle : ℕ) → n ≡ n / cycle * cycle + n % cycle
parts n cycle = omega (arith, div-add-mod n cycle, mul_comm cycle (n / cycle))

all_counted : (start between now whole rest all : ℕ) → all ≡ whole + rest → between ≡ capped (start + whole)
    → now ≡ capped (between + 1 * rest) → now ≡ capped (start + 1 * all)
all_counted start between now whole rest all both one two = omega (arith, both, one, two)

-- what an option holds
abbrev context_of : MachineContext → Option MachineContext → MachineContext
context_of c None = c
context_of c (Some d) = d

same_context : {c d : MachineContext} → Some c ≡ Some d → c ≡ d
same_context {c} {d} h = ap (λ (o : Option MachineContext). context_of c o) h

pub same_numbers : (xs ys : List ℤ) → pointwise int_eq xs ys ≡ true → xs ≡ ys
same_numbers xs ys h = (signed_items xs ys).0 h

pub same_fields : (a b : MachineContext) → a.pc ≡ b.pc → a.count ≡ b.count → a.locals ≡ b.locals
    → a.operands ≡ b.operands → a ≡ b
same_fields a b pc count locals operands =
    ap (λ (x : ℕ). record { pc = x; count = a.count; locals = a.locals; operands = a.operands }) pc
    ∙ ap (λ (x : ℕ). record { pc = b.pc; count = x; locals = a.locals; operands = a.operands }) count
    ∙ ap (λ (x : List ℤ). record { pc = b.pc; count = b.count; locals = x; operands = a.operands }) locals
    ∙ ap (λ (x : List ℤ). record { pc = b.pc; count = b.count; locals = b.locals; operands = x }) operands

module _ (M : Meaning MachineContext) (body : ℕ) where
  first_then : (n : ℕ) (c d : MachineContext) (o : Option MachineContext)
      → ((e : MachineContext) → walk M body n e ≡ Some d → walk M body (suc n) e ≡ left_by (M.stretch body 1 d))
      → to_there o (λ e. walk M body n e) ≡ Some d
      → to_there o (λ e. walk M body (suc n) e) ≡ left_by (M.stretch body 1 d)
  first_then n c d None on h = absurd (none-some d h)
  first_then n c d (Some e) on h = on e h

  last_of : (o : Option MachineContext) → to_there o (λ e. Some e) ≡ o
  last_of None = refl
  last_of (Some e) = refl

  -- after one instruction more
  walk_on : (n : ℕ) (c d : MachineContext) → walk M body n c ≡ Some d
      → walk M body (suc n) c ≡ left_by (M.stretch body 1 d)
  walk_on zero c d h =
      ap (λ (e : MachineContext). walk M body 1 e) (same_context h) ∙ last_of (left_by (M.stretch body 1 d))
  walk_on (suc n) c d h =
      first_then n c d (left_by (M.stretch body 1 c)) (λ e g. walk_on n e d g) h

  -- a lap, one instruction later
  pub lap_on : (lap : Lap) (made : ℕ) (here next : MachineContext) → IsLap M body lap made here
      → left_by (M.stretch body 1 here) ≡ Some next → IsLap M body lap (made + 1) next
  lap_on lap made here next is goes =
      let before : lap.before ≤ made = is.before in
      let one : made + 1 - lap.before ≡ suc (made - lap.before) = omega arith in
      record {
        before = omega arith;
        comes = ap (λ (n : ℕ). walk M body n lap.from) one
            ∙ walk_on (made - lap.before) lap.from here is.comes ∙ goes;
      }

  -- one that begins here
  pub lap_here : (lap : Lap) (made : ℕ) (here : MachineContext) → lap.from ≡ here → lap.before ≡ made
      → IsLap M body lap made here
  lap_here lap made here from before =
      let none : made - lap.before ≡ 0 = omega (arith, before) in
      record {
        before = omega (arith, before);
        comes = ap (λ (n : ℕ). walk M body n lap.from) none ∙ ap (λ (c : MachineContext). Some c) from;
      }

  -- one that ends where it began
  pub lap_back : (lap : Lap) (made : ℕ) (here : MachineContext) → IsLap M body lap made here → here ≡ lap.from
      → walk M body (made - lap.before) here ≡ Some here
  lap_back lap made here is back =
      ap (λ (c : MachineContext). walk M body (made - lap.before) c) back ∙ is.comes

  module _ (code : List Instruction) where
    there_then : (n m : ℕ) (d : MachineContext) (o : Option MachineContext)
        → ((e : MachineContext) → walk M body n e ≡ Some d
        → stretch_steps M code body (n + m) e ≡ stretch_steps M code body n e ++ stretch_steps M code body m d)
        → to_there o (λ e. walk M body n e) ≡ Some d
        → from_there o (λ e. stretch_steps M code body (n + m) e)
        ≡ from_there o (λ e. stretch_steps M code body n e) ++ stretch_steps M code body m d
    there_then n m d None on h = absurd (none-some d h)
    there_then n m d (Some e) on h = on e h

    -- the branches of some instructions, and of those after them
    steps_then : (n m : ℕ) (c d : MachineContext) → walk M body n c ≡ Some d
        → stretch_steps M code body (n + m) c ≡ stretch_steps M code body n c ++ stretch_steps M code body m d
    steps_then zero m c d h =
        ap (λ (k : ℕ). stretch_steps M code body k c) (nothing m)
        ∙ ap (λ (e : MachineContext). stretch_steps M code body m e) (same_context h)
    steps_then (suc n) m c d h =
        ap (λ (k : ℕ). stretch_steps M code body k c) (one_more n m)
        ∙ ap (λ (more : List BranchStep). step_here code body c ++ more)
        (there_then n m d (left_by (M.stretch body 1 c)) (λ e g. steps_then n m e d g) h)
        ∙ sym (append_assoc (step_here code body c)
        (from_there (left_by (M.stretch body 1 c)) (λ e. stretch_steps M code body n e))
        (stretch_steps M code body m d))

    -- rounds of a cycle, and instructions after them
    rounds : (b n : ℕ) (way : Bool) (cycle rest : ℕ) (c : MachineContext) → walk M body cycle c ≡ Some c → (times : ℕ)
        → count_by (goes b n way) (stretch_steps M code body (times * cycle + rest) c)
        ≡ times * count_by (goes b n way) (stretch_steps M code body cycle c)
        + count_by (goes b n way) (stretch_steps M code body rest c)
    rounds b n way cycle rest c h zero =
        ap (λ (k : ℕ). count_by (goes b n way) (stretch_steps M code body k c)) (sym (no_rounds cycle rest))
        ∙ no_rounds (count_by (goes b n way) (stretch_steps M code body cycle c))
        (count_by (goes b n way) (stretch_steps M code body rest c))
    rounds b n way cycle rest c h (suc times) =
        let one : List BranchStep = stretch_steps M code body cycle c in
        let more : List BranchStep = stretch_steps M code body (times * cycle + rest) c in
        ap (λ (k : ℕ). count_by (goes b n way) (stretch_steps M code body k c)) (round_more times cycle rest)
        ∙ ap (λ (steps : List BranchStep). count_by (goes b n way) steps)
        (steps_then cycle (times * cycle + rest) c c h)
        ∙ sum_by-append _ one more
        ∙ ap (λ (k : ℕ). count_by (goes b n way) one + k) (rounds b n way cycle rest c h times)
        ∙ round_counted times (count_by (goes b n way) one) (count_by (goes b n way) (stretch_steps M code body rest c))

    -- all rounds, and what comes after them
    pub cycle_gone : (start between now : BranchWays) (cycle n : ℕ) (c : MachineContext)
        → walk M body cycle c ≡ Some c
        → IsWithSteps (n / cycle) start (stretch_steps M code body cycle c) between
        → IsWithSteps 1 between (stretch_steps M code body (n % cycle) c) now
        → IsWithSteps 1 start (stretch_steps M code body n c) now
    cycle_gone start between now cycle n c h whole rest b k way =
        all_counted (times_in start b k way) (times_in between b k way) (times_in now b k way)
        (n / cycle * count_by (goes b k way) (stretch_steps M code body cycle c))
        (count_by (goes b k way) (stretch_steps M code body (n % cycle) c))
        (count_by (goes b k way) (stretch_steps M code body n c))
        (ap (λ (m : ℕ). count_by (goes b k way) (stretch_steps M code body m c)) (parts n cycle)
        ∙ rounds b k way cycle (n % cycle) c h (n / cycle))
        (whole b k way) (rest b k way)
