-- The code of a body does what the body does, within n instructions.
use Rattle.std.proofs.Common.{◌≡◌, ℕ, zero, suc, ◌+◌, ◌*◌, ◌≤◌, true, false, List, [], ◌∷◌, length, Some, None, refl}
use Rattle.std.proofs.Common.{sym, ap, ◌∙◌, subst, arith, ℤ}
use Rattle.fmp_base.specs.Stretches.{Ending, is_over}
use Rattle.fmp_base.specs.Stretches as ends
use Rattle.fmp_base.specs.KeptTies.{Handed}
use Rattle.fmp_base.specs.Ties.{StretchTied, over, kept, call, end_, fault}
use Rattle.fmp_tasklang.specs.Scopes.{Scope}
use Rattle.fmp_tasklang.specs.Contexts.{TextContext}
use Rattle.fmp_tasklang.specs.Stretches.{stretch}
use Rattle.fmp_instructions.specs.declared.instructions.Instruction.{Instruction}
use Rattle.fmp_instructions.specs.declared.instructions.Instruction.TheVariants.{End}
use Rattle.fmp_instructions.specs.declared.instructions.MachineContext.{MachineContext}
use Rattle.fmp_instructions.specs.Longer.{exec-longer, exec-one_end}
use Rattle.fmp_instructions.specs.Machine.{exec, code_stretch, stack_of}
use Rattle.fmp_codegen.specs.Tie.{ContextTied, SameLocals}
use Rattle.fmp_codegen.proofs.Places.{IsPlain}
use Rattle.fmp_codegen.proofs.Matches.{room, Comes, Match, Tied, SameLocalsBack}
use Rattle.fmp_codegen.proofs.Statements.{turns_follow}

pub room-is : (code : List Instruction) (t : ℕ) → room code t ≡ (t + 1) * length code
room-is code zero = omega arith
room-is code (suc t) = grind (arith, room-is code t)

-- this many instructions are enough for every run that ends within the room of t turns
abbrev pub IsEnough : List Instruction → (t n p : ℕ) → List ℤ → Type 0
IsEnough code t n p l =
    (s : ℕ) → p + s ≤ room code t → is_over (exec code s p [] l) ≡ false → exec code n p [] l ≡ exec code s p [] l

pub enough : (code : List Instruction) (t n p : ℕ) (l : List ℤ) → (t + 1) * length code ≤ n → IsEnough code t n p l
enough code t n p l le s within ended =
    exec-longer code s n (omega (arith, within, room-is code t)) p [] l (exec code s p [] l) ended refl

-- code that only ends needs one instruction
same_end : (m n p : ℕ) (l : List ℤ) → exec (End ∷ []) (suc m) p [] l ≡ exec (End ∷ []) (suc n) p [] l
same_end m n zero l = refl
same_end m n (suc p) l = refl

pub one_is_enough : (t n p : ℕ) (l : List ℤ) → 1 ≤ n → IsEnough (End ∷ []) t n p l
one_is_enough t zero p l le s within ended = absurd (omega (arith, le))
one_is_enough t (suc n) p l le zero within ended = absurd (cc ended)
one_is_enough t (suc n) p l le (suc s) within ended = same_end n s p l

module _ (scope : Scope) (code : List Instruction) where
  abbrev CodeTied : MachineContext → TextContext → Type 0
  CodeTied d c = ContextTied scope code d c

  -- the same tie from the other side
  turned :
      (o : Ending TextContext) (m : Ending MachineContext) → is_over o ≡ false →
      StretchTied (Tied scope code) (SameLocalsBack scope) Handed o m
      → StretchTied CodeTied (SameLocals scope) Handed m o
  turned _ _ e (over m) = absurd (cc e)
  turned _ _ e (kept k m h) = absurd (cc e)
  turned _ _ e (call c d made h) = call d c made h
  turned _ _ e (end_ c d h) = end_ d c h
  turned _ _ e (fault c d f h) = fault d c f h

  comes_first :
      (n p : ℕ) (l : List ℤ) (o : Ending TextContext) (m : Ending MachineContext) → is_over o ≡ false →
      is_over m ≡ false → exec code n p [] l ≡ m → Comes scope code n p l o
      → StretchTied CodeTied (SameLocals scope) Handed m o
  comes_first n p l o m going ended e h =
      let same : h.outcome ≡ m = exec-one_end code h.steps n p [] l h.outcome m h.ended ended h.by e in
      turned o m going (subst (λ (x : Ending MachineContext). StretchTied (Tied scope code)
      (SameLocalsBack scope) Handed o x) same h.same)

  ended_first :
      (n p : ℕ) (l : List ℤ) (o : Ending TextContext) (m : Ending MachineContext) → is_over m ≡ false →
      exec code n p [] l ≡ m → Match scope code n p l o → StretchTied CodeTied (SameLocals scope) Handed m o
  ended_first n p l (ends.Over k) m ended e h =
      let more : true ≡ is_over m = sym h.2 ∙ ap is_over (exec-longer code n h.0 h.1 p [] l m ended e) in
      absurd (cc (more, ended))
  ended_first n p l (ends.Call c r) m ended e h = comes_first n p l (ends.Call c r) m refl ended e h
  ended_first n p l (ends.End c) m ended e h = comes_first n p l (ends.End c) m refl ended e h
  ended_first n p l (ends.Fault c f) m ended e h = comes_first n p l (ends.Fault c f) m refl ended e h

  machine_first :
      (n p : ℕ) (l : List ℤ) (o : Ending TextContext) (m : Ending MachineContext) → exec code n p [] l ≡ m →
      Match scope code n p l o → StretchTied CodeTied (SameLocals scope) Handed m o
  machine_first n p l o (ends.Over None) e h = over o
  machine_first n p l o (ends.Over (Some k)) e h = kept k o tt
  machine_first n p l o (ends.Call d s) e h = ended_first n p l o (ends.Call d s) refl e h
  machine_first n p l o (ends.End d) e h = ended_first n p l o (ends.End d) refl e h
  machine_first n p l o (ends.Fault d g) e h = ended_first n p l o (ends.Fault d g) refl e h

  comes_then :
      (t n p : ℕ) (l : List ℤ) (o : Ending TextContext) → IsEnough code t n p l → Comes scope code t p l o →
      StretchTied (Tied scope code) (SameLocalsBack scope) Handed o (exec code n p [] l)
  comes_then t n p l o le h =
      let ended : is_over (exec code h.steps p [] l) ≡ false = ap is_over h.by ∙ h.ended in
      let same : h.outcome ≡ exec code n p [] l = sym h.by ∙ sym (le h.steps h.within ended) in
      subst (λ (x : Ending MachineContext). StretchTied (Tied scope code) (SameLocalsBack scope) Handed o x) same h.same

  text_first_of :
      (t n p : ℕ) (l : List ℤ) (o : Ending TextContext) → IsEnough code t n p l → Match scope code t p l o →
      StretchTied (Tied scope code) (SameLocalsBack scope) Handed o (exec code n p [] l)
  text_first_of t n p l (ends.Over None) le h = over (exec code n p [] l)
  text_first_of t n p l (ends.Over (Some k)) le h = kept k (exec code n p [] l) tt
  text_first_of t n p l (ends.Call c r) le h = comes_then t n p l (ends.Call c r) le h
  text_first_of t n p l (ends.End c) le h = comes_then t n p l (ends.End c) le h
  text_first_of t n p l (ends.Fault c f) le h = comes_then t n p l (ends.Fault c f) le h

module _ (scope : Scope) (code : List Instruction) (plain : IsPlain scope) where
  matched :
      (t : ℕ) (d : MachineContext) (c : TextContext) → ContextTied scope code d c →
      Match scope code t d.pc d.locals (stretch scope t c)
  matched t d c h = turns_follow scope code plain t d.locals c.locals c.todo d.pc h.locals h.todo

  -- a tied context begins with no operands
  from_none : (n : ℕ) (d : MachineContext) → stack_of d ≡ [] → exec code n d.pc [] d.locals ≡ code_stretch code n d
  from_none n d none = ap (λ s. exec code n d.pc s d.locals) (sym none)

  -- what the code finishes within n instructions the text finishes within n turns, in the same way
  pub code_first :
      (n : ℕ) (d : MachineContext) (c : TextContext) → ContextTied scope code d c →
      StretchTied (ContextTied scope code) (SameLocals scope) Handed (code_stretch code n d) (stretch scope n c)
  code_first n d c h =
      machine_first scope code n d.pc d.locals (stretch scope n c) (code_stretch code n d) (from_none n d h.operands)
      (matched n d c h)

  -- what the text finishes within t turns the code finishes within this many instructions
  pub text_first :
      (t n : ℕ) (d : MachineContext) (c : TextContext) → ContextTied scope code d c → IsEnough code t n d.pc d.locals →
      StretchTied (Tied scope code) (SameLocalsBack scope) Handed (stretch scope t c) (code_stretch code n d)
  text_first t n d c h le =
      subst (StretchTied (Tied scope code) (SameLocalsBack scope) Handed (stretch scope t c)) (from_none n d h.operands)
      (text_first_of scope code t n d.pc d.locals (stretch scope t c) le (matched t d c h))
