-- The machine comes to the same end as the text.
use Rattle.std.proofs.Common.{◌≡◌, ℕ, zero, suc, ◌+◌, ◌<◌, ◌≤◌, true, false, List, [], ◌∷◌, length, Some, None, refl}
use Rattle.std.proofs.Common.{sym, ap, ◌∙◌, subst, arith, ℤ}
use Rattle.std.specs.Prelude.{slice_get}
use Rattle.std.proofs.lemmas.Option.{slice_get_within}
use Rattle.fmp_base.specs.declared.bodies.Fault.{Fault}
use Rattle.fmp_base.specs.Stretches.{Ending, is_over}
use Rattle.fmp_base.specs.Stretches as ends
use Rattle.fmp_base.specs.KeptTies.{Handed}
use Rattle.fmp_base.specs.Ties.{StretchTied, fault}
use Rattle.fmp_tasklang.specs.Trees.{Block, empty, next}
use Rattle.fmp_tasklang.specs.Scopes.{Scope}
use Rattle.fmp_tasklang.specs.Values.{Values}
use Rattle.fmp_tasklang.specs.Contexts.{Item, Do, Mark, TextContext, going, items_before}
use Rattle.fmp_tasklang.specs.Stretches.{after_mark, from_mark}
use Rattle.fmp_instructions.specs.declared.instructions.Instruction.{Instruction}
use Rattle.fmp_instructions.specs.declared.instructions.Instruction.TheVariants.{Jump}
use Rattle.fmp_instructions.specs.declared.instructions.MachineContext.{MachineContext}
use Rattle.fmp_instructions.specs.Machine.{at, exec}
use Rattle.fmp_scopes.specs.Naming.{uses_offence, statement_uses, block_uses}
use Rattle.fmp_scopes.specs.Scheme.{statement_code, block_code}
use Rattle.fmp_scopes.specs.Sizes.{statement_size, block_size}
use Rattle.fmp_codegen.specs.Tie.{HasAt, Path, Reaches, Stands, StandsSomehow, LocalsTied, ContextTied, SameLocals}
use Rattle.fmp_codegen.proofs.Expressions.{Leads, Faults, one_step, leads_on, jumps_to, renamed}
use Rattle.fmp_codegen.proofs.Standing.{has_front, has_back}
use Rattle.fmp_emission.proofs.Lengths.{length-statement_code}
use Rattle.fmp_scopes.proofs.KnownNames.{uses_front, uses_back}

-- as many instructions as the code has, for each turn and once more
abbrev pub room : List Instruction → ℕ → ℕ
room code zero = length code
room code (suc t) = length code + room code t

pub room-least : (code : List Instruction) (t : ℕ) → length code ≤ room code t
room-least code zero = omega arith
room-least code (suc t) = omega arith

-- the same locals, from the other side
abbrev pub SameLocalsBack : Scope → TextContext → MachineContext → Type 0
SameLocalsBack scope c d = SameLocals scope d c

module _ (scope : Scope) (code : List Instruction) where
  -- jumps forward lead from p to where the code of these things to do stands
  abbrev pub Stood : ℕ → List Item → Type 0
  Stood p todo = Reaches code p (StandsSomehow scope code todo)

  abbrev pub Tied : TextContext → MachineContext → Type 0
  Tied c d = ContextTied scope code d c

  -- the machine comes to the same end
  pub record Comes (t p : ℕ) (l : List ℤ) (o : Ending TextContext) : Type 0 where
    pub steps : ℕ
    pub within : p + steps ≤ room code t
    pub outcome : Ending MachineContext
    pub by : exec code steps p [] l ≡ outcome
    pub ended : is_over outcome ≡ false
    pub same : StretchTied Tied (SameLocalsBack scope) Handed o outcome

  -- the same end, or none within t instructions
  abbrev pub Match : (t p : ℕ) → List ℤ → Ending TextContext → Type 0
  Match t p l (ends.Over k) = (j : ℕ) × (t ≤ j) × (is_over (exec code j p [] l) ≡ true)
  Match t p l (ends.Call c r) = Comes t p l (ends.Call c r)
  Match t p l (ends.End c) = Comes t p l (ends.End c)
  Match t p l (ends.Fault c f) = Comes t p l (ends.Fault c f)

  -- ---- places

  pub path_leads : (n p q : ℕ) → Path code n p q → (l : List ℤ) → Leads code p [] l q [] l
  path_leads zero p q h l = renamed code p q [] l h
  path_leads (suc n) p q h l =
      leads_on code p [] l h.0 [] l q [] l (jumps_to code p h.0 h.0 [] l h.2 h.1 refl) (path_leads n h.0 q h.3 l)

  pub path_rises : (n p q : ℕ) → Path code n p q → p ≤ q
  path_rises n p q h = let a = path_leads n p q h [] in omega (arith, a.rises)

  pub here : (p : ℕ) (P : ℕ → Type 0) → P p → Reaches code p P
  here p P h = record { jumps = 0; place = p; path = refl; holds = h }

  pub jump_first :
      (p a b : ℕ) (P : ℕ → Type 0) → slice_get code p ≡ Some (Jump a) → p < a → a ≡ b → Reaches code b P
      → Reaches code p P
  jump_first p a b P h lt e r =
      record {
        jumps = suc r.jumps;
        place = r.place;
        path = (a, h, lt, subst (λ n. Path code r.jumps n r.place) (sym e) r.path);
        holds = r.holds;
      }

  pub moved : (p q : ℕ) (P : ℕ → Type 0) → p ≡ q → Reaches code p P → Reaches code q P
  moved p q P e r = subst (λ n. Reaches code n P) e r

  abbrev pub Then : List Item → (again exit : ℕ) → ℕ → Type 0
  Then rest again exit q = Stands scope code rest q again exit

  -- forget where continue and break lead
  pub stood : (todo : List Item) (p again exit : ℕ) → Reaches code p (Then todo again exit) → Stood p todo
  stood todo p again exit r = record { jumps = r.jumps; place = r.place; path = r.path; holds = (again, exit, r.holds) }

  -- a block, and then the rest
  pub block_stands :
      (s : Block) (rest : List Item) (p again exit : ℕ) → uses_offence scope (block_uses s) ≡ None →
      HasAt code p (block_code scope s p again exit) → Reaches code (p + block_size s) (Then rest again exit) →
      Reaches code p (Then (items_before s rest) again exit)
  block_stands empty rest p again exit named has r = moved (p + 0) p (Then rest again exit) (omega arith) r
  block_stands (next s b) rest p again exit named has r =
      let front = statement_code scope s p again exit in
      let back = block_code scope b (p + statement_size s) again exit in
      here p (Then (Do s ∷ items_before b rest) again exit) (
        uses_front scope (statement_uses s) (block_uses b) named,
        has_front code p front back has,
        block_stands b rest (p + statement_size s) again exit (uses_back scope (statement_uses s) (block_uses b) named)
            (has_back code p (statement_size s) front back (length-statement_code scope s p again exit) has)
            (moved (p + (statement_size s + block_size b)) (p + statement_size s + block_size b)
            (Then rest again exit) (omega arith) r),
      )

  pub below_exit : (todo : List Item) (p again exit : ℕ) → Stands scope code todo p again exit → p ≤ exit
  below_exit [] p again exit h = h.4
  below_exit (Do s ∷ rest) p again exit h =
      let a = below_exit rest h.2.place again exit h.2.holds in
      let b = path_rises h.2.jumps (p + statement_size s) h.2.place h.2.path in
      omega (arith, a, b)
  below_exit (Mark e b ∷ rest) p again exit h = let a = h.1 in omega arith

  -- break
  pub to_exit :
      (todo : List Item) (p again exit : ℕ) → Stands scope code todo p again exit → Stood exit (after_mark todo)
  to_exit [] p again exit h =
      here exit (StandsSomehow scope code []) (exit, exit, (h.2, h.2, h.2, omega arith, omega arith))
  to_exit (Do s ∷ rest) p again exit h = to_exit rest h.2.place again exit h.2.holds
  to_exit (Mark e b ∷ rest) p again exit h =
      let r = h.7 in
      record { jumps = r.jumps; place = r.place; path = r.path; holds = (h.4, h.5, r.holds) }

  -- continue, at p
  pub to_mark :
      (todo : List Item) (p q again exit : ℕ) → slice_get code p ≡ Some (Jump again) → p < q →
      Stands scope code todo q again exit → Stood p (from_mark todo)
  to_mark [] p q again exit there lt h =
      let le = h.3 in
      jump_first p again again (StandsSomehow scope code []) there (omega arith) refl
      (here again (StandsSomehow scope code []) (again, again, (h.1, h.1, h.1, omega arith, omega arith)))
  to_mark (Do s ∷ rest) p q again exit there lt h =
      let b = path_rises h.2.jumps (q + statement_size s) h.2.place h.2.path in
      to_mark rest p h.2.place again exit there (omega arith) h.2.holds
  to_mark (Mark e b ∷ rest) p q again exit there lt h =
      let a = h.1 in
      here p (StandsSomehow scope code (Mark e b ∷ rest))
      (again, exit, (there, omega arith, h.2, h.3, h.4, h.5, h.6, h.7))

  -- ---- matches

  pub comes_on :
      (t p q : ℕ) (l l' : List ℤ) (o : Ending TextContext) → Leads code p [] l q [] l' → Comes t q l' o → Comes t p l o
  comes_on t p q l l' o a m =
      record {
        steps = a.steps + m.steps;
        within = omega (arith, a.rises, m.within);
        outcome = m.outcome;
        by = a.by m.steps ∙ m.by;
        ended = m.ended;
        same = m.same;
      }

  pub match_on :
      (t p q : ℕ) (l l' : List ℤ) (o : Ending TextContext) → Leads code p [] l q [] l' → Match t q l' o → Match t p l o
  match_on t p q l l' (ends.Over k) a m = (a.steps + m.0, omega (arith, m.1), ap is_over (a.by m.0) ∙ m.2)
  match_on t p q l l' (ends.Call c r) a m = comes_on t p q l l' (ends.Call c r) a m
  match_on t p q l l' (ends.End c) a m = comes_on t p q l l' (ends.End c) a m
  match_on t p q l l' (ends.Fault c f) a m = comes_on t p q l l' (ends.Fault c f) a m

  pub comes_turn :
      (t p q : ℕ) (l : List ℤ) (o : Ending TextContext) → slice_get code p ≡ Some (Jump q) → Comes t q l o →
      Comes (suc t) p l o
  comes_turn t p q l o h m =
      record {
        steps = 1 + m.steps;
        within = omega (arith, m.within, slice_get_within code p (Jump q) h);
        outcome = m.outcome;
        by = one_step code p [] l (Jump q) h m.steps ∙ m.by;
        ended = m.ended;
        same = m.same;
      }

  -- a jump back is a turn
  pub match_turn :
      (t p q : ℕ) (l : List ℤ) (o : Ending TextContext) → slice_get code p ≡ Some (Jump q) → Match t q l o →
      Match (suc t) p l o
  match_turn t p q l (ends.Over k) h m = (
    1 + m.0,
    omega (arith, m.1),
    ap is_over
        (one_step code p [] l (Jump q) h m.0) ∙ m.2,
  )
  match_turn t p q l (ends.Call c r) h m = comes_turn t p q l (ends.Call c r) h m
  match_turn t p q l (ends.End c) h m = comes_turn t p q l (ends.End c) h m
  match_turn t p q l (ends.Fault c f) h m = comes_turn t p q l (ends.Fault c f) h m

  pub fault_match :
      (t p q : ℕ) (l : List ℤ) (vs : Values) (rest : List Item) (f : Fault) → LocalsTied scope l vs → q ≤ length code →
      Faults code p [] l q f → Match t p l (ends.Fault (going vs rest) f)
  fault_match t p q l vs rest f tied le a =
      record {
        steps = a.steps;
        within = omega (arith, a.rises, room-least code t);
        outcome = ends.Fault (at a.place l) f;
        by = a.by;
        ended = refl;
        same = fault (going vs rest) (at a.place l) f tied;
      }
