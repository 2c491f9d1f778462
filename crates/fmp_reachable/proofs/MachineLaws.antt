-- A stretch that begins within the room of its body stays within it, and so does a reply.
use Rattle.std.proofs.Common.{◌≡◌, ℕ, zero, suc, ◌+◌, ◌-◌, ◌<◌, ◌≤◌, Bool, true, false, ◌&&◌, cond, List, [], ◌∷◌}
use Rattle.std.proofs.Common.{Option, Some, None, Result, Ok, Err, refl, ap, sym, subst, ◌∙◌, arith, ℤ, pos, negsuc}
use Rattle.std.specs.Prelude.{length, slice_get, get_or, slice_set, replicate, nat_eq, nat_le, nat_lt, if◌then◌else◌}
use Rattle.std.specs.Prelude.{is_some}
use Rattle.std.proofs.lemmas.Bool.Decides.{nat_tests}
use Rattle.std.proofs.lemmas.List.{get_or-set_other, length-set}
use Rattle.std.proofs.lemmas.Option.{get_or_from_slice_get, slice_get_within}
use Rattle.fmp_base.specs.declared.bodies.Fault.{Fault}
use Rattle.fmp_base.specs.declared.bodies.Fault.TheVariants.{Index}
use Rattle.fmp_base.specs.declared.calls.Reply.{Reply}
use Rattle.fmp_base.specs.declared.codes.Er.{Er}
use Rattle.fmp_base.specs.declared.codes.Er.TheVariants as er
use Rattle.fmp_base.specs.Contexts.{OfCall}
use Rattle.fmp_base.specs.Deliveries.{out_written, written}
use Rattle.fmp_base.specs.Operators.{Value, is_zero, place_in, truth_of, unary_value, binary_value}
use Rattle.fmp_base.specs.Services.{arity, out_place}
use Rattle.fmp_base.specs.Stretches.{Ending}
use Rattle.fmp_instructions.specs.declared.instructions.Instruction.{Instruction}
use Rattle.fmp_instructions.specs.declared.instructions.Instruction.TheVariants.{Push, Load, Store, LoadIndexed}
use Rattle.fmp_instructions.specs.declared.instructions.Instruction.TheVariants.{StoreIndexed, Unary, Truth, Binary}
use Rattle.fmp_instructions.specs.declared.instructions.Instruction.TheVariants.{Jump, JumpIfZero, Call, End}
use Rattle.fmp_instructions.specs.declared.instructions.MachineContext.{MachineContext}
use Rattle.fmp_instructions.specs.Instructions.{BodyTables}
use Rattle.fmp_instructions.specs.Machine.{Next, act, call_before, code_deliver, code_start, code_stretch, exec, gives}
use Rattle.fmp_instructions.specs.Machine.{on_place, places_of, replied, stack_of, standing}
use Rattle.fmp_instructions.specs.Standing.{length-tops, stack_of-standing}
use Rattle.fmp_instructions.specs.Verify.{IsPlaced, VerifiedBody, array_fits, entry_is, fits, is_same, local_fits}
use Rattle.fmp_instructions.specs.Verify.{places_fit, wants}
use Rattle.fmp_instructions.proofs.Conjunctions.{and-left, and-right}
use Rattle.fmp_instructions.proofs.Operations.{entry_here}
use Rattle.fmp_instructions.proofs.Steps.{depth_is-some}

place-below : (places : ℕ) (i : ℤ) (k : ℕ) → place_in places i ≡ Ok k → k < places
place-below places (pos i) k e = by_test (nat_lt i places) refl e where
  by_test : (b : Bool) → nat_lt i places ≡ b → (if b then Ok i else Err Index) ≡ Ok k → k < places
  by_test true t e = let same : i ≡ k = cc in grind (arith, nat_tests)
  by_test false t e = cc
place-below places (negsuc i) k e = cc

-- 64 locals, and 0 in those from a place on
pub record AreLocals (size : ℕ) (l : List ℤ) : Type 0 where
  pub long : length l ≡ 64
  pub rest : (v : ℕ) → size ≤ v → get_or l v (pos 0) ≡ pos 0

-- a local in front of that place is written
pub locals-set : (size : ℕ) (l : List ℤ) (v : ℕ) (x : ℤ) → v < size → AreLocals size l
    → AreLocals size (slice_set l v x)
locals-set size l v x below h =
    record {
      long = length-set l v x ∙ h.long;
      rest = λ w from. get_or-set_other l v w x (pos 0) (λ e. omega (arith, e, below, from)) ∙ h.rest w from;
    }

-- a context of this room
pub record IsIn (size : ℕ) (depths : List ℕ) (c : MachineContext) : Type 0 where
  pub locals : AreLocals size c.locals
  pub placed : IsPlaced depths c

moved : (depths : List ℕ) (place m n : ℕ) → m ≡ n → entry_is depths place m ≡ true → entry_is depths place n ≡ true
moved depths place m n e h = subst (λ (k : ℕ). entry_is depths place k ≡ true) e h

pub standing-in : (size : ℕ) (depths : List ℕ) (pc : ℕ) (s l : List ℤ) → entry_is depths pc (length s) ≡ true
    → AreLocals size l → IsIn size depths (standing pc s l)
standing-in size depths pc s l entry h =
    record {
      locals = h;
      placed = record {
        depth = depth_is-some (slice_get depths pc) (length s) entry;
        rest = ap places_of (sym (stack_of-standing pc s l));
      };
    }

module _ (size : ℕ) (depths : List ℕ) where
  abbrev Ends : Ending MachineContext → Type 0
  Ends = OfCall (IsIn size depths)

  abbrev Leads : Next → Type 0
  Leads f =
      (pc : ℕ) (s l : List ℤ) → entry_is depths pc (length s) ≡ true → AreLocals size l → Ends (f pc s l)

  gives-leads : (f : Next) → Leads f → (v : Value) (pc : ℕ) (s l : List ℤ)
      → entry_is depths (pc + 1) (suc (length s)) ≡ true → AreLocals size l → Ends (gives v f pc s l)
  gives-leads f go (Ok z) pc s l e h = go (pc + 1) (z ∷ s) l e h
  gives-leads f go (Err x) pc s l e h = tt

  place-leads : (f : Next) (v : Result ℕ Fault) (pc : ℕ) (s l : ℕ → List ℤ) (m : List ℤ)
      → ((k : ℕ) → v ≡ Ok k → Ends (f (pc + 1) (s k) (l k)))
      → Ends (on_place v pc m (λ k. f (pc + 1) (s k) (l k)))
  place-leads f (Ok k) pc s l m go = go k refl
  place-leads f (Err x) pc s l m go = tt

  cond-leads : (f : Next) → Leads f → (b : Bool) (p q : ℕ) (s l : List ℤ)
      → entry_is depths p (length s) ≡ true → entry_is depths q (length s) ≡ true → AreLocals size l
      → Ends (cond b (f p s l) (f q s l))
  cond-leads f go true p q s l e k h = go p s l e h
  cond-leads f go false p q s l e k h = go q s l k h

  -- one instruction, which fits the operands before it
  act-leads : (f : Next) → Leads f → (i : Instruction) (pc : ℕ) (s l : List ℤ)
      → wants size depths pc (length s) i ≡ true → AreLocals size l → Ends (act (Some i) f pc s l)
  act-leads f go (Push n) pc s l w h = go (pc + 1) (n ∷ s) l (moved depths (pc + 1) (length s + 1) (suc (length s))
      (omega arith) w) h
  act-leads f go (Load v) pc s l w h =
      go (pc + 1) (get_or l v (pos 0) ∷ s) l
      (moved depths (pc + 1) (length s + 1) (suc (length s)) (omega arith) (and-right (nat_lt v size) _ w)) h
  act-leads f go (Store v) pc [] l w h = tt
  act-leads f go (Store v) pc (x ∷ s) l w h =
      let n = suc (length s) in
      let fit : nat_lt v size ≡ true = and-left (nat_lt v size) _ (and-left (nat_lt v size && nat_le 1 n) _ w) in
      let below : v < size = grind (arith, nat_tests) in
      let next = and-right (nat_lt v size && nat_le 1 n) (entry_is depths (pc + 1) (n - 1)) w in
      go (pc + 1) s (slice_set l v x) (moved depths (pc + 1) (n - 1) (length s) (omega arith) next)
      (locals-set size l v x below h)
  act-leads f go (LoadIndexed base places) pc [] l w h = tt
  act-leads f go (LoadIndexed base places) pc (i ∷ s) l w h =
      let n = suc (length s) in
      let next = and-right (array_fits size base places && nat_le 1 n) (entry_is depths (pc + 1) n) w in
      place-leads f (place_in places i) pc (λ j. get_or l (base + j) (pos 0) ∷ s) (λ j. l) l
      (λ k e. go (pc + 1) (get_or l (base + k) (pos 0) ∷ s) l next h)
  act-leads f go (StoreIndexed base places) pc [] l w h = tt
  act-leads f go (StoreIndexed base places) pc (x ∷ []) l w h = tt
  act-leads f go (StoreIndexed base places) pc (x ∷ i ∷ s) l w h =
      let n = suc (suc (length s)) in
      let array : array_fits size base places ≡ true =
      and-left (array_fits size base places) _ (and-left (array_fits size base places && nat_le 2 n) _ w) in
      let within : nat_le (base + places) size ≡ true = and-right (nat_le 1 base && nat_le 1 places) _ array in
      let next = and-right (array_fits size base places && nat_le 2 n) (entry_is depths (pc + 1) (n - 2)) w in
      place-leads f (place_in places i) pc (λ j. s) (λ j. slice_set l (base + j) x) l
      (λ k e.
      let low = place-below places i k e in
      let below : base + k < size = grind (arith, nat_tests) in
      go (pc + 1) s (slice_set l (base + k) x) (moved depths (pc + 1) (n - 2) (length s) (omega arith) next)
      (locals-set size l (base + k) x below h))
  act-leads f go (Unary op) pc [] l w h = tt
  act-leads f go (Unary op) pc (x ∷ s) l w h =
      gives-leads f go (unary_value op x) pc s l (and-right (nat_le 1 (suc (length s))) _ w) h
  act-leads f go Truth pc [] l w h = tt
  act-leads f go Truth pc (x ∷ s) l w h = go (pc + 1) (truth_of x ∷ s) l (and-right (nat_le 1 (suc (length s))) _ w) h
  act-leads f go (Binary op) pc [] l w h = tt
  act-leads f go (Binary op) pc (y ∷ []) l w h = tt
  act-leads f go (Binary op) pc (y ∷ x ∷ s) l w h =
      let n = suc (suc (length s)) in
      let next = and-right (nat_le 2 n) (entry_is depths (pc + 1) (n - 1)) w in
      gives-leads f go (binary_value op x y) pc s l (moved depths (pc + 1) (n - 1) (suc (length s))
      (omega arith) next) h
  act-leads f go (Jump a) pc s l w h = go a s l w h
  act-leads f go (JumpIfZero a) pc [] l w h = tt
  act-leads f go (JumpIfZero a) pc (x ∷ s) l w h =
      let n = suc (length s) in
      let first = and-right (nat_le 1 n) (entry_is depths a (n - 1))
      (and-left (nat_le 1 n && entry_is depths a (n - 1)) _ w) in
      let second = and-right (nat_le 1 n && entry_is depths a (n - 1)) (entry_is depths (pc + 1) (n - 1)) w in
      let same : n - 1 ≡ length s = omega arith in
      cond-leads f go (is_zero x) a (pc + 1) s l
      (moved depths a (n - 1) (length s) same first)
      (moved depths (pc + 1) (n - 1) (length s) same second) h
  act-leads f go (Call service out result) pc s l w h =
      standing-in size depths (pc + 1) [] l
      (and-right (nat_eq (length s) (arity service) && places_fit size service out result) _ w) h
  act-leads f go End pc s l w h = tt

  found-leads : (f : Next) → Leads f → (i : Option Instruction) (pc : ℕ) (s l : List ℤ)
      → ((j : Instruction) → i ≡ Some j → fits size depths pc (length s) j ≡ true) → AreLocals size l
      → Ends (act i f pc s l)
  found-leads f go None pc s l fit h = tt
  found-leads f go (Some i) pc s l fit h = act-leads f go i pc s l (and-right (nat_le (length s) 64) _ (fit i refl)) h

module _ (body : BodyTables) (v : VerifiedBody body) where
  -- a run of at most n instructions
  exec-leads : (n : ℕ) → Leads body.locals body.depths (exec body.instructions n)
  exec-leads zero pc s l entry h = standing-in body.locals body.depths pc s l entry h
  exec-leads (suc n) pc s l entry h =
      found-leads body.locals body.depths (exec body.instructions n) (exec-leads n)
      (slice_get body.instructions pc) pc s l
      (λ j e. v.table.each pc j (length s) e (depth_is-some (slice_get body.depths pc) (length s) entry)) h

  entry_at : (pc n : ℕ) → slice_get body.depths pc ≡ Some n → entry_is body.depths pc n ≡ true
  entry_at pc n here =
      subst (λ (d : ℕ). entry_is body.depths pc d ≡ true) (get_or_from_slice_get body.depths pc n 0 here)
      (entry_here body pc v (slice_get_within body.depths pc n here))

  -- a stretch
  pub stretch-in : (n : ℕ) (c : MachineContext) → IsIn body.locals body.depths c
      → OfCall (IsIn body.locals body.depths) (code_stretch body.instructions n c)
  stretch-in n c h =
      exec-leads n c.pc (stack_of c) c.locals
      (moved body.depths c.pc c.count (length (stack_of c)) (sym (length-tops c.operands c.count))
      (entry_at c.pc c.count h.placed.depth)) h.locals

  -- the start
  pub start-in : 1 ≤ body.locals → (exinf : ℤ) → IsIn body.locals body.depths (code_start exinf)
  start-in some exinf =
      standing-in body.locals body.depths 0 [] (exinf ∷ replicate 63 (pos 0)) (entry_at 0 0 v.table.first)
      (record { long = refl; rest = λ w from. zeros w from }) where
        get_or-zeros : (n w : ℕ) → get_or (replicate n (pos 0)) w (pos 0) ≡ pos 0
        get_or-zeros zero w = refl
        get_or-zeros (suc n) zero = refl
        get_or-zeros (suc n) (suc w) = get_or-zeros n w

        zeros : (w : ℕ) → body.locals ≤ w → get_or (exinf ∷ replicate 63 (pos 0)) w (pos 0) ≡ pos 0
        zeros zero from = absurd (omega (arith, some, from))
        zeros (suc w) from = get_or-zeros 63 w

  written-in : (l : List ℤ) (o : Option ℕ) (x : ℤ) → local_fits body.locals o ≡ true → AreLocals body.locals l
      → AreLocals body.locals (written l o x)
  written-in l None x f h = h
  written-in l (Some w) x f h = let below : w < body.locals = grind (arith, nat_tests) in locals-set body.locals l w x
      below h

  out-in : (e : Er) (l : List ℤ) (o : Option ℕ) (x : ℤ) → local_fits body.locals o ≡ true → AreLocals body.locals l
      → AreLocals body.locals (out_written e l o x)
  out-in er.Ok l o x f h = written-in l o x f h
  out-in e l o x f h = h

  replied-in : (k : ℕ) (d : ℕ) (i : Option Instruction) (l : List ℤ) (reply : Reply)
      → ((j : Instruction) → i ≡ Some j → fits body.locals body.depths k d j ≡ true) → AreLocals body.locals l
      → AreLocals body.locals (replied i l reply)
  replied-in k d (Some (Call service out result)) l reply fit h =
      let w = and-right (nat_le d 64) _ (fit (Call service out result) refl) in
      let both = and-right (nat_eq d (arity service)) (places_fit body.locals service out result)
      (and-left (nat_eq d (arity service) && places_fit body.locals service out result) _ w) in
      let same = is_same (is_some (out_place service)) (is_some out) in
      written-in _ result _ (and-right (same && local_fits body.locals out) (local_fits body.locals result) both)
      (out-in reply.code l out _
      (and-right same (local_fits body.locals out) (and-left (same && local_fits body.locals out) _ both)) h)
  replied-in k d i l reply fit h = h

  before-in : (pc : ℕ) (l : List ℤ) (reply : Reply) → AreLocals body.locals l
      → AreLocals body.locals (replied (call_before body.instructions pc) l reply)
  before-in zero l reply h = h
  before-in (suc k) l reply h =
      replied-in k (get_or body.depths k 0) (slice_get body.instructions k) l reply
      (λ j e. v.table.each k j (get_or body.depths k 0) e
      (let within = slice_get_within body.instructions k j e in
      let same = v.table.long in
      depth_is-some (slice_get body.depths k) (get_or body.depths k 0) (entry_here body k v
      (omega (arith, within, same))))) h

  -- a reply
  pub deliver-in : (c : MachineContext) (reply : Reply) → IsIn body.locals body.depths c
      → IsIn body.locals body.depths (code_deliver body.instructions c reply)
  deliver-in c reply h =
      record {
        locals = before-in c.pc c.locals reply h.locals;
        placed = record { depth = h.placed.depth; rest = h.placed.rest };
      }
