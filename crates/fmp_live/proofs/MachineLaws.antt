-- The machine does the same with locals that agree where they are live.
use Rattle.std.proofs.Common.{◌≡◌, ℕ, zero, suc, ◌+◌, ◌<◌, ℤ, pos, negsuc, Bool, true, false, not, ◌&&◌, if◌then◌else◌}
use Rattle.std.proofs.Common.{◌||◌, nat_eq, nat_le, nat_lt, List, [], ◌∷◌, slice_get, slice_set, Option, Some, None, Result}
use Rattle.std.proofs.Common.{Ok, Err, refl, ◌∙◌, ap, subst, arith}
use Rattle.std.proofs.lemmas.Bool.{and_from, eq-eqb, le-leb, lt-ltb, ltb-true, ne_eqb, not_from_false, or_left}
use Rattle.std.proofs.lemmas.Bool.{or_right}
use Rattle.fmp_base.specs.declared.bodies.Fault.{Fault}
use Rattle.fmp_base.specs.declared.calls.Reply.{Reply}
use Rattle.fmp_base.specs.declared.codes.Er.{Er}
use Rattle.fmp_base.specs.declared.codes.Er.TheVariants as er
use Rattle.fmp_base.specs.Deliveries.{out_written, result_value, value_or_zero, written}
use Rattle.fmp_base.specs.Meanings.{Meaning}
use Rattle.fmp_base.specs.Operators.{Value, is_zero, place_in, truth_of, unary_value, binary_value}
use Rattle.fmp_base.specs.Services.{gives_count}
use Rattle.fmp_base.specs.Stretches.{Ending}
use Rattle.fmp_base.specs.Stretches as ends
use Rattle.fmp_instructions.specs.declared.instructions.Instruction.{Instruction}
use Rattle.fmp_instructions.specs.declared.instructions.Instruction.TheVariants.{Push, Load, Store, LoadIndexed}
use Rattle.fmp_instructions.specs.declared.instructions.Instruction.TheVariants.{StoreIndexed, Unary, Truth, Binary}
use Rattle.fmp_instructions.specs.declared.instructions.Instruction.TheVariants.{Jump, JumpIfZero, Call, End}
use Rattle.fmp_instructions.specs.declared.instructions.MachineContext.{MachineContext}
use Rattle.fmp_instructions.specs.Instructions.{BodyTables, instructions_at}
use Rattle.fmp_instructions.specs.Machine.{Next, act, call_before, code_start, code_stretch, exec, gives, on_place}
use Rattle.fmp_instructions.specs.Machine.{replied, stack_of, tops}
use Rattle.fmp_live.specs.LiveLocals.{IsLiveTable, LiveTable, is_awaited, is_live, is_named, is_needed, is_replied}
use Rattle.fmp_live.specs.LiveLocals.{is_within}
use Rattle.fmp_live.proofs.RowLaws.{Agree, agree-less, agree-set}

-- contexts of one place with the same operands, whose live locals are the same
pub record SameLive (rows : List (List Bool)) (c d : MachineContext) : Type 0 where
  pub pc : c.pc ≡ d.pc
  pub count : c.count ≡ d.count
  pub operands : c.operands ≡ d.operands
  pub locals : Agree (is_live rows c.pc) c.locals d.locals

-- stretches end in the same way, and leave such contexts
abbrev pub SameEnding : LiveTable → Ending MachineContext → Ending MachineContext → Type 0
SameEnding t (ends.Over None) (ends.Over None) = Unit {0}
SameEnding t (ends.Over (Some c)) (ends.Over (Some d)) = SameLive t.goes c d
SameEnding t (ends.Call c made) (ends.Call d other) = (made ≡ other) × SameLive t.awaits c d
SameEnding t (ends.End c) (ends.End d) = Unit {0}
SameEnding t (ends.Fault c f) (ends.Fault d g) = f ≡ g
SameEnding t _ _ = ⊥

flip : (a b : Bool) → (a ≡ false → b ≡ false) → b ≡ true → a ≡ true
flip true b h e = refl
flip false b h e = absurd (cc (h refl, e))

and_not : (a b : Bool) → a ≡ true → b ≡ false → (a && not b) ≡ true
and_not a b h k = and_from a (not b) h (not_from_false b k)

-- the same reply, where `outs` says whether the out place is written by every one
abbrev pub replied_so : (outs : Bool) → Option Instruction → List ℤ → Reply → List ℤ
replied_so false call locals reply = replied call locals reply
replied_so true (Some (Call service out result)) locals reply =
    written (written locals out (value_or_zero reply.value)) result
    (result_value reply.code (gives_count service) (value_or_zero reply.value))
replied_so true _ locals reply = locals

abbrev pub deliver_so : (outs : Bool) → List Instruction → MachineContext → Reply → MachineContext
deliver_so outs code context reply =
    record context { locals = replied_so outs (call_before code context.pc) context.locals reply }

-- what bodies mean where every reply writes out places, or E_OK alone
abbrev pub meaning_so : (outs : Bool) → List BodyTables → Meaning MachineContext
meaning_so outs bodies =
    record {
      start = λ body exinf. code_start exinf;
      stretch = λ body bound context. code_stretch (instructions_at bodies body) bound context;
      deliver = λ body context reply. deliver_so outs (instructions_at bodies body) context reply;
    }

and-parts : (a b : Bool) → (a && not b) ≡ true → (a ≡ true) × (b ≡ false)
and-parts true false h = (refl, refl)
and-parts true true h = cc
and-parts false b h = cc

or-neither : (a b : Bool) → a ≡ false → b ≡ false → (a || b) ≡ false
or-neither false b h k = k
or-neither true b h k = cc

-- the local before `=`, if it is one
abbrev is_result : Option Instruction → ℕ → Bool
is_result (Some (Call service out result)) v = is_named result v
is_result _ v = false

not_out : (call : Option Instruction) (u : ℕ) → is_result call u ≡ false → is_replied false call u ≡ false
not_out (Some (Call service out result)) u h = or-neither (is_named result u) (false && is_named out u) h refl
not_out None u h = refl
not_out (Some _) u h = refl

module _ (outs : Bool) (code : List Instruction) (t : LiveTable) (h : IsLiveTable outs code t) where
  abbrev Live : ℕ → List ℤ → List ℤ → Type 0
  Live pc xs ys = Agree (is_live t.goes pc) xs ys

  -- what goes on so from agreeing locals
  abbrev IsSame : Next → Type 0
  IsSame f = (pc : ℕ) (s xs ys : List ℤ) → Live pc xs ys → SameEnding t (f pc s xs) (f pc s ys)

  live_of : (pc v : ℕ) (i : Instruction) → slice_get code pc ≡ Some i → is_needed t pc i v ≡ true
      → is_live t.goes pc v ≡ true
  live_of pc v i e n = flip (is_live t.goes pc v) (is_needed t pc i v) (h.goes pc v i e) n

  -- what is live where an instruction leads and not written by it is live before it
  leads : (pc to : ℕ) (i : Instruction) (xs ys : List ℤ) → slice_get code pc ≡ Some i
      → ((v : ℕ) → is_live t.goes to v ≡ true → is_needed t pc i v ≡ true) → Live pc xs ys → Live to xs ys
  leads pc to i xs ys e n a =
      agree-less (is_live t.goes pc) (is_live t.goes to) xs ys (λ v l. live_of pc v i e (n v l)) a

  gives-same : (f : Next) → IsSame f → (v : Value) (pc : ℕ) (s xs ys : List ℤ) → Live (pc + 1) xs ys
      → SameEnding t (gives v f pc s xs) (gives v f pc s ys)
  gives-same f k (Ok z) pc s xs ys a = k (pc + 1) (z ∷ s) xs ys a
  gives-same f k (Err x) pc s xs ys a = refl

  place-same : (k : Result ℕ Fault) (pc : ℕ) (xs ys : List ℤ) (go other : ℕ → Ending MachineContext)
      → ((i : ℕ) → k ≡ Ok i → SameEnding t (go i) (other i))
      → SameEnding t (on_place k pc xs go) (on_place k pc ys other)
  place-same (Ok i) pc xs ys go other g = g i refl
  place-same (Err x) pc xs ys go other g = refl

  cond-same : (b : Bool) (x y x' y' : Ending MachineContext) → SameEnding t x x' → SameEnding t y y'
      → SameEnding t (if b then x else y) (if b then x' else y')
  cond-same true x y x' y' p q = p
  cond-same false x y x' y' p q = q

  below_of : (b : Bool) (i k : ℕ) (e : Fault) → (b ≡ true → i < k) → (j : ℕ) → (if b then Ok i else Err e) ≡ Ok j
      → j < k
  below_of true i k e g j q = let same : i ≡ j = cc in omega (arith, g refl, same)
  below_of false i k e g j q = cc

  -- a place of an array is one of its own
  place-below : (places : ℕ) (x : ℤ) (k : ℕ) → place_in places x ≡ Ok k → k < places
  place-below places (pos i) k e = below_of (nat_lt i places) i places _ (λ b. ltb-true i places b) k e
  place-below places (negsuc i) k e = cc

  within : (base places k : ℕ) → k < places → is_within base places (base + k) ≡ true
  within base places k lt =
      and_from (nat_le base (base + k)) (nat_lt (base + k) (base + places))
      (le-leb base (base + k) (omega arith)) (lt-ltb (base + k) (base + places) (omega (arith, lt)))

  pushed : (f : Next) → IsSame f → (pc : ℕ) (x y : ℤ) (s xs ys : List ℤ) → x ≡ y → Live pc xs ys
      → SameEnding t (f pc (x ∷ s) xs) (f pc (y ∷ s) ys)
  pushed f k pc x y s xs ys e a =
      subst (λ (z : ℤ). SameEnding t (f pc (x ∷ s) xs) (f pc (z ∷ s) ys)) e (k pc (x ∷ s) xs ys a)

  act-same : (f : Next) → IsSame f → (i : Option Instruction) (pc : ℕ) (s xs ys : List ℤ) → slice_get code pc ≡ i
      → Live pc xs ys → SameEnding t (act i f pc s xs) (act i f pc s ys)
  act-same f k None pc s xs ys e a = tt
  act-same f k (Some (Push x)) pc s xs ys e a =
      k (pc + 1) (x ∷ s) xs ys (leads pc (pc + 1) (Push x) xs ys e (λ v l. l) a)
  act-same f k (Some (Load w)) pc s xs ys e a =
      pushed f k (pc + 1) _ _ s xs ys
      (a.each w (live_of pc w (Load w) e (or_left (nat_eq w w) (is_live t.goes (pc + 1) w) (eq-eqb w w refl))))
      (leads pc (pc + 1) (Load w) xs ys e (λ v l. or_right (nat_eq v w) (is_live t.goes (pc + 1) v) l) a)
  act-same f k (Some (Store w)) pc [] xs ys e a = tt
  act-same f k (Some (Store w)) pc (x ∷ s) xs ys e a =
      k (pc + 1) s (slice_set xs w x) (slice_set ys w x)
      (agree-set (is_live t.goes pc) (is_live t.goes (pc + 1)) xs ys w x
      (λ v l ne. live_of pc v (Store w) e
      (and_from (not (nat_eq v w)) (is_live t.goes (pc + 1) v) (not_from_false (nat_eq v w) (ne_eqb v w ne)) l)) a)
  act-same f k (Some (LoadIndexed base places)) pc [] xs ys e a = tt
  act-same f k (Some (LoadIndexed base places)) pc (i ∷ s) xs ys e a =
      place-same (place_in places i) pc xs ys _ _
      (λ j q.
      pushed f k (pc + 1) _ _ s xs ys
      (a.each (base + j) (live_of pc (base + j) (LoadIndexed base places) e
      (or_left (is_within base places (base + j)) (is_live t.goes (pc + 1) (base + j))
      (within base places j (place-below places i j q)))))
      (leads pc (pc + 1) (LoadIndexed base places) xs ys e
      (λ v l. or_right (is_within base places v) (is_live t.goes (pc + 1) v) l) a))
  act-same f k (Some (StoreIndexed base places)) pc [] xs ys e a = tt
  act-same f k (Some (StoreIndexed base places)) pc (x ∷ []) xs ys e a = tt
  act-same f k (Some (StoreIndexed base places)) pc (x ∷ i ∷ s) xs ys e a =
      place-same (place_in places i) pc xs ys _ _
      (λ j q.
      k (pc + 1) s (slice_set xs (base + j) x) (slice_set ys (base + j) x)
      (agree-set (is_live t.goes pc) (is_live t.goes (pc + 1)) xs ys (base + j) x
      (λ v l ne. live_of pc v (StoreIndexed base places) e l) a))
  act-same f k (Some (Unary op)) pc [] xs ys e a = tt
  act-same f k (Some (Unary op)) pc (x ∷ s) xs ys e a =
      gives-same f k (unary_value op x) pc s xs ys (leads pc (pc + 1) (Unary op) xs ys e (λ v l. l) a)
  act-same f k (Some Truth) pc [] xs ys e a = tt
  act-same f k (Some Truth) pc (x ∷ s) xs ys e a =
      k (pc + 1) (truth_of x ∷ s) xs ys (leads pc (pc + 1) Truth xs ys e (λ v l. l) a)
  act-same f k (Some (Binary op)) pc [] xs ys e a = tt
  act-same f k (Some (Binary op)) pc (y ∷ []) xs ys e a = tt
  act-same f k (Some (Binary op)) pc (y ∷ x ∷ s) xs ys e a =
      gives-same f k (binary_value op x y) pc s xs ys (leads pc (pc + 1) (Binary op) xs ys e (λ v l. l) a)
  act-same f k (Some (Jump to)) pc s xs ys e a = k to s xs ys (leads pc to (Jump to) xs ys e (λ v l. l) a)
  act-same f k (Some (JumpIfZero to)) pc [] xs ys e a = tt
  act-same f k (Some (JumpIfZero to)) pc (x ∷ s) xs ys e a =
      cond-same (is_zero x) _ _ _ _
      (k to s xs ys
      (leads pc to (JumpIfZero to) xs ys e (λ v l. or_left (is_live t.goes to v) (is_live t.goes (pc + 1) v) l) a))
      (k (pc + 1) s xs ys
      (leads pc (pc + 1) (JumpIfZero to) xs ys e
      (λ v l. or_right (is_live t.goes to v) (is_live t.goes (pc + 1) v) l) a))
  act-same f k (Some (Call service out result)) pc s xs ys e a = (
    refl,
    record {
      pc = refl;
      count = refl;
      operands = refl;
      locals = agree-less (is_live t.goes pc) (is_live t.awaits (pc + 1)) xs ys
          (λ v l. live_of pc v (Call service out result) e l) a;
    },
  )
  act-same f k (Some End) pc s xs ys e a = tt

  exec-same : (n : ℕ) → IsSame (exec code n)
  exec-same zero pc s xs ys a = record { pc = refl; count = refl; operands = refl; locals = a }
  exec-same (suc n) pc s xs ys a =
      act-same (exec code n) (exec-same n) (slice_get code pc) pc s xs ys refl a

  -- a stretch ends in the same way from both contexts
  pub stretch-same : (n : ℕ) (c d : MachineContext) → SameLive t.goes c d
      → SameEnding t (code_stretch code n c) (code_stretch code n d)
  stretch-same n c d k =
      let stacks : stack_of c ≡ stack_of d =
      ap (λ (xs : List ℤ). tops xs c.count) k.operands ∙ ap (λ (m : ℕ). tops d.operands m) k.count in
      subst (λ (pc : ℕ). SameEnding t (code_stretch code n c) (exec code n pc (stack_of d) d.locals)) k.pc
      (subst (λ (s : List ℤ). SameEnding t (code_stretch code n c) (exec code n c.pc s d.locals)) stacks
      (exec-same n c.pc (stack_of c) c.locals d.locals k.locals))

  written-same : (live : ℕ → Bool) (xs ys : List ℤ) (place : Option ℕ) (x : ℤ) → Agree live xs ys
      → Agree live (written xs place x) (written ys place x)
  written-same live xs ys None x a = a
  written-same live xs ys (Some w) x a = agree-set live live xs ys w x (λ u l ne. l) a

  out-same : (live : ℕ → Bool) (code' : Er) (xs ys : List ℤ) (place : Option ℕ) (x : ℤ) → Agree live xs ys
      → Agree live (out_written code' xs place x) (out_written code' ys place x)
  out-same live er.Ok xs ys place x a = written-same live xs ys place x a
  out-same live _ xs ys place x a = a

  -- the local before `=` is written by every reply
  result-same : (live after : ℕ → Bool) (xs ys : List ℤ) (place : Option ℕ) (x : ℤ)
      → ((u : ℕ) → after u ≡ true → is_named place u ≡ false → live u ≡ true) → Agree live xs ys
      → Agree after (written xs place x) (written ys place x)
  result-same live after xs ys None x g a = agree-less live after xs ys (λ u l. g u l refl) a
  result-same live after xs ys (Some w) x g a =
      agree-set live after xs ys w x (λ u l ne. g u l (ne_eqb u w ne)) a

  plain-same : (live after : ℕ → Bool) (call : Option Instruction) (xs ys : List ℤ) (reply : Reply)
      → ((u : ℕ) → after u ≡ true → is_result call u ≡ false → live u ≡ true) → Agree live xs ys
      → Agree after (replied call xs reply) (replied call ys reply)
  plain-same live after (Some (Call service out result)) xs ys reply g a =
      result-same live after _ _ result
      (result_value reply.code (gives_count service) (value_or_zero reply.value)) g
      (out-same live reply.code xs ys out (value_or_zero reply.value) a)
  plain-same live after None xs ys reply g a = agree-less live after xs ys (λ u l. g u l refl) a
  plain-same live after (Some _) xs ys reply g a = agree-less live after xs ys (λ u l. g u l refl) a

  written-out-same : (live after : ℕ → Bool) (call : Option Instruction) (xs ys : List ℤ) (reply : Reply)
      → ((u : ℕ) → after u ≡ true → is_replied true call u ≡ false → live u ≡ true) → Agree live xs ys
      → Agree after (replied_so true call xs reply) (replied_so true call ys reply)
  written-out-same live after (Some (Call service out result)) xs ys reply g a =
      let mid : ℕ → Bool = λ u. after u && not (is_named result u) in
      result-same mid after _ _ result (result_value reply.code (gives_count service) (value_or_zero reply.value))
      (λ u l r. and_not (after u) (is_named result u) l r)
      (result-same live mid xs ys out (value_or_zero reply.value)
      (λ u m o. let both = and-parts (after u) (is_named result u) m in
      g u both.0 (or-neither (is_named result u) (true && is_named out u) both.1 o)) a)
  written-out-same live after None xs ys reply g a = agree-less live after xs ys (λ u l. g u l refl) a
  written-out-same live after (Some _) xs ys reply g a = agree-less live after xs ys (λ u l. g u l refl) a

  replied-same : (live after : ℕ → Bool) (call : Option Instruction) (xs ys : List ℤ) (reply : Reply)
      → ((u : ℕ) → after u ≡ true → is_replied outs call u ≡ false → live u ≡ true) → Agree live xs ys
      → Agree after (replied_so outs call xs reply) (replied_so outs call ys reply)
  replied-same live after call xs ys reply g a = by_outs outs g where
    by_outs : (b : Bool) → ((u : ℕ) → after u ≡ true → is_replied b call u ≡ false → live u ≡ true)
        → Agree after (replied_so b call xs reply) (replied_so b call ys reply)
    by_outs false g = plain-same live after call xs ys reply (λ u l r. g u l (not_out call u r)) a
    by_outs true g = written-out-same live after call xs ys reply g a

  -- after a reply to both, their live locals are the same
  pub deliver-same : (c d : MachineContext) (reply : Reply) → SameLive t.awaits c d
      → SameLive t.goes (deliver_so outs code c reply) (deliver_so outs code d reply)
  deliver-same c d reply k =
      record {
        pc = k.pc;
        count = k.count;
        operands = k.operands;
        locals =
            subst (λ (pc : ℕ). Agree (is_live t.goes c.pc) (replied_so outs (call_before code c.pc) c.locals reply)
            (replied_so outs (call_before code pc) d.locals reply)) k.pc
            (replied-same (is_live t.awaits c.pc) (is_live t.goes c.pc) (call_before code c.pc) c.locals d.locals reply
            (λ u l r. flip (is_live t.awaits c.pc u) (is_awaited outs t code c.pc u) (h.awaits c.pc u)
            (and_not (is_live t.goes c.pc u) (is_replied outs (call_before code c.pc) u) l r)) k.locals);
      }
