-- An image of version 1 or 2 queues one activation and one wakeup, and its code calls none but the first 58 services.
use Rattle.std.proofs.Common.{◌≡◌, ℕ, zero, suc, ◌≤◌, ◌<◌, ℤ, nat_le, Bool, true, false, if◌then◌else◌, List, [], ◌∷◌}
use Rattle.std.proofs.Common.{Option, Some, None, Result, Ok, Err, refl, sym, ap, subst, ◌∙◌, arith}
use Rattle.std.proofs.Math.Path.{fun_ext}
use Rattle.std.specs.Prelude.{slice_get, IfSome}
use Rattle.std.specs.List.{AllByRecursion}
use Rattle.std.proofs.lemmas.Bool.{leb-true}
use Rattle.fmp_base.specs.declared.bodies.Fault.{Fault}
use Rattle.fmp_base.specs.declared.services.Service.{Service}
use Rattle.fmp_base.specs.declared.services.Service.TheVariants.{MrotRdq}
use Rattle.fmp_base.specs.Meanings.{Meaning}
use Rattle.fmp_base.specs.Operators.{Value, is_zero, place_in, truth_of, unary_value, binary_value}
use Rattle.fmp_base.specs.Services.{service_number}
use Rattle.fmp_base.specs.Stretches.{Ending}
use Rattle.fmp_base.specs.Systems.{SystemTables}
use Rattle.fmp_instructions.specs.declared.instructions.Instruction.{Instruction}
use Rattle.fmp_instructions.specs.declared.instructions.Instruction.TheVariants.{Push, Load, Store, LoadIndexed}
use Rattle.fmp_instructions.specs.declared.instructions.Instruction.TheVariants.{StoreIndexed, Unary, Truth, Binary}
use Rattle.fmp_instructions.specs.declared.instructions.Instruction.TheVariants.{Jump, JumpIfZero, Call, End}
use Rattle.fmp_instructions.specs.declared.instructions.MachineContext.{MachineContext}
use Rattle.fmp_instructions.specs.Instructions.{BodyTables, instructions_at, found_instructions}
use Rattle.fmp_instructions.specs.Machine.{Next, act, exec, gives, on_place, stack_of, unstacked, code_stretch}
use Rattle.fmp_instructions.specs.Machine.{code_meaning}
use Rattle.fmp_instructions.proofs.Requests.{service_of-request}
use Rattle.fmp_image_bytes.specs.declared.heads.BodyHead.{BodyHead}
use Rattle.fmp_image_bytes.specs.Bodies.{IsBody}
use Rattle.fmp_image_bytes.specs.Pairs.{AllPairs}
use Rattle.fmp_image_bytes.specs.Versions.{has, has_service, queue_limit_of}
use Rattle.fmp_image_bytes.specs.Images.{ImageTables, IsImage}
use Rattle.fmp_image_bytes.specs.OlderImages.{first_calls, with_first_services, with_queue_limit, AreTheSame}
use Rattle.fmp_image_bytes.specs.OlderImages.{MeansTheSame}

-- ---- services

is_new : (version : ℕ) → version ≤ 2 → nat_le 3 version ≡ true → ⊥
is_new version old h = let at_least = leb-true 3 version h in absurd (omega arith)

module _ (version : ℕ) (old : version ≤ 2) where
  among_first : (s : Service) → has_service version s ≡ true → nat_le (service_number s) 58 ≡ true
  among_first MrotRdq h = absurd (is_new version old h)
  among_first _ h = refl

-- ---- stretches

abbrev Same : Ending MachineContext → Type 0
Same e = first_calls 58 e ≡ e

module _ (next : Next) (same : (pc : ℕ) (stack locals : List ℤ) → Same (next pc stack locals)) where
  given : (v : Value) (pc : ℕ) (stack locals : List ℤ) → Same (gives v next pc stack locals)
  given (Ok z) pc stack locals = same _ _ _
  given (Err f) pc stack locals = refl

  placed : (r : Result ℕ Fault) (pc : ℕ) (locals : List ℤ) (go : ℕ → Ending MachineContext) → ((k : ℕ) → Same (go k))
      → Same (on_place r pc locals go)
  placed (Ok k) pc locals go h = h k
  placed (Err f) pc locals go h = refl

  chosen : (b : Bool) (x y : Ending MachineContext) → Same x → Same y → Same (if b then x else y)
  chosen true x y h k = h
  chosen false x y h k = k

  acted : (version : ℕ) → version ≤ 2 → (o : Option Instruction) → IfSome o (λ i. has version i ≡ true)
      → (pc : ℕ) (stack locals : List ℤ)
      → Same (act o next pc stack locals)
  acted version old None h pc stack locals = refl
  acted version old (Some (Push k)) h pc stack locals = same _ _ _
  acted version old (Some (Load v)) h pc stack locals = same _ _ _
  acted version old (Some (Store v)) h pc [] locals = refl
  acted version old (Some (Store v)) h pc (x ∷ rest) locals = same _ _ _
  acted version old (Some (LoadIndexed base places)) h pc [] locals = refl
  acted version old (Some (LoadIndexed base places)) h pc (i ∷ rest) locals = placed (place_in places i) pc locals _
      (λ k. same _ _ _)
  acted version old (Some (StoreIndexed base places)) h pc [] locals = refl
  acted version old (Some (StoreIndexed base places)) h pc (i ∷ []) locals = refl
  acted version old (Some (StoreIndexed base places)) h pc (x ∷ (i ∷ rest)) locals = placed
      (place_in places i) pc locals _ (λ k. same _ _ _)
  acted version old (Some (Unary op)) h pc [] locals = refl
  acted version old (Some (Unary op)) h pc (x ∷ rest) locals = given (unary_value op x) pc rest locals
  acted version old (Some Truth) h pc [] locals = refl
  acted version old (Some Truth) h pc (x ∷ rest) locals = same _ _ _
  acted version old (Some (Binary op)) h pc [] locals = refl
  acted version old (Some (Binary op)) h pc (y ∷ []) locals = refl
  acted version old (Some (Binary op)) h pc (y ∷ (x ∷ rest)) locals = given (binary_value op x y) pc rest locals
  acted version old (Some (Jump a)) h pc stack locals = same _ _ _
  acted version old (Some (JumpIfZero a)) h pc [] locals = refl
  acted version old (Some (JumpIfZero a)) h pc (x ∷ rest) locals = chosen (is_zero x) _ _ (same _ _ _) (same _ _ _)
  acted version old (Some (Call service out result)) h pc stack locals =
      rw (service_of-request service (unstacked stack []), among_first version old service h) refl
  acted version old (Some End) h pc stack locals = refl

-- the instruction at a place, if there is one, is one of the version
known_at : (version : ℕ) (code : List Instruction) → AllByRecursion (λ i. has version i ≡ true) code → (place : ℕ)
    → IfSome (slice_get code place) (λ i. has version i ≡ true)
known_at version [] h place = tt
known_at version (i ∷ code) h zero = h.0
known_at version (i ∷ code) h (suc place) = known_at version code h.1 place

executed : (version : ℕ) → version ≤ 2 → (code : List Instruction) → AllByRecursion (λ i. has version i ≡ true) code
    → (n pc : ℕ) (stack locals : List ℤ) → Same (exec code n pc stack locals)
executed version old code h zero pc stack locals = refl
executed version old code h (suc n) pc stack locals =
    acted (exec code n) (executed version old code h n) version old (slice_get code pc)
    (known_at version code h pc) pc stack locals

-- ---- bodies

known_body : (version : ℕ) (heads : List BodyHead) (code : List BodyTables) → AllPairs (IsBody version) heads code
    → (body : ℕ)
    → AllByRecursion (λ i. has version i ≡ true) (instructions_at code body)
known_body version heads [] h body = (refl, tt)
known_body version [] (b ∷ code) h body = absurd h
known_body version (x ∷ heads) (b ∷ code) h zero = h.0.known
known_body version (x ∷ heads) (b ∷ code) h (suc body) = known_body version heads code h.1 body

same_meaning : (i : ImageTables) → IsImage i → i.version ≤ 2 → with_first_services 58 (code_meaning i.code)
    ≡ code_meaning i.code
same_meaning i h old =
    let M = code_meaning i.code in
    ap (λ (s : ℕ → ℕ → MachineContext → Ending MachineContext). record M { stretch = s })
    (fun_ext (λ body. fun_ext (λ bound. fun_ext (λ context.
    executed i.version old (instructions_at i.code body) (known_body i.version i.heads i.code h.bodies body) bound
    context.pc (stack_of context) context.locals))))

-- ---- the queue limit

old_limit : (version : ℕ) → version ≤ 2 → queue_limit_of version ≡ 1
old_limit version old = chosen_limit (nat_le 3 version) refl where
  chosen_limit : (b : Bool) → nat_le 3 version ≡ b → ◌≡◌ {A = ℕ} (if b then 255 else 1) 1
  chosen_limit true e = absurd (is_new version old e)
  chosen_limit false e = refl

same_system : (sys : SystemTables) → sys.queue_limit ≡ 1 → with_queue_limit 1 sys ≡ sys
same_system sys h = ap (λ (q : ℕ). with_queue_limit q sys) (sym h)

pub older_means_the_same : (i : ImageTables) → IsImage i → i.version ≤ 2 → MeansTheSame i
older_means_the_same i h old =
    let systems = same_system i.system (h.queue_limit ∙ old_limit i.version old) in
    let meanings = same_meaning i h old in
    rw (systems, meanings) (record { setup = refl; step = λ n w e. refl; run = λ n w es. refl; text = λ n es. refl })
