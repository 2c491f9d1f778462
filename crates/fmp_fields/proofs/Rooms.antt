-- The room of several bodies.
use Rattle.std.proofs.Common.{◌≡◌, ℕ, ◌+◌, ◌≤◌, List, [], ◌∷◌, Option, Some, None, Bool, true, false, refl, suc, sym}
use Rattle.std.proofs.Common.{ap, ◌∙◌, subst, arith}
use Rattle.std.specs.Prelude.{if◌then◌else◌, length, nat_eq, slice_get}
use Rattle.std.proofs.lemmas.Bool.Decides.{nat_tests}
use Rattle.std.proofs.lemmas.Option.{slice_get_within}
use Rattle.fmp_base.specs.declared.bodies.HandlerStart.{HandlerStart}
use Rattle.fmp_base.specs.declared.states.Handler.{Handler}
use Rattle.fmp_base.specs.declared.states.Handler.TheVariants as handler
use Rattle.fmp_base.specs.declared.systems.CyclicConfig.{CyclicConfig}
use Rattle.fmp_base.specs.declared.systems.InterruptConfig.{InterruptConfig}
use Rattle.fmp_base.specs.Meanings.{cyclic_start, handler_start, interrupt_start}
use Rattle.fmp_base.specs.Settles.{cycles_on, interrupts_on, is_defined_on}
use Rattle.fmp_base.specs.Systems.{SystemTables, body_of, defined_for, interrupt_config}
use Rattle.fmp_fields.specs.declared.room.Room.{Room}
use Rattle.fmp_fields.specs.Listing.{HasHandlerRoom, HasRoom}
use Rattle.fmp_instructions.specs.Instructions.{BodyTables}
use Rattle.fmp_reachable.specs.Rooms.{is_handler_of}
use Rattle.fmp_fields.proofs.Places.{EachBefore}

-- what has room has it in a room that is no smaller
pub room-kept : (bodies : List BodyTables) (body : ℕ) (a b : Room) → a.locals ≤ b.locals → a.operands ≤ b.operands
    → HasRoom bodies body a → HasRoom bodies body b
room-kept bodies body a b l o h =
    record {
      locals = omega (arith, l, h.locals);
      operands = λ place depth e. let below = h.operands place depth e in omega (arith, o, below);
    }

same-number : (m n : ℕ) → nat_eq m n ≡ true → m ≡ n
same-number m n e = grind (arith, nat_tests)

-- the handler that is defined for a number is one of the handlers, and has this number
pub defined-at : (n : ℕ) (xs : List InterruptConfig) (x : InterruptConfig) → defined_for n xs ≡ Some x
    → (k : ℕ) × (slice_get xs k ≡ Some x) × (x.number ≡ n)
defined-at n [] x e = absurd (cc e)
defined-at n (y ∷ xs) x e = by_test (nat_eq y.number n) refl e (λ s. defined-at n xs x s) where
  by_test : (t : Bool) → nat_eq y.number n ≡ t → (if t then Some y else defined_for n xs) ≡ Some x
      → (defined_for n xs ≡ Some x → (k : ℕ) × (slice_get xs k ≡ Some x) × (x.number ≡ n))
      → (k : ℕ) × (slice_get (y ∷ xs) k ≡ Some x) × (x.number ≡ n)
  by_test true q s rest =
      let same : y ≡ x = cc s in
      (0, s, sym (ap (λ (z : InterruptConfig). z.number) same) ∙ same-number y.number n q)
  by_test false q s rest = let there = rest s in (suc there.0, there.1, there.2)

abbrev body-in : Option HandlerStart → ℕ
body-in None = 0
body-in (Some start) = start.body

module _ (sys : SystemTables) (bodies : List BodyTables) (p : ℕ) (room : Room) where
  pub cyclics-room :
      EachBefore (λ (h : CyclicConfig). h.processor ≡ p → HasRoom bodies (body_of h.entry) room) sys.cyclics
      (length sys.cyclics)
      → (c : ℕ) (start : HandlerStart) → cycles_on sys p c ≡ true → cyclic_start (slice_get sys.cyclics c) ≡ Some start
      → HasRoom bodies start.body room
  cyclics-room each c start own starts = by_config (slice_get sys.cyclics c) refl starts where
    by_config : (o : Option CyclicConfig) → slice_get sys.cyclics c ≡ o → cyclic_start o ≡ Some start
        → HasRoom bodies start.body room
    by_config None e s = absurd (cc s)
    by_config (Some x) e s =
        let on = rw e at own in
        let body : body_of x.entry ≡ start.body = ap body-in s in
        subst (λ (n : ℕ). HasRoom bodies n room) body
        (each c x (slice_get_within sys.cyclics c x e) e (same-number x.processor p on))

  pub interrupts-room :
      EachBefore (λ (h : InterruptConfig). h.processor ≡ p → HasRoom bodies (body_of h.entry) room) sys.interrupts
      (length sys.interrupts)
      → (i : ℕ) (start : HandlerStart) → interrupts_on sys p i ≡ true
      → interrupt_start (interrupt_config sys i) ≡ Some start → HasRoom bodies start.body room
  interrupts-room each i start own starts = by_config (interrupt_config sys i) refl own starts where
    by_config : (o : Option InterruptConfig) → interrupt_config sys i ≡ o → is_defined_on p o ≡ true
        → interrupt_start o ≡ Some start → HasRoom bodies start.body room
    by_config None e own s = absurd (cc s)
    by_config (Some x) e own s =
        let at = defined-at (i + 1) sys.interrupts x e in
        let body : body_of x.entry ≡ start.body = ap body-in s in
        subst (λ (n : ℕ). HasRoom bodies n room) body
        (each at.0 x (slice_get_within sys.interrupts at.0 x at.1) at.1 (same-number x.processor p own))

  -- a room for the cyclic handlers and for the interrupt handlers is one for both
  pub handlers-room :
      ((c : ℕ) (start : HandlerStart) → cycles_on sys p c ≡ true → handler_start sys (handler.Cyclic c) ≡ Some start
      → HasRoom bodies start.body room)
      → ((i : ℕ) (start : HandlerStart) → interrupts_on sys p i ≡ true
      → handler_start sys (handler.Interrupt i) ≡ Some start → HasRoom bodies start.body room)
      → HasHandlerRoom sys bodies p room
  handlers-room cyclic interrupt start is = by_handler is.handler is.own is.starts where
    by_handler : (h : Handler) → is_handler_of sys p h ≡ true → handler_start sys h ≡ Some start
        → HasRoom bodies start.body room
    by_handler (handler.Interrupt i) own s = interrupt i start own s
    by_handler (handler.Cyclic c) own s = cyclic c start own s
