-- Numbers tell what they are of.
use Rattle.std.proofs.Common.{◌≡◌, ◌≤◌, ◌<◌, ℕ, zero, suc, ℤ, pos, negsuc, List, [], ◌∷◌, Option, Some, None, Bool}
use Rattle.std.proofs.Common.{true, false, refl, sym, ap, length, slice_get, arith}
use Rattle.fmp_base.specs.declared.states.FlagMode.TheVariants as modes
use Rattle.fmp_base.specs.declared.states.Handler.{Handler}
use Rattle.fmp_base.specs.declared.states.Handler.TheVariants as handler
use Rattle.fmp_base.specs.declared.states.Lock.{Lock}
use Rattle.fmp_base.specs.declared.states.Lock.TheVariants.{Free, Cpu, Spin}
use Rattle.fmp_base.specs.declared.states.Phase.{Phase}
use Rattle.fmp_base.specs.declared.states.Phase.TheVariants.{Dormant, Ready, Waiting}
use Rattle.fmp_base.specs.declared.states.Processor.{Processor}
use Rattle.fmp_base.specs.declared.states.TaskBlock.{TaskBlock}
use Rattle.fmp_base.specs.declared.states.WaitCause.{WaitCause}
use Rattle.fmp_base.specs.declared.states.WaitCause.TheVariants as cause
use Rattle.fmp_base.specs.States.{idle, task_at}
use Rattle.fmp_base.specs.Systems.{found}
use Rattle.fmp_bisimulation.specs.Alike.{SameBlock, SameBlocks, SameTime, SameTimes}
use Rattle.fmp_reachable.specs.Numbers.{IsAhead, SameProcessorNumbers, SameTaskNumbers, bit, cause_object, cause_value}
use Rattle.fmp_reachable.specs.Numbers.{cyclic_of, interrupt_of, lock_number, phase_kind, place, ticks_to, unsigned}
use Rattle.fmp_reachable.specs.Numbers.{wait_kind, wait_object, wait_value}

apart : (n : ℕ) → zero ≡ suc n → ⊥
apart n e = cc

pub place-told : (a b : Option ℕ) → place a ≡ place b → a ≡ b
place-told None None e = refl
place-told (Some a) (Some b) e = let same : a ≡ b = cc in ap (λ (n : ℕ). Some n) same
place-told None (Some b) e = absurd (apart b e)
place-told (Some a) None e = absurd (apart a (sym e))

pub bit-told : (a b : Bool) → bit a ≡ bit b → a ≡ b
bit-told true true e = refl
bit-told false false e = refl
bit-told true false e = absurd (omega arith)
bit-told false true e = absurd (omega arith)

pub unsigned-told : (a b : ℤ) → unsigned a ≡ unsigned b → a ≡ b
unsigned-told (pos a) (pos b) e = let same : a ≡ b = omega arith in ap (λ (n : ℕ). pos n) same
unsigned-told (negsuc a) (negsuc b) e = let same : a ≡ b = omega arith in ap (λ (n : ℕ). negsuc n) same
unsigned-told (pos a) (negsuc b) e = absurd (omega arith)
unsigned-told (negsuc a) (pos b) e = absurd (omega arith)

-- times that are not before two clocks, as many ticks ahead
pub ticks-told : (a b : ℕ) (x y : Option ℕ) → IsAhead a x → IsAhead b y → ticks_to a x ≡ ticks_to b y → SameTime a b x y
ticks-told a b None None h k e = tt
ticks-told a b (Some x) (Some y) h k e = omega arith
ticks-told a b None (Some y) h k e = absurd (omega arith)
ticks-told a b (Some x) None h k e = absurd (omega arith)

some-told : (a b : ℕ) → place (Some a) ≡ place (Some b) → a ≡ b
some-told a b e = cc

cause-told : (c d : WaitCause) → wait_kind c ≡ wait_kind d → place (cause_object c) ≡ place (cause_object d)
    → cause_value c ≡ cause_value d
    → c ≡ d
cause-told cause.Sleep cause.Sleep k o w = refl
cause-told cause.Delay cause.Delay k o w = refl
cause-told (cause.Semaphore a) (cause.Semaphore b) k o w = ap (λ (n : ℕ). cause.Semaphore n) (some-told a b o)
cause-told (cause.Flag a m modes.And) (cause.Flag b n modes.And) k o w = let same : a ≡ b = some-told a b o in cc
cause-told (cause.Flag a m modes.Or) (cause.Flag b n modes.Or) k o w = let same : a ≡ b = some-told a b o in cc
cause-told (cause.Sending a v) (cause.Sending b w) k o e =
    let same : a ≡ b = some-told a b o in let word : v ≡ w = unsigned-told v w e in cc
cause-told (cause.Receiving a) (cause.Receiving b) k o w = ap (λ (n : ℕ). cause.Receiving n) (some-told a b o)
cause-told (cause.Mailbox a) (cause.Mailbox b) k o w = ap (λ (n : ℕ). cause.Mailbox n) (some-told a b o)
cause-told c (cause.Flag b n modes.And) k o w = absurd (omega arith)
cause-told c (cause.Flag b n modes.Or) k o w = absurd (omega arith)
cause-told (cause.Flag a m modes.And) d k o w = absurd (omega arith)
cause-told (cause.Flag a m modes.Or) d k o w = absurd (omega arith)
cause-told c d k o w = absurd (omega arith)

wait-kind : (c : WaitCause) → 2 ≤ wait_kind c
wait-kind cause.Sleep = omega arith
wait-kind cause.Delay = omega arith
wait-kind (cause.Semaphore s) = omega arith
wait-kind (cause.Flag f pattern modes.And) = omega arith
wait-kind (cause.Flag f pattern modes.Or) = omega arith
wait-kind (cause.Sending d word) = omega arith
wait-kind (cause.Receiving d) = omega arith
wait-kind (cause.Mailbox x) = omega arith

phase-told : (p r : Phase) → phase_kind p ≡ phase_kind r → place (wait_object p) ≡ place (wait_object r)
    → wait_value p ≡ wait_value r → p ≡ r
phase-told Dormant Dormant k o w = refl
phase-told Ready Ready k o w = refl
phase-told (Waiting c) (Waiting d) k o w = ap (λ (x : WaitCause). Waiting x) (cause-told c d k o w)
phase-told Dormant Ready k o w = absurd (omega arith)
phase-told Ready Dormant k o w = absurd (omega arith)
phase-told Dormant (Waiting d) k o w = let n : 2 ≤ wait_kind d = wait-kind d in absurd (omega arith)
phase-told Ready (Waiting d) k o w = let n : 2 ≤ wait_kind d = wait-kind d in absurd (omega arith)
phase-told (Waiting c) Dormant k o w = let n : 2 ≤ wait_kind c = wait-kind c in absurd (omega arith)
phase-told (Waiting c) Ready k o w = let n : 2 ≤ wait_kind c = wait-kind c in absurd (omega arith)

pub block-told : (a b : ℕ) (x y : TaskBlock) → IsAhead a x.deadline → IsAhead b y.deadline → SameTaskNumbers a b x y
    → SameBlock a b x y
block-told a b x y h k n =
    let phase : x.phase ≡ y.phase = phase-told x.phase y.phase n.phase n.object n.wanted in
    let suspended : x.suspended ≡ y.suspended = bit-told x.suspended y.suspended n.suspended in
    let next : x.next_processor ≡ y.next_processor = place-told x.next_processor y.next_processor n.next_processor in
    record {
      rest = λ i. record {
        phase = phase i;
        suspended = suspended i;
        priority = n.priority i;
        processor = n.processor i;
        activations = n.activations i;
        next_processor = next i;
        wakeups = n.wakeups i;
        deadline = None;
      };
      deadline = ticks-told a b x.deadline y.deadline h k n.ticks_left;
    }

lock-told : (a b : Lock) → lock_number a ≡ lock_number b → a ≡ b
lock-told Free Free e = refl
lock-told Cpu Cpu e = refl
lock-told (Spin a) (Spin b) e = let same : a ≡ b = cc in ap (λ (n : ℕ). Spin n) same
lock-told Free Cpu e = absurd (omega arith)
lock-told Cpu Free e = absurd (omega arith)
lock-told Free (Spin b) e = absurd (omega arith)
lock-told (Spin a) Free e = absurd (omega arith)
lock-told Cpu (Spin b) e = absurd (omega arith)
lock-told (Spin a) Cpu e = absurd (omega arith)

handler-told : (a b : Option Handler) → place (interrupt_of a) ≡ place (interrupt_of b) → place (cyclic_of a)
    ≡ place (cyclic_of b) → a ≡ b
handler-told None None i c = refl
handler-told (Some (handler.Interrupt a)) (Some (handler.Interrupt b)) i c =
    ap (λ (n : ℕ). Some (handler.Interrupt n)) (some-told a b i)
handler-told (Some (handler.Cyclic a)) (Some (handler.Cyclic b)) i c = ap (λ (n : ℕ). Some (handler.Cyclic n))
    (some-told a b c)
handler-told None (Some (handler.Interrupt b)) i c = absurd (apart b i)
handler-told None (Some (handler.Cyclic b)) i c = absurd (apart b c)
handler-told (Some (handler.Interrupt a)) None i c = absurd (apart a (sym i))
handler-told (Some (handler.Cyclic a)) None i c = absurd (apart a (sym c))
handler-told (Some (handler.Interrupt a)) (Some (handler.Cyclic b)) i c = absurd (apart a (sym i))
handler-told (Some (handler.Cyclic a)) (Some (handler.Interrupt b)) i c = absurd (apart b i)

processor-told : (x y : Processor) → SameProcessorNumbers x y → x ≡ y
processor-told x y n =
    let run : x.run ≡ y.run = place-told x.run y.run n.runs in
    let lock : x.lock ≡ y.lock = lock-told x.lock y.lock n.lock in
    let held : x.dispatch_disabled ≡ y.dispatch_disabled = bit-told x.dispatch_disabled y.dispatch_disabled
    n.dispatch_disabled in
    let h : x.handler ≡ y.handler = handler-told x.handler y.handler n.interrupt_handler n.cyclic_handler in
    λ i. record { run = run i; lock = lock i; dispatch_disabled = held i; handler = h i }

pub blocks-told : (a b : ℕ) (xs ys : List TaskBlock) → length xs ≡ length ys
    → ((t : ℕ) → t < length xs → IsAhead a (task_at xs t).deadline)
    → ((t : ℕ) → t < length ys → IsAhead b (task_at ys t).deadline)
    → ((t : ℕ) → t < length xs → SameTaskNumbers a b (task_at xs t) (task_at ys t)) → SameBlocks a b xs ys
blocks-told a b [] [] e h k n = tt
blocks-told a b [] (y ∷ ys) e h k n = absurd (omega arith)
blocks-told a b (x ∷ xs) [] e h k n = absurd (omega arith)
blocks-told a b (x ∷ xs) (y ∷ ys) e h k n = (
  block-told a b x y (h zero (omega arith)) (k zero (omega arith)) (n zero (omega arith)),
  blocks-told a b xs ys (omega arith) (λ t l. h (suc t) (omega arith)) (λ t l. k (suc t) (omega arith))
      (λ t l. n (suc t) (omega arith)),
)

pub processors-told : (xs ys : List Processor) → length xs ≡ length ys
    → ((p : ℕ) → p < length xs → SameProcessorNumbers (found idle (slice_get xs p)) (found idle (slice_get ys p)))
    → xs ≡ ys
processors-told [] [] e n = refl
processors-told [] (y ∷ ys) e n = absurd (omega arith)
processors-told (x ∷ xs) [] e n = absurd (omega arith)
processors-told (x ∷ xs) (y ∷ ys) e n =
    let first : x ≡ y = processor-told x y (n zero (omega arith)) in
    let rest : xs ≡ ys = processors-told xs ys (omega arith) (λ p l. n (suc p) (omega arith)) in cc

pub times-told : (a b : ℕ) (xs ys : List (Option ℕ)) → length xs ≡ length ys
    → ((c : ℕ) → c < length xs → IsAhead a (found None (slice_get xs c)))
    → ((c : ℕ) → c < length ys → IsAhead b (found None (slice_get ys c)))
    → ((c : ℕ) → c < length xs → ticks_to a (found None (slice_get xs c)) ≡ ticks_to b (found None (slice_get ys c)))
    → SameTimes a b xs ys
times-told a b [] [] e h k n = tt
times-told a b [] (y ∷ ys) e h k n = absurd (omega arith)
times-told a b (x ∷ xs) [] e h k n = absurd (omega arith)
times-told a b (x ∷ xs) (y ∷ ys) e h k n = (
  ticks-told a b x y (h zero (omega arith)) (k zero (omega arith)) (n zero (omega arith)),
  times-told a b xs ys (omega arith) (λ c l. h (suc c) (omega arith)) (λ c l. k (suc c) (omega arith))
      (λ c l. n (suc c) (omega arith)),
)
