-- The changes of which calls, the clock and settling are made, and what each of them keeps.
use Rattle.std.proofs.Common.{◌≡◌, ℕ, ◌+◌, ◌≤◌, ◌<◌, ℤ, List, [], ◌∷◌, ◌++◌, Option, Some, None, Bool, true, false}
use Rattle.std.proofs.Common.{◌||◌, refl, sym, ◌∙◌, ap, subst, arith, length, nat_eq, slice_get, slice_set}
use Rattle.std.proofs.Math.ListN.{length-set}
use Rattle.fmp_base.specs.declared.events.Line.{Line}
use Rattle.fmp_base.specs.declared.events.Line.TheVariants as line
use Rattle.fmp_base.specs.declared.states.Caller.TheVariants as caller
use Rattle.fmp_base.specs.declared.states.Phase.{Phase}
use Rattle.fmp_base.specs.declared.states.Processor.{Processor}
use Rattle.fmp_base.specs.declared.states.TaskBlock.{TaskBlock}
use Rattle.fmp_base.specs.DataQueueCalls.{with_words}
use Rattle.fmp_base.specs.FlagCalls.{with_pattern}
use Rattle.fmp_base.specs.MailboxCalls.{with_messages}
use Rattle.fmp_base.specs.ProcessorCalls.{with_due}
use Rattle.fmp_base.specs.SemaphoreCalls.{with_count}
use Rattle.fmp_base.specs.States.{KernelState, Progress, unchanged, task_at, to_end, with_last, with_processor}
use Rattle.fmp_base.specs.States.{with_removed, with_task, without}
use Rattle.fmp_base.specs.Systems.{SystemTables, data_queue_config, found, interrupt_config}
use Rattle.fmp_base.specs.TaskCalls.{is_dormant}
use Rattle.fmp_base.specs.Ticks.{is_pending}
use Rattle.fmp_ring.specs.OrderLaws.{IsOrder-to_end, IsOrder-without}
use Rattle.fmp_ring.specs.Orders.{IsOrder}
use Rattle.fmp_tasks.specs.Homes.{Standing, is_in_order, is_waiting}
use Rattle.fmp_tasks.proofs.StandLemmas.{Standing-last, Standing-left, Standing-stays}
use Rattle.fmp_worlds.proofs.Assigned.{set_at}
use Rattle.fmp_reachable.specs.Numbers.{IsAhead}
use Rattle.fmp_reachable.specs.Sizes.{AreWithinCapacity}
use Rattle.fmp_reachable.proofs.Apart.{AreNew, apart-set}
use Rattle.fmp_reachable.proofs.Capacities.{within-set}
use Rattle.fmp_reachable.specs.Sound.{IsFineBlock, AreFine, AreAllAhead, IsQuiet, sizes, sizes_of, AreApart, IsSteady}

-- whether a line starts task t, or brings it a reply
abbrev pub tells : ℕ → Line → Bool
tells t (line.Starts p u) = nat_eq t u
tells t (line.Gets p u reply) = nat_eq t u
tells t (line.Call p (caller.Task u) c (Some reply)) = nat_eq t u
tells t _ = false

abbrev pub is_told : ℕ → List Line → Bool
is_told t [] = false
is_told t (l ∷ ls) = tells t l || is_told t ls

pub told-append : (t : ℕ) (xs ys : List Line) → is_told t (xs ++ ys) ≡ (is_told t xs || is_told t ys)
told-append t [] ys = refl
told-append t (l ∷ ls) ys = ap (λ (b : Bool). tells t l || b) (told-append t ls ys)
    ∙ grouped (tells t l) (is_told t ls) (is_told t ys) where
      grouped : (a b c : Bool) → (a || (b || c)) ≡ ((a || b) || c)
      grouped true b c = refl
      grouped false b c = refl

-- where a task stands after it has changed: in its place, at the end of the order, or no longer in it
pub data Move : Type 0 where
  InPlace : Move
  ToEnd : Move
  Out : Move

abbrev pub moved : Move → KernelState → ℕ → TaskBlock → KernelState
moved InPlace s t y = with_task s t y
moved ToEnd s t y = with_last s t y
moved Out s t y = with_removed s t y

pub data Change : Type 0 where
  Count : (i n : ℕ) → Change
  Pattern : (f bits : ℕ) → Change
  Words : ℕ → List ℤ → Change
  Word : ℕ → ℤ → Change
  Cpu : ℕ → Processor → Change
  Pends : ℕ → Bool → Change
  Interrupts : ℕ → Bool → Change
  Due : ℕ → Option ℕ → Change
  Messages : ℕ → List ℕ → Change
  Moves : Move → ℕ → TaskBlock → Change
  Says : List Line → Change

abbrev pub changed : Change → Progress → Progress
changed (Count i n) g = record g { state = with_count g.state i n }
changed (Pattern f bits) g = record g { state = with_pattern g.state f bits }
changed (Words d ws) g = record g { state = with_words g.state d ws }
changed (Word i v) g = record g { state = record g.state { shared_words = slice_set g.state.shared_words i v } }
changed (Cpu p cpu) g = record g { state = with_processor g.state p cpu }
changed (Pends c b) g = record g { state = record g.state { pending_cyclics = slice_set g.state.pending_cyclics c b } }
changed (Interrupts i b) g =
    record g { state = record g.state { pending_interrupts = slice_set g.state.pending_interrupts i b } }
changed (Due c d) g = record g { state = with_due g.state c d }
changed (Messages x ms) g = record g { state = with_messages g.state x ms }
changed (Moves m t y) g = record g { state = moved m g.state t y }
changed (Says ls) g = record g { lines = g.lines ++ ls }

-- a task moves as its new block says
abbrev pub IsPlaced : Move → (x y : TaskBlock) → Type 0
IsPlaced InPlace x y = is_in_order y ≡ is_in_order x
IsPlaced ToEnd x y = is_in_order y ≡ true
IsPlaced Out x y = is_in_order y ≡ false

-- a task changes as calls change one: it does not begin to wait
pub record IsMove (s : KernelState) (m : Move) (t : ℕ) (y : TaskBlock) : Type 0 where
  pub there : t < length s.tasks
  pub fine : IsFineBlock (s.clock + 1) y
  pub placed : IsPlaced m (task_at s.tasks t) y
  pub waits : is_waiting y.phase ≡ true → is_waiting (task_at s.tasks t).phase ≡ true

-- what holds where a change is made
abbrev pub IsFair : SystemTables → KernelState → Change → Type 0
IsFair sys s (Words d ws) = length ws ≤ (data_queue_config sys d).capacity
IsFair sys s (Interrupts i b) = interrupt_config sys i ≡ None → b ≡ false
IsFair sys s (Due c d) = IsAhead (s.clock + 1) d
IsFair sys s (Messages x ms) = IsOrder (length sys.messages) ms × AreNew s.mailboxes x ms
IsFair sys s (Moves m t y) = IsMove s m t y
IsFair sys s (Says ls) = (t : ℕ) → is_told t ls ≡ true → is_waiting (task_at s.tasks t).phase ≡ false
IsFair sys s _ = Unit {0}

-- who waits has waited before, and no line has told it anything
pub record Lasts (before tasks : List TaskBlock) (lines : List Line) : Type 0 where
  pub each :
      (t : ℕ) → is_waiting (task_at tasks t).phase ≡ true →
      (is_waiting (task_at before t).phase ≡ true) × (is_told t lines ≡ false)

-- on the way from tasks `before`, at the clock `now`: no time is below the bound
pub record Keeps (sys : SystemTables) (low now : ℕ) (before : List TaskBlock) (g : Progress) : Type 0 where
  pub blocks : AreFine low g.state.tasks g.state.order
  pub cyclics : AreAllAhead low g.state.due_times
  pub messages : AreApart (length sys.messages) g.state.mailboxes
  pub words : AreWithinCapacity sys g.state.data_queues
  pub quiet : IsQuiet sys g.state.pending_interrupts
  pub lasts : Lasts before g.state.tasks g.lines
  pub sizes : sizes g.state ≡ sizes_of sys
  pub clock : g.state.clock ≡ now
  pub early : low ≤ now + 1

ahead-lower : (low high : ℕ) (d : Option ℕ) → low ≤ high → IsAhead high d → IsAhead low d
ahead-lower low high None l h = tt
ahead-lower low high (Some time) l h = omega (arith, l, h)

pub fine-lower : (low high : ℕ) (x : TaskBlock) → low ≤ high → IsFineBlock high x → IsFineBlock low x
fine-lower low high x l h = record { rest = h.rest; calm = h.calm; ahead = ahead-lower low high x.deadline l h.ahead }

set_tasks : (P : TaskBlock → Type 0) (tasks : List TaskBlock) (t : ℕ) (y : TaskBlock) (u : ℕ) → (t ≡ u → P y)
    → P (task_at tasks u)
    → P (task_at (slice_set tasks t y) u)
set_tasks P tasks t y u h k = set_at (task_at [] 0) P tasks t y u h k

-- the blocks after one has changed
pub fine-moved : (low : ℕ) (s : KernelState) (m : Move) (t : ℕ) (y : TaskBlock) → AreFine low s.tasks s.order
    → t < length s.tasks
    → IsFineBlock low y → IsPlaced m (task_at s.tasks t) y → AreFine low (moved m s t y).tasks (moved m s t y).order
fine-moved low s InPlace t y h l f p =
    record {
      each = λ u. set_tasks (IsFineBlock low) s.tasks t y u (λ e. f) (h.each u);
      distinct = subst (λ (n : ℕ). IsOrder n s.order) (sym (length-set s.tasks t y)) h.distinct;
      standing = Standing-stays s.tasks s.order t y h.standing l p;
    }
fine-moved low s ToEnd t y h l f p =
    record {
      each = λ u. set_tasks (IsFineBlock low) s.tasks t y u (λ e. f) (h.each u);
      distinct = subst (λ (n : ℕ). IsOrder n (to_end s.order t)) (sym (length-set s.tasks t y))
          (IsOrder-to_end (length s.tasks) t s.order h.distinct l);
      standing = Standing-last s.tasks s.order t y h.standing l p;
    }
fine-moved low s Out t y h l f p =
    record {
      each = λ u. set_tasks (IsFineBlock low) s.tasks t y u (λ e. f) (h.each u);
      distinct = subst (λ (n : ℕ). IsOrder n (without s.order t)) (sym (length-set s.tasks t y))
          (IsOrder-without (length s.tasks) t s.order h.distinct);
      standing = Standing-left s.tasks s.order t y h.standing l p;
    }

sizes-changed : (g : Progress) (c : Change) → sizes (changed c g).state ≡ sizes g.state
sizes-changed g (Count i n) = rw (length-set g.state.semaphores i n) refl
sizes-changed g (Pattern f bits) = rw (length-set g.state.flags f bits) refl
sizes-changed g (Words d ws) = rw (length-set g.state.data_queues d ws) refl
sizes-changed g (Word i v) = rw (length-set g.state.shared_words i v) refl
sizes-changed g (Cpu p cpu) = rw (length-set g.state.processors p cpu) refl
sizes-changed g (Pends c b) = rw (length-set g.state.pending_cyclics c b) refl
sizes-changed g (Interrupts i b) = rw (length-set g.state.pending_interrupts i b) refl
sizes-changed g (Due c d) = rw (length-set g.state.due_times c d) refl
sizes-changed g (Messages x ms) = rw (length-set g.state.mailboxes x ms) refl
sizes-changed g (Moves InPlace t y) = rw (length-set g.state.tasks t y) refl
sizes-changed g (Moves ToEnd t y) = rw (length-set g.state.tasks t y) refl
sizes-changed g (Moves Out t y) = rw (length-set g.state.tasks t y) refl
sizes-changed g (Says ls) = refl

module _ (sys : SystemTables) (low now : ℕ) (before : List TaskBlock) where
  low_is : (g : Progress) → Keeps sys low now before g → low ≤ g.state.clock + 1
  low_is g k = let e = k.clock in let l = k.early in omega (arith, e, l)

  blocks-changed : (g : Progress) (c : Change) → low ≤ g.state.clock + 1 → AreFine low g.state.tasks g.state.order
      → IsFair sys g.state c
      → AreFine low (changed c g).state.tasks (changed c g).state.order
  blocks-changed g (Moves m t y) l h k =
      fine-moved low g.state m t y h k.there (fine-lower low (g.state.clock + 1) y l k.fine) k.placed
  blocks-changed g c l h k = h

  cyclics-changed : (g : Progress) (c : Change) → low ≤ g.state.clock + 1 → AreAllAhead low g.state.due_times
      → IsFair sys g.state c
      → AreAllAhead low (changed c g).state.due_times
  cyclics-changed g (Due c d) l h k =
      record {
        each = λ e. set_at None (IsAhead low) g.state.due_times c d e (λ same. ahead-lower low
            (g.state.clock + 1) d l k) (h.each e);
      }
  cyclics-changed g (Moves InPlace t y) l h k = h
  cyclics-changed g (Moves ToEnd t y) l h k = h
  cyclics-changed g (Moves Out t y) l h k = h
  cyclics-changed g c l h k = h

  messages-changed : (g : Progress) (c : Change) → AreApart (length sys.messages) g.state.mailboxes
      → IsFair sys g.state c
      → AreApart (length sys.messages) (changed c g).state.mailboxes
  messages-changed g (Messages x ms) h k = apart-set (length sys.messages) g.state.mailboxes x ms h k.0 k.1
  messages-changed g (Moves InPlace t y) h k = h
  messages-changed g (Moves ToEnd t y) h k = h
  messages-changed g (Moves Out t y) h k = h
  messages-changed g c h k = h

  words-changed : (g : Progress) (c : Change) → AreWithinCapacity sys g.state.data_queues → IsFair sys g.state c
      → AreWithinCapacity sys (changed c g).state.data_queues
  words-changed g (Words d ws) h k = within-set sys g.state.data_queues d ws h k
  words-changed g (Moves InPlace t y) h k = h
  words-changed g (Moves ToEnd t y) h k = h
  words-changed g (Moves Out t y) h k = h
  words-changed g c h k = h

  quiet-changed : (g : Progress) (c : Change) → IsQuiet sys g.state.pending_interrupts → IsFair sys g.state c
      → IsQuiet sys (changed c g).state.pending_interrupts
  quiet-changed g (Interrupts i b) h k =
      record {
        each = λ j e. set_at false (λ z. z ≡ false) g.state.pending_interrupts i b j
            (λ same. k (ap (λ (v : ℕ). interrupt_config sys v) same ∙ e)) (h.each j e);
      }
  quiet-changed g (Moves InPlace t y) h k = h
  quiet-changed g (Moves ToEnd t y) h k = h
  quiet-changed g (Moves Out t y) h k = h
  quiet-changed g c h k = h

  lasts-set : (tasks : List TaskBlock) (lines : List Line) (t : ℕ) (y : TaskBlock)
      → (is_waiting y.phase ≡ true → is_waiting (task_at tasks t).phase ≡ true) → Lasts before tasks lines
      → Lasts before (slice_set tasks t y) lines
  lasts-set tasks lines t y k h =
      record {
        each = λ u. set_tasks (λ z. is_waiting z.phase ≡ true → (is_waiting (task_at before u).phase ≡ true)
            × (is_told u lines ≡ false))
            tasks t y u (λ same w. subst (λ (v : ℕ). (is_waiting (task_at before v).phase ≡ true)
            × (is_told v lines ≡ false)) same (h.each t (k w)))
            (h.each u);
      }

  lasts-said : (tasks : List TaskBlock) (lines ls : List Line)
      → ((t : ℕ) → is_told t ls ≡ true → is_waiting (task_at tasks t).phase ≡ false) → Lasts before tasks lines
      → Lasts before tasks (lines ++ ls)
  lasts-said tasks lines ls k h =
      record {
        each = λ t w. let before_it = h.each t w in (
          before_it.0,
          told-append t lines ls
              ∙ by_test t (is_told t lines) (is_told t ls) w before_it.1 (k t),
        );
      } where
        by_test : (t : ℕ) (a b : Bool) → is_waiting (task_at tasks t).phase ≡ true → a ≡ false
            → (b ≡ true → is_waiting (task_at tasks t).phase ≡ false) → (a || b) ≡ false
        by_test t true b w e n = e
        by_test t false false w e n = refl
        by_test t false true w e n = sym w ∙ n refl

  lasts-changed : (g : Progress) (c : Change) → Lasts before g.state.tasks g.lines → IsFair sys g.state c
      → Lasts before (changed c g).state.tasks (changed c g).lines
  lasts-changed g (Moves InPlace t y) h k = lasts-set g.state.tasks g.lines t y k.waits h
  lasts-changed g (Moves ToEnd t y) h k = lasts-set g.state.tasks g.lines t y k.waits h
  lasts-changed g (Moves Out t y) h k = lasts-set g.state.tasks g.lines t y k.waits h
  lasts-changed g (Says ls) h k = lasts-said g.state.tasks g.lines ls k h
  lasts-changed g c h k = h

  clock-changed : (g : Progress) (c : Change) → (changed c g).state.clock ≡ g.state.clock
  clock-changed g (Moves InPlace t y) = refl
  clock-changed g (Moves ToEnd t y) = refl
  clock-changed g (Moves Out t y) = refl
  clock-changed g c = refl

  pub keeps-changed : (g : Progress) (c : Change) → Keeps sys low now before g → IsFair sys g.state c
      → Keeps sys low now before (changed c g)
  keeps-changed g c h k =
      let l = low_is g h in
      record {
        blocks = blocks-changed g c l h.blocks k;
        cyclics = cyclics-changed g c l h.cyclics k;
        messages = messages-changed g c h.messages k;
        words = words-changed g c h.words k;
        quiet = quiet-changed g c h.quiet k;
        lasts = lasts-changed g c h.lasts k;
        sizes = sizes-changed g c ∙ h.sizes;
        clock = clock-changed g c ∙ h.clock;
        early = h.early;
      }

pub keeps-start : (sys : SystemTables) (s : KernelState) → IsSteady sys s
    → Keeps sys (s.clock + 1) s.clock s.tasks (unchanged s)
keeps-start sys s h =
    record {
      blocks = h.blocks;
      cyclics = h.cyclics;
      messages = h.messages;
      words = h.words;
      quiet = h.quiet;
      lasts = record { each = λ t w. (w, refl) };
      sizes = h.sizes;
      clock = refl;
      early = omega arith;
    }

pub keeps-end : (sys : SystemTables) (now : ℕ) (before : List TaskBlock) (g : Progress)
    → Keeps sys (now + 1) now before g
    → IsSteady sys g.state
keeps-end sys now before g k =
    record {
      blocks = subst (λ (n : ℕ). AreFine (n + 1) g.state.tasks g.state.order) (sym k.clock) k.blocks;
      cyclics = subst (λ (n : ℕ). AreAllAhead (n + 1) g.state.due_times) (sym k.clock) k.cyclics;
      messages = k.messages;
      words = k.words;
      quiet = k.quiet;
      sizes = k.sizes;
    }

-- lines in front, of which none tells who waits
pub keeps-own : (sys : SystemTables) (low now : ℕ) (before : List TaskBlock) (own : List Line) (g : Progress)
    → Keeps sys low now before g → ((t : ℕ) → is_waiting (task_at before t).phase ≡ true → is_told t own ≡ false)
    → Keeps sys low now before (record g { lines = own ++ g.lines })
keeps-own sys low now before own g k f =
    record {
      blocks = k.blocks;
      cyclics = k.cyclics;
      messages = k.messages;
      words = k.words;
      quiet = k.quiet;
      lasts = record {
        each = λ t w. let l = k.lasts.each t w in
            (l.0, told-append t own g.lines ∙ ap (λ (b : Bool). b || is_told t g.lines) (f t l.0) ∙ l.1);
      };
      sizes = k.sizes;
      clock = k.clock;
      early = k.early;
    }

-- a task that waits has gone to the end
pub steady-waits : (sys : SystemTables) (s : KernelState) (t : ℕ) (y : TaskBlock) → IsSteady sys s → t < length s.tasks
    → IsFineBlock (s.clock + 1) y → is_in_order y ≡ true → IsSteady sys (with_last s t y)
steady-waits sys s t y h l f p =
    record {
      blocks = fine-moved (s.clock + 1) s ToEnd t y h.blocks l f p;
      cyclics = h.cyclics;
      messages = h.messages;
      words = h.words;
      quiet = h.quiet;
      sizes = sizes-changed (unchanged s) (Moves ToEnd t y) ∙ h.sizes;
    }
