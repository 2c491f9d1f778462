-- The calls on semaphores, eventflags and shared words have the effect that every call has.
use Rattle.std.proofs.Common.{ℕ, zero, suc, ℤ, pos, List, [], ◌∷◌, Option, Some, None, Bool, true, false, ◌&&◌, not}
use Rattle.std.proofs.Common.{length, nat_lt, get_or, bit_or, refl, ◌∙◌}
use Rattle.std.specs.List.{AllByRecursion}
use Rattle.fmp_base.specs.declared.events.Line.{Line}
use Rattle.fmp_base.specs.declared.codes.Er.TheVariants as er
use Rattle.fmp_base.specs.declared.states.FlagMode.{FlagMode}
use Rattle.fmp_base.specs.declared.states.TimeLimit.{TimeLimit}
use Rattle.fmp_base.specs.declared.states.WaitCause.TheVariants as cause
use Rattle.fmp_base.specs.declared.states.WaitQueue.TheVariants as queue
use Rattle.fmp_base.specs.FlagCalls as flags
use Rattle.fmp_base.specs.FlagCalls.{walk, walked, is_satisfied, satisfies, mode_of, pattern_at, is_empty, bits_set}
use Rattle.fmp_base.specs.FlagCalls.{with_pattern}
use Rattle.fmp_base.specs.Outcomes.{CallOutcome, code, given, limit_of, numbered, ranged}
use Rattle.fmp_base.specs.Queues.{first_waiting, wait_queue}
use Rattle.fmp_base.specs.SemaphoreCalls as semaphores
use Rattle.fmp_base.specs.States.{KernelState, Progress, unchanged, task_at}
use Rattle.fmp_base.specs.Systems.{SystemTables, semaphore_config, flag_config}
use Rattle.fmp_worlds.proofs.Assigned.{Holds}
use Rattle.fmp_worlds.proofs.Changes.{SameActors, holds-released, actors-released}
use Rattle.fmp_worlds.proofs.Lines.{IsOwn, all-snoc}
use Rattle.fmp_worlds.proofs.Told.{Woken, still, woken-released}
use Rattle.fmp_worlds.proofs.Outcomes.{Keeps, MayWait, Within, within, keeps-refused, keeps-succeeds, keeps-succeeds_in}
use Rattle.fmp_worlds.proofs.Outcomes.{keeps-gives, keeps-within, keeps-tested, keeps-refused_if, keeps-if}

holds-walked : (satisfied clears : Bool) (f : ℕ) (g after : Progress) (rest : Progress → Progress) → Holds g.state
    → Holds after.state → ((h : Progress) → Holds h.state → Holds (rest h).state)
    → Holds (walked satisfied clears f g after rest).state
holds-walked false clears f g after rest a b c = c g a
holds-walked true false f g after rest a b c = c after b
holds-walked true true f g after rest a b c = b

holds-walk : (clears : Bool) (f bits : ℕ) (ts : List ℕ) (g : Progress) → Holds g.state
    → Holds (walk clears f bits ts g).state
holds-walk clears f bits [] g a = a
holds-walk clears f bits (t ∷ ts) g a =
    let x = task_at g.state.tasks t in
    holds-walked (is_satisfied x.phase bits) clears f g _ _ a (holds-released g t (given (pos bits)) a)
    (λ h b. holds-walk clears f bits ts h b)

actors-walked : (satisfied clears : Bool) (f : ℕ) (g after : Progress) (rest : Progress → Progress)
    → SameActors g.state after.state → ((h : Progress) → SameActors h.state (rest h).state)
    → SameActors g.state (walked satisfied clears f g after rest).state
actors-walked false clears f g after rest b c q = c g q
actors-walked true false f g after rest b c q = c after q ∙ b q
actors-walked true true f g after rest b c q = b q

actors-walk : (clears : Bool) (f bits : ℕ) (ts : List ℕ) (g : Progress)
    → SameActors g.state (walk clears f bits ts g).state
actors-walk clears f bits [] g q = refl
actors-walk clears f bits (t ∷ ts) g q =
    let x = task_at g.state.tasks t in
    actors-walked (is_satisfied x.phase bits) clears f g _ _ (actors-released g t (given (pos bits)))
    (λ h. actors-walk clears f bits ts h) q

lines-walked : (P : Line → Type 0) (satisfied clears : Bool) (f : ℕ) (g after : Progress) (rest : Progress → Progress)
    → AllByRecursion P g.lines → AllByRecursion P after.lines
    → ((h : Progress) → AllByRecursion P h.lines → AllByRecursion P (rest h).lines)
    → AllByRecursion P (walked satisfied clears f g after rest).lines
lines-walked P false clears f g after rest a b c = c g a
lines-walked P true false f g after rest a b c = c after b
lines-walked P true true f g after rest a b c = b

lines-walk : (s : KernelState) (own : ℕ) (clears : Bool) (f bits : ℕ) (ts : List ℕ) (g : Progress)
    → AllByRecursion (IsOwn s own) g.lines → AllByRecursion (IsOwn s own) (walk clears f bits ts g).lines
lines-walk s own clears f bits [] g a = a
lines-walk s own clears f bits (t ∷ ts) g a =
    let x = task_at g.state.tasks t in
    lines-walked (IsOwn s own) (is_satisfied x.phase bits) clears f g _ _ a (all-snoc (IsOwn s own) g.lines _ a tt)
    (λ h b. lines-walk s own clears f bits ts h b)

holds-bits_set : (sys : SystemTables) (s : KernelState) (f bits : ℕ) → Holds s → Holds (bits_set sys s f bits).state
holds-bits_set sys s f bits a =
    holds-walk (flag_config sys f).clears f bits (wait_queue sys s (queue.Flag f)) (unchanged (with_pattern s f bits)) a

woken-walked : (s : KernelState) (satisfied clears : Bool) (f : ℕ) (g after : Progress) (rest : Progress → Progress)
    → Woken s g → Woken s after
    → ((h : Progress) → Woken s h → Woken s (rest h)) → Woken s (walked satisfied clears f g after rest)
woken-walked s false clears f g after rest a b c = c g a
woken-walked s true false f g after rest a b c = c after b
woken-walked s true true f g after rest a b c = record { each = λ t r. b.each t r }

woken-walk : (s : KernelState) (clears : Bool) (f bits : ℕ) (ts : List ℕ) (g : Progress) → Woken s g
    → Woken s (walk clears f bits ts g)
woken-walk s clears f bits [] g w = w
woken-walk s clears f bits (t ∷ ts) g w =
    let x = task_at g.state.tasks t in
    woken-walked s (is_satisfied x.phase bits) clears f g _ _ w (woken-released s g t x (given (pos bits)) w)
    (λ h b. woken-walk s clears f bits ts h b)

module _ {K : Type 0} {own : ℕ} {who : Option ℕ} (sys : SystemTables) (s : KernelState) where
  signalled_to : (o : Option ℕ) (i count : ℕ) → Keeps K own who sys s (semaphores.signalled_to o sys s i count)
  signalled_to (Some t) i count = keeps-succeeds sys s _ (λ k a. holds-released (unchanged s) t (code er.Ok) a)
      (actors-released (unchanged s) t (code er.Ok)) (λ k a. (tt, tt)) (woken-released s (unchanged s) t
      (task_at s.tasks t) _ (still (λ t r. r)))
  signalled_to None i count =
      keeps-if sys s (nat_lt count (semaphore_config sys i).most) _ _ (keeps-succeeds_in sys s _ (λ a. a) (λ q. refl)
      (λ t r. r)) (keeps-refused sys s er.Qovr)

  pub keeps-sig_sem : (i : ℤ) → Keeps K own who sys s (semaphores.sig_sem sys s i)
  keeps-sig_sem i =
      keeps-tested sys s er.Id (numbered (length s.semaphores) i) _ (λ n. signalled_to
      (first_waiting sys s (queue.Semaphore n)) n (get_or s.semaphores n 0))

  acquired_by : (count me : ℕ) (limit : TimeLimit) (i : ℕ) → Within limit (MayWait K own who sys s me)
      → Keeps K own who sys s (semaphores.acquired_by count s me (task_at s.tasks me) limit i)
  acquired_by zero me limit i w = keeps-within sys s limit me (cause.Semaphore i) w
  acquired_by (suc n) me limit i w = keeps-succeeds_in sys s _ (λ a. a) (λ q. refl) (λ t r. r)

  pub keeps-wai_sem : (me : ℕ) (limit : TimeLimit) (i : ℤ) → Within limit (MayWait K own who sys s me)
      → Keeps K own who sys s (semaphores.wai_sem s me (task_at s.tasks me) limit i)
  keeps-wai_sem me limit i w =
      keeps-tested sys s er.Id (numbered (length s.semaphores) i) _ (λ n. acquired_by
      (get_or s.semaphores n 0) me limit n w)

  pub keeps-twai_sem : (me : ℕ) (i tmout : ℤ) → MayWait K own who sys s me
      → Keeps K own who sys s (semaphores.twai_sem s me (task_at s.tasks me) i tmout)
  keeps-twai_sem me i tmout w =
      keeps-tested sys s er.Id (numbered (length s.semaphores) i) _ (λ n. keeps-tested sys s er.Par (limit_of tmout) _
      (λ limit. acquired_by (get_or s.semaphores n 0) me limit n (within limit w)))

  pub keeps-ld_shr : (w : ℤ) → Keeps K own who sys s (semaphores.ld_shr s w)
  keeps-ld_shr w = keeps-tested sys s er.Id (numbered (length s.shared_words) w) _
      (λ n. keeps-gives sys s _ _ (λ a. a) (λ q. refl) tt (still (λ t r. r)))

  pub keeps-st_shr : (w v : ℤ) → Keeps K own who sys s (semaphores.st_shr s w v)
  keeps-st_shr w v =
      keeps-tested sys s er.Id (numbered (length s.shared_words) w) _ (λ n. keeps-succeeds_in sys s _ (λ a. a)
      (λ q. refl) (λ t r. r))

  pub keeps-set_flg : (f b : ℤ) → Keeps K own who sys s (flags.set_flg sys s f b)
  keeps-set_flg f b =
      keeps-tested sys s er.Id (numbered (length s.flags) f) _
      (λ i. keeps-tested sys s er.Par (ranged 0 65535 b) _
      (λ bits. keeps-succeeds sys s _ (λ k a. holds-bits_set sys s i (bit_or (pattern_at s i) bits) a)
      (λ q. actors-walk (flag_config sys i).clears i _ (wait_queue sys s (queue.Flag i))
      (unchanged (with_pattern s i _)) q)
      (λ k a. lines-walk s own (flag_config sys i).clears i _ (wait_queue sys s (queue.Flag i))
      (unchanged (with_pattern s i _)) tt)
      (woken-walk s (flag_config sys i).clears i _ (wait_queue sys s (queue.Flag i)) (unchanged (with_pattern s i _))
      (still (λ t r. r)))))

  pub keeps-clr_flg : (f b : ℤ) → Keeps K own who sys s (flags.clr_flg s f b)
  keeps-clr_flg f b =
      keeps-tested sys s er.Id (numbered (length s.flags) f) _ (λ i. keeps-tested sys s er.Par (ranged 0 65535 b) _
      (λ bits. keeps-succeeds_in sys s _ (λ a. a) (λ q. refl) (λ t r. r)))

  obtained : (clears : Bool) (f : ℕ) → Keeps K own who sys s (flags.obtained clears s f)
  obtained true f = keeps-gives sys s _ _ (λ a. a) (λ q. refl) tt (still (λ t r. r))
  obtained false f = keeps-gives sys s _ _ (λ a. a) (λ q. refl) tt (still (λ t r. r))

  awaited_by : (b : Bool) (me : ℕ) (limit : TimeLimit) (f pattern : ℕ) (m : FlagMode)
      → Within limit (MayWait K own who sys s me)
      → Keeps K own who sys s (flags.awaited_by b sys s me (task_at s.tasks me) limit f pattern m)
  awaited_by true me limit f pattern m w = obtained (flag_config sys f).clears f
  awaited_by false me limit f pattern m w = keeps-within sys s limit me (cause.Flag f pattern m) w

  awaited : (me f pattern : ℕ) (m : FlagMode) (limit : TimeLimit) → Within limit (MayWait K own who sys s me)
      → Keeps K own who sys s (flags.awaited sys s me (task_at s.tasks me) f pattern m limit)
  awaited me f pattern m limit w =
      keeps-refused_if sys s (not (flag_config sys f).multiple && not (is_empty (wait_queue sys s (queue.Flag f))))
      er.Iluse _
      (λ e. awaited_by (satisfies m pattern (pattern_at s f)) me limit f pattern m w)

  flag_tested : (f b o : ℤ) (go : ℕ → ℕ → FlagMode → CallOutcome)
      → ((i bits : ℕ) (m : FlagMode) → Keeps K own who sys s (go i bits m))
      → Keeps K own who sys s (flags.flag_tested s f b o go)
  flag_tested f b o go h =
      keeps-tested sys s er.Id (numbered (length s.flags) f) _ (λ i. keeps-tested sys s er.Par (ranged 1 65535 b) _
      (λ bits. keeps-tested sys s er.Par (mode_of o) _ (λ m. h i bits m)))

  pub keeps-wai_flg : (me : ℕ) (limit : TimeLimit) (f b o : ℤ) → Within limit (MayWait K own who sys s me)
      → Keeps K own who sys s (flags.wai_flg sys s me (task_at s.tasks me) limit f b o)
  keeps-wai_flg me limit f b o w = flag_tested f b o _ (λ i bits m. awaited me i bits m limit w)

  pub keeps-twai_flg : (me : ℕ) (f b o tmout : ℤ) → MayWait K own who sys s me
      → Keeps K own who sys s (flags.twai_flg sys s me (task_at s.tasks me) f b o tmout)
  keeps-twai_flg me f b o tmout w =
      flag_tested f b o _ (λ i bits m. keeps-tested sys s er.Par (limit_of tmout) _
      (λ limit. awaited me i bits m limit (within limit w)))
