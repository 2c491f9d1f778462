-- The service calls on semaphores, shared words and eventflags come to the same in alike states.
use Rattle.std.proofs.Common.{◌+◌, ℕ, zero, suc, ℤ, pos, List, [], ◌∷◌, Option, Some, None, Bool, true, false, ◌&&◌}
use Rattle.std.proofs.Common.{not, refl, subst, length, nat_lt, slice_set, get_or}
use Rattle.fmp_base.specs.declared.codes.Er.TheVariants as er
use Rattle.fmp_base.specs.declared.states.FlagMode.{FlagMode}
use Rattle.fmp_base.specs.declared.states.TaskBlock.{TaskBlock}
use Rattle.fmp_base.specs.declared.states.TimeLimit.{TimeLimit}
use Rattle.fmp_base.specs.declared.states.WaitCause.TheVariants as cause
use Rattle.fmp_base.specs.declared.states.WaitQueue.TheVariants as queue
use Rattle.fmp_base.specs.Changes.{released}
use Rattle.fmp_base.specs.FlagCalls.{with_pattern, pattern_at, satisfies, is_satisfied, walked, walk, bits_set, set_flg}
use Rattle.fmp_base.specs.FlagCalls.{clr_flg, mode_of, is_empty, obtained, awaited_by, awaited, flag_tested, wai_flg}
use Rattle.fmp_base.specs.FlagCalls.{twai_flg}
use Rattle.fmp_base.specs.Outcomes.{CallOutcome, code, given, succeeds_in, limit_of, numbered, ranged, refused_if}
use Rattle.fmp_base.specs.Queues.{first_waiting, wait_queue}
use Rattle.fmp_base.specs.SemaphoreCalls.{with_count, signalled_to, signalled, sig_sem, acquired_by, wai_sem, twai_sem}
use Rattle.fmp_base.specs.SemaphoreCalls.{ld_shr, st_shr}
use Rattle.fmp_base.specs.States.{KernelState, Progress, unchanged, task_at}
use Rattle.fmp_base.specs.Systems.{SystemTables, semaphore_config, flag_config}
use Rattle.fmp_bisimulation.specs.Alike.{AlikeStates, SameProgress, SameOutcome}
use Rattle.fmp_bisimulation.proofs.ChangeLaws.{unchanged-same, released-same, released_at-same}
use Rattle.fmp_bisimulation.proofs.OutcomeLaws.{succeeds-same, succeeds_in-same, gives-same, either-same, refused-same}
use Rattle.fmp_bisimulation.proofs.OutcomeLaws.{tested-same, refused_if-same, waits_within-same}
use Rattle.fmp_bisimulation.proofs.ReadLaws.{wait_queue-same, first_waiting-same}
use Rattle.fmp_bisimulation.proofs.StateLaws.{View, seen, alike-changed}
use Rattle.fmp_bisimulation.proofs.TimeLaws.{by_block, blocks-at}

walked-same : (sys : SystemTables) (satisfied clears : Bool) (f : ℕ) (g i after later : Progress)
    (rest : Progress → Progress)
    → SameProgress sys g i → SameProgress sys after later
    → ((g i : Progress) → SameProgress sys g i → SameProgress sys (rest g) (rest i))
    → SameProgress sys (walked satisfied clears f g after rest) (walked satisfied clears f i later rest)
walked-same sys false clears f g i after later rest h k go = go g i h
walked-same sys true false f g i after later rest h k go = go after later k
walked-same sys true true f g i after later rest h k go =
    record {
      state = alike-changed sys (λ z. with_pattern z f 0) (λ z. refl) (λ z. refl) after.state later.state k.state;
      lines = k.lines;
    }

walk-same : (sys : SystemTables) (clears : Bool) (f bits : ℕ) (ts : List ℕ) (g i : Progress) → SameProgress sys g i
    → SameProgress sys (walk clears f bits ts g) (walk clears f bits ts i)
walk-same sys clears f bits [] g i h = h
walk-same sys clears f bits (t ∷ ts) g i h =
    let a = h.state in
    let x = task_at g.state.tasks t in
    let r = given (pos bits) in
    by_block (λ (y : TaskBlock). SameProgress sys
    (walked (is_satisfied x.phase bits) clears f g (released g t x r) (λ z. walk clears f bits ts z))
    (walked (is_satisfied y.phase bits) clears f i (released i t y r) (λ z. walk clears f bits ts z)))
    g.state.clock i.state.clock x (task_at i.state.tasks t)
    (blocks-at g.state.clock i.state.clock g.state.tasks i.state.tasks a.tasks t)
    (λ d k. walked-same sys (is_satisfied x.phase bits) clears f g i _ _ _ h (released-same sys g i t x d r h)
    (λ p q l. walk-same sys clears f bits ts p q l))

module _ (sys : SystemTables) (s : KernelState) (v : View) (h : AlikeStates sys s (seen s v)) where
  -- the count of a semaphore changes
  counted-same : (i n : ℕ) → SameOutcome sys (succeeds_in (with_count s i n)) (succeeds_in (with_count (seen s v) i n))
  counted-same i n =
      succeeds_in-same sys _ _ (alike-changed sys (λ z. with_count z i n) (λ z. refl) (λ z. refl) s (seen s v) h)

  signalled_to-same : (o : Option ℕ) (i n : ℕ) → SameOutcome sys (signalled_to o sys s i n)
      (signalled_to o sys (seen s v) i n)
  signalled_to-same (Some t) i n =
      succeeds-same sys _ _
      (released_at-same sys (unchanged s) (unchanged (seen s v)) t (code er.Ok) (unchanged-same sys s (seen s v) h))
  signalled_to-same None i n =
      either-same sys (nat_lt n (semaphore_config sys i).most) _ _ _ _ (counted-same i (n + 1))
      (refused-same sys s (seen s v) h er.Qovr)

  signalled-same : (i : ℕ) → SameOutcome sys (signalled sys s i) (signalled sys (seen s v) i)
  signalled-same i =
      subst (λ (o : Option ℕ). SameOutcome sys (signalled sys s i) (signalled_to o sys (seen s v) i
      (get_or s.semaphores i 0)))
      (first_waiting-same sys s (seen s v) (queue.Semaphore i) h)
      (signalled_to-same (first_waiting sys s (queue.Semaphore i)) i (get_or s.semaphores i 0))

  pub sig_sem-same : (i : ℤ) → SameOutcome sys (sig_sem sys s i) (sig_sem sys (seen s v) i)
  sig_sem-same i =
      tested-same sys s (seen s v) h er.Id (numbered (length s.semaphores) i) (signalled sys s)
      (signalled sys (seen s v))
      (λ n. signalled-same n)

  acquired_by-same : (n me : ℕ) (x : TaskBlock) (d : Option ℕ) (m : TimeLimit) (i : ℕ)
      → SameOutcome sys (acquired_by n s me x m i) (acquired_by n (seen s v) me (record x { deadline = d }) m i)
  acquired_by-same zero me x d m i = waits_within-same sys s (seen s v) h m me x d (cause.Semaphore i)
  acquired_by-same (suc n) me x d m i = counted-same i n

  pub wai_sem-same : (me : ℕ) (x : TaskBlock) (d : Option ℕ) (m : TimeLimit) (i : ℤ)
      → SameOutcome sys (wai_sem s me x m i) (wai_sem (seen s v) me (record x { deadline = d }) m i)
  wai_sem-same me x d m i =
      tested-same sys s (seen s v) h er.Id (numbered (length s.semaphores) i) _ _
      (λ n. acquired_by-same (get_or s.semaphores n 0) me x d m n)

  pub twai_sem-same : (me : ℕ) (x : TaskBlock) (d : Option ℕ) (i tmout : ℤ)
      → SameOutcome sys (twai_sem s me x i tmout) (twai_sem (seen s v) me (record x { deadline = d }) i tmout)
  twai_sem-same me x d i tmout =
      tested-same sys s (seen s v) h er.Id (numbered (length s.semaphores) i) _ _
      (λ n. tested-same sys s (seen s v) h er.Par (limit_of tmout) _ _
      (λ m. acquired_by-same (get_or s.semaphores n 0) me x d m n))

  pub ld_shr-same : (w : ℤ) → SameOutcome sys (ld_shr s w) (ld_shr (seen s v) w)
  ld_shr-same w =
      tested-same sys s (seen s v) h er.Id (numbered (length s.shared_words) w) _ _
      (λ n. gives-same sys (get_or s.shared_words n (pos 0)) _ _ (unchanged-same sys s (seen s v) h))

  pub st_shr-same : (w value : ℤ) → SameOutcome sys (st_shr s w value) (st_shr (seen s v) w value)
  st_shr-same w value =
      tested-same sys s (seen s v) h er.Id (numbered (length s.shared_words) w) _ _
      (λ n. succeeds_in-same sys _ _
      (alike-changed sys (λ z. record z { shared_words = slice_set z.shared_words n value }) (λ z. refl) (λ z. refl) s
      (seen s v) h))

  pattern-same : (f bits : ℕ) → AlikeStates sys (with_pattern s f bits) (with_pattern (seen s v) f bits)
  pattern-same f bits = alike-changed sys (λ z. with_pattern z f bits) (λ z. refl) (λ z. refl) s (seen s v) h

  bits_set-same : (f bits : ℕ) → SameProgress sys (bits_set sys s f bits) (bits_set sys (seen s v) f bits)
  bits_set-same f bits =
      subst (λ (ts : List ℕ). SameProgress sys (bits_set sys s f bits)
      (walk (flag_config sys f).clears f bits ts (unchanged (with_pattern (seen s v) f bits))))
      (wait_queue-same sys s (seen s v) (queue.Flag f) h)
      (walk-same sys (flag_config sys f).clears f bits (wait_queue sys s (queue.Flag f)) _ _
      (unchanged-same sys _ _ (pattern-same f bits)))

  pub set_flg-same : (f b : ℤ) → SameOutcome sys (set_flg sys s f b) (set_flg sys (seen s v) f b)
  set_flg-same f b =
      tested-same sys s (seen s v) h er.Id (numbered (length s.flags) f) _ _
      (λ i. tested-same sys s (seen s v) h er.Par (ranged 0 65535 b) _ _
      (λ bits. succeeds-same sys _ _ (bits_set-same i _)))

  pub clr_flg-same : (f b : ℤ) → SameOutcome sys (clr_flg s f b) (clr_flg (seen s v) f b)
  clr_flg-same f b =
      tested-same sys s (seen s v) h er.Id (numbered (length s.flags) f) _ _
      (λ i. tested-same sys s (seen s v) h er.Par (ranged 0 65535 b) _ _
      (λ bits. succeeds_in-same sys _ _ (pattern-same i _)))

  obtained-same : (b : Bool) (f : ℕ) → SameOutcome sys (obtained b s f) (obtained b (seen s v) f)
  obtained-same true f = gives-same sys (pos (pattern_at s f)) _ _ (unchanged-same sys _ _ (pattern-same f 0))
  obtained-same false f = gives-same sys (pos (pattern_at s f)) _ _ (unchanged-same sys s (seen s v) h)

  awaited_by-same : (b : Bool) (me : ℕ) (x : TaskBlock) (d : Option ℕ) (m : TimeLimit) (f pattern : ℕ) (mode : FlagMode)
      → SameOutcome sys (awaited_by b sys s me x m f pattern mode)
      (awaited_by b sys (seen s v) me (record x { deadline = d }) m f pattern mode)
  awaited_by-same true me x d m f pattern mode = obtained-same (flag_config sys f).clears f
  awaited_by-same false me x d m f pattern mode = waits_within-same sys s (seen s v) h m me x d
      (cause.Flag f pattern mode)

  awaited-same : (me : ℕ) (x : TaskBlock) (d : Option ℕ) (f pattern : ℕ) (mode : FlagMode) (m : TimeLimit)
      → SameOutcome sys (awaited sys s me x f pattern mode m) (awaited sys (seen s v) me
      (record x { deadline = d }) f pattern mode m)
  awaited-same me x d f pattern mode m =
      let y = record x { deadline = d } in
      let multiple = (flag_config sys f).multiple in
      let rest = awaited_by (satisfies mode pattern (pattern_at s f)) sys (seen s v) me y m f pattern mode in
      subst (λ (ts : List ℕ). SameOutcome sys (awaited sys s me x f pattern mode m)
      (refused_if (not multiple && not (is_empty ts)) (seen s v) er.Iluse rest))
      (wait_queue-same sys s (seen s v) (queue.Flag f) h)
      (refused_if-same sys s (seen s v) h (not multiple && not (is_empty (wait_queue sys s (queue.Flag f)))) er.Iluse
      _ rest
      (awaited_by-same (satisfies mode pattern (pattern_at s f)) me x d m f pattern mode))

  flag_tested-same : (f b o : ℤ) (go then : ℕ → ℕ → FlagMode → CallOutcome)
      → ((i bits : ℕ) (mode : FlagMode) → SameOutcome sys (go i bits mode) (then i bits mode))
      → SameOutcome sys (flag_tested s f b o go) (flag_tested (seen s v) f b o then)
  flag_tested-same f b o go then k =
      tested-same sys s (seen s v) h er.Id (numbered (length s.flags) f) _ _
      (λ i. tested-same sys s (seen s v) h er.Par (ranged 1 65535 b) _ _
      (λ bits. tested-same sys s (seen s v) h er.Par (mode_of o) (go i bits) (then i bits) (λ mode. k i bits mode)))

  pub wai_flg-same : (me : ℕ) (x : TaskBlock) (d : Option ℕ) (m : TimeLimit) (f b o : ℤ)
      → SameOutcome sys (wai_flg sys s me x m f b o) (wai_flg sys (seen s v) me (record x { deadline = d }) m f b o)
  wai_flg-same me x d m f b o = flag_tested-same f b o _ _ (λ i bits mode. awaited-same me x d i bits mode m)

  pub twai_flg-same : (me : ℕ) (x : TaskBlock) (d : Option ℕ) (f b o tmout : ℤ)
      → SameOutcome sys (twai_flg sys s me x f b o tmout) (twai_flg sys (seen s v) me
      (record x { deadline = d }) f b o tmout)
  twai_flg-same me x d f b o tmout =
      flag_tested-same f b o _ _
      (λ i bits mode. tested-same sys s (seen s v) h er.Par (limit_of tmout) _ _
      (λ m. awaited-same me x d i bits mode m))
