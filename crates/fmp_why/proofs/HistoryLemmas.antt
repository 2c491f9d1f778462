-- The tables of a history are what a trace has told, line by line.
use Rattle.std.proofs.Common.{◌≡◌, refl, sym, ap, ◌∙◌, ℕ, suc, zero, ◌+◌, ◌<◌, ◌≤◌, List, [], ◌∷◌, ◌++◌, Option, Some}
use Rattle.std.proofs.Common.{None, Bool, true, false, ◌&&◌, if◌then◌else◌, nat_eq, nat_lt, length, replicate, get_or}
use Rattle.std.proofs.Common.{arith, slice_set, append-nil}
use Rattle.std.specs.Prelude.{slice_get}
use Rattle.std.specs.Option.{option_map}
use Rattle.std.proofs.lemmas.Bool.Decides.{nat_tests}
use Rattle.fmp_base.specs.declared.calls.Call.{Call}
use Rattle.fmp_base.specs.declared.catalogue.ObjectKind.{ObjectKind}
use Rattle.fmp_base.specs.declared.catalogue.ObjectKind.TheVariants as kind
use Rattle.fmp_base.specs.declared.events.Line.{Line}
use Rattle.fmp_base.specs.declared.events.Line.TheVariants as line
use Rattle.fmp_base.specs.declared.states.Caller.{Caller}
use Rattle.fmp_base.specs.declared.systems.SemaphoreConfig.{SemaphoreConfig}
use Rattle.fmp_base.specs.Systems.{SystemTables}
use Rattle.fmp_why.specs.declared.history.ObjectAct.{ObjectAct}
use Rattle.fmp_why.specs.declared.history.TaskPart.{TaskPart}
use Rattle.fmp_why.specs.declared.history.ObjectTrail.{ObjectTrail}
use Rattle.fmp_why.specs.Histories.{Told, act_of, after_act, after_deed, after_done, count_of, done_in, holder_of}
use Rattle.fmp_why.specs.Histories.{holders_from, is_done, is_on, is_same_kind, nothing, part_in, part_of, part_told}
use Rattle.fmp_why.specs.Histories.{released_with, told_with, trail_of, trail_told, waits_from, waits_of}
use Rattle.fmp_why.specs.HistoryTables.{IsTold, Tables, act_noted, changed_at, deed_noted, done_noted, holders_in}
use Rattle.fmp_why.specs.HistoryTables.{line_noted, lines_noted, part_noted, trails_in}
use Rattle.fmp_why.specs.Obstacles.{is_task}

lt-zero : (i : ℕ) → nat_lt i 0 ≡ false
lt-zero i = grind (arith, nat_tests)

zero-lt : (n : ℕ) → nat_lt 0 (suc n) ≡ true
zero-lt n = grind (arith, nat_tests)

lt-suc : (i n : ℕ) → nat_lt (suc i) (suc n) ≡ nat_lt i n
lt-suc i n = grind (arith, nat_tests)

eq-zero-suc : (i : ℕ) → nat_eq 0 (suc i) ≡ false
eq-zero-suc i = grind (arith, nat_tests)

eq-suc-zero : (i : ℕ) → nat_eq (suc i) 0 ≡ false
eq-suc-zero i = grind (arith, nat_tests)

eq-suc : (i j : ℕ) → nat_eq (suc i) (suc j) ≡ nat_eq i j
eq-suc i j = grind (arith, nat_tests)

none-either : {A : Type 0} (b : Bool) → ◌≡◌ {A = Option A} None (if b then None else None)
none-either true = refl
none-either false = refl

-- one item changes and the others stay
pub get-changed : {A : Type 0} (f : A → A) (xs : List A) (i j : ℕ)
    → slice_get (changed_at f xs i) j ≡ (if nat_eq j i then option_map f (slice_get xs j) else slice_get xs j)
get-changed f [] i j = none-either (nat_eq j i)
get-changed f (x ∷ xs) zero zero = refl
get-changed f (x ∷ xs) zero (suc j) =
    sym (ap (λ (b : Bool). if b then option_map f (slice_get xs j) else slice_get xs j) (eq-suc-zero j))
get-changed f (x ∷ xs) (suc i) zero = sym (ap (λ (b : Bool). if b then Some (f x) else Some x) (eq-zero-suc i))
get-changed f (x ∷ xs) (suc i) (suc j) =
    get-changed f xs i j
    ∙ sym (ap (λ (b : Bool). if b then option_map f (slice_get xs j) else slice_get xs j) (eq-suc j i))

-- it is set where it stands
pub changed-set : {A : Type 0} (f : A → A) (xs : List A) (i : ℕ) (d : A) → i < length xs
    → slice_set xs i (f (get_or xs i d)) ≡ changed_at f xs i
changed-set f [] i d h = absurd (omega (arith, h))
changed-set f (x ∷ xs) zero d h = refl
changed-set f (x ∷ xs) (suc i) d h = ap (λ ys. x ∷ ys) (changed-set f xs i d (omega (arith, h)))

-- the same, by what was read there
pub changed-read : {A : Type 0} (f : A → A) (xs : List A) (i : ℕ) (x y : A) → i < length xs → x ≡ get_or xs i x → y
    ≡ f x
    → slice_set xs i y ≡ changed_at f xs i
changed-read f xs i x y h here e =
    ap (λ z. slice_set xs i z) (e ∙ ap f here) ∙ changed-set f xs i x h

-- nothing changes past the end
pub changed-past : {A : Type 0} (f : A → A) (xs : List A) (i : ℕ) → length xs ≤ i → xs ≡ changed_at f xs i
changed-past f [] i h = refl
changed-past f (x ∷ xs) zero h = absurd (omega (arith, h))
changed-past f (x ∷ xs) (suc i) h = ap (λ ys. x ∷ ys) (changed-past f xs i (omega (arith, h)))

-- as many of one thing
pub get-replicate : {A : Type 0} (n i : ℕ) (x : A)
    → slice_get (replicate n x) i ≡ (if nat_lt i n then Some x else None)
get-replicate zero i x = sym (ap (λ (b : Bool). if b then Some x else None) (lt-zero i))
get-replicate (suc n) zero x = sym (ap (λ (b : Bool). if b then Some x else None) (zero-lt n))
get-replicate (suc n) (suc i) x =
    get-replicate n i x ∙ sym (ap (λ (b : Bool). if b then Some x else None) (lt-suc i n))

-- nothing is told before the first line
pub none-told : (sys : SystemTables) (h : Tables)
    → h.semaphores ≡ replicate (length sys.semaphores) nothing → h.flags ≡ replicate (length sys.flags) nothing
    → h.data_queues ≡ replicate (length sys.data_queues) nothing → h.mailboxes
    ≡ replicate (length sys.mailboxes) nothing
    → h.spin_locks ≡ replicate (length sys.spin_locks) nothing
    → h.tasks ≡ replicate (length sys.tasks) (record { event = 0; waits = None }) → IsTold sys [] h
none-told sys h semaphores flags queues mailboxes locks tasks =
    record {
      trails = by_kind;
      parts = λ t. ap (λ (xs : List TaskPart). slice_get xs t) tasks
          ∙ get-replicate (length sys.tasks) t (record { event = 0; waits = None });
    }
  where
    rows : (xs : List ObjectTrail) (n : ℕ) → xs ≡ replicate n nothing → (i : ℕ)
        → slice_get xs i ≡ (if nat_lt i n then Some nothing else None)
    rows xs n e i = ap (λ (ys : List ObjectTrail). slice_get ys i) e ∙ get-replicate n i nothing

    none-of : (b : Bool) → b ≡ false → None ≡ (if b then Some nothing else None)
    none-of b e = ap (λ (c : Bool). if c then Some nothing else None) (sym e)

    by_kind : (k : ObjectKind) (i : ℕ) → slice_get (trails_in h k) i ≡ trail_told sys [] k i
    by_kind kind.Semaphore i = rows h.semaphores _ semaphores i
    by_kind kind.Flag i = rows h.flags _ flags i
    by_kind kind.DataQueue i = rows h.data_queues _ queues i
    by_kind kind.Mailbox i = rows h.mailboxes _ mailboxes i
    by_kind kind.SpinLock i = rows h.spin_locks _ locks i
    by_kind _ i = none-of (nat_lt i 0) (lt-zero i)

-- a change of what is there, if it is
map-if : {A : Type 0} (b : Bool) (f : A → A) (x : A)
    → option_map f (if b then Some x else None) ≡ (if b then Some (f x) else None)
map-if true f x = refl
map-if false f x = refl

-- a deed changes the object of its kind at its place, and no other
deed-there : (k l : ObjectKind) (i j : ℕ) (f : ObjectTrail → ObjectTrail) (h : Tables)
    → slice_get (trails_in (deed_noted l j f h) k) i
    ≡ (if is_same_kind k l && nat_eq i j then option_map f (slice_get (trails_in h k) i) else slice_get
    (trails_in h k) i)
deed-there kind.Semaphore kind.Semaphore i j f h = get-changed f h.semaphores j i
deed-there kind.Flag kind.Flag i j f h = get-changed f h.flags j i
deed-there kind.DataQueue kind.DataQueue i j f h = get-changed f h.data_queues j i
deed-there kind.Mailbox kind.Mailbox i j f h = get-changed f h.mailboxes j i
deed-there kind.SpinLock kind.SpinLock i j f h = get-changed f h.spin_locks j i
deed-there k l i j f h = refl

-- no task's part changes by a deed
deed-tasks : (l : ObjectKind) (j : ℕ) (f : ObjectTrail → ObjectTrail) (h : Tables) → (deed_noted l j f h).tasks
    ≡ h.tasks
deed-tasks kind.Semaphore j f h = refl
deed-tasks kind.Flag j f h = refl
deed-tasks kind.DataQueue j f h = refl
deed-tasks kind.Mailbox j f h = refl
deed-tasks kind.SpinLock j f h = refl
deed-tasks _ j f h = refl

-- if what is there is x, then after a deed it is what the deed makes of x
on-there : (on b : Bool) (f : ObjectTrail → ObjectTrail) (x : ObjectTrail) (old : Option ObjectTrail) → old
    ≡ (if b then Some x else None)
    → (if on then option_map f old else old) ≡ (if b then Some (if on then f x else x) else None)
on-there true b f x old e = ap (option_map f) e ∙ map-if b f x
on-there false b f x old e = e

module _ (k : ObjectKind) (i event : ℕ) (b : Bool) (x : ObjectTrail) (h : Tables) where
  act-there : (who : Caller) (act : Option ObjectAct) → slice_get (trails_in h k) i ≡ (if b then Some x else None)
      → slice_get (trails_in (act_noted event who act h) k) i
      ≡ (if b then Some (after_act k i event who act x) else None)
  act-there who None e = e
  act-there who (Some a) e =
      deed-there k a.kind i a.place (after_deed a.way (record { actor = who; event = event })) h
      ∙ on-there (is_on k i a) b (after_deed a.way (record { actor = who; event = event })) x _ e

  done-there : (done : Option (Caller × Call)) → slice_get (trails_in h k) i ≡ (if b then Some x else None)
      → slice_get (trails_in (done_noted event done h) k) i ≡ (if b then Some (after_done k i event done x) else None)
  done-there None e = e
  done-there (Some done) e = act-there done.0 (act_of done.1) e

act-tasks : (event : ℕ) (who : Caller) (act : Option ObjectAct) (h : Tables) → (act_noted event who act h).tasks
    ≡ h.tasks
act-tasks event who None h = refl
act-tasks event who (Some a) h =
    deed-tasks a.kind a.place (after_deed a.way (record { actor = who; event = event })) h

done-tasks : (event : ℕ) (done : Option (Caller × Call)) (h : Tables) → (done_noted event done h).tasks ≡ h.tasks
done-tasks event None h = refl
done-tasks event (Some done) h = act-tasks event done.0 (act_of done.1) h

-- a part of a task is no deed on an object
part-trails : (t : Option ℕ) (x : TaskPart) (h : Tables) (k : ObjectKind) → trails_in (part_noted t x h) k
    ≡ trails_in h k
part-trails None x h k = refl
part-trails (Some t) x h kind.Semaphore = refl
part-trails (Some t) x h kind.Flag = refl
part-trails (Some t) x h kind.DataQueue = refl
part-trails (Some t) x h kind.Mailbox = refl
part-trails (Some t) x h kind.SpinLock = refl
part-trails (Some t) x h _ = refl

nat_eq-sym : (i j : ℕ) → nat_eq i j ≡ nat_eq j i
nat_eq-sym i j = grind (arith, nat_tests)

set-if : (on b : Bool) (new old : TaskPart) (there : Option TaskPart) → there ≡ (if b then Some old else None)
    → (if on then option_map (λ _. new) there else there) ≡ (if b then Some (if on then new else old) else None)
set-if true true new old there e = ap (option_map (λ _. new)) e
set-if true false new old there e = ap (option_map (λ _. new)) e
set-if false b new old there e = e

-- a task's part after a line
part-there : (t : ℕ) (who : Option ℕ) (b : Bool) (new old : TaskPart) (h : Tables)
    → slice_get h.tasks t ≡ (if b then Some old else None)
    → slice_get (part_noted who new h).tasks t ≡ (if b then Some (if is_task t who then new else old) else None)
part-there t None b new old h e = e
part-there t (Some u) b new old h e =
    get-changed (λ _. new) h.tasks u t
    ∙ ap (λ (on : Bool). if on then option_map (λ _. new) (slice_get h.tasks t) else slice_get h.tasks t)
    (nat_eq-sym t u)
    ∙ set-if (nat_eq u t) b new old (slice_get h.tasks t) e

-- who did what is read from the call with which a task waits
done-same : (v w : ℕ → Option Call) (x : Line) → ((t : ℕ) → v t ≡ w t) → done_in v x ≡ done_in w x
done-same v w (line.Call p who c (Some reply)) e = refl
done-same v w (line.Gets p t reply) e = ap (released_with (is_done reply) t) (e t)
done-same v w _ e = refl

-- one line more is told
pub line-told : (sys : SystemTables) (told : Told) (h : Tables) (event : ℕ) (x : Line) → IsTold sys told h
    → IsTold sys ((event, x) ∷ told) (line_noted event x h)
line-told sys told h event x is =
    let now : TaskPart = record { event = event; waits = waits_from x } in
    let mid : Tables = part_noted (part_in x) now h in
    let same : done_in (λ t. waits_of (slice_get h.tasks t)) x ≡ done_in (λ t. waits_of (part_told sys told t)) x
    = done-same _ _ x (λ t. ap waits_of (is.parts t)) in
    record {
      trails = λ k i.
          done-there k i event (nat_lt i (count_of sys k)) (trail_of sys k i told) mid
          (done_in (λ t. waits_of (slice_get h.tasks t)) x)
          (ap (λ (xs : List ObjectTrail). slice_get xs i) (part-trails (part_in x) now h k) ∙ is.trails k i)
          ∙ ap (λ (d : Option (Caller × Call)). if nat_lt i (count_of sys k) then Some
          (after_done k i event d (trail_of sys k i told)) else None) same;
      parts = λ t.
          ap (λ (xs : List TaskPart). slice_get xs t) (done-tasks event
          (done_in (λ t. waits_of (slice_get h.tasks t)) x) mid)
          ∙ part-there t (part_in x) (nat_lt t (length sys.tasks)) now (part_of t told) h (is.parts t);
    }

-- the lines of an event more are told
pub lines-told : (sys : SystemTables) (event : ℕ) (xs : List Line) (told : Told) (h : Tables) → IsTold sys told h
    → IsTold sys (told_with xs event told) (lines_noted event xs h)
lines-told sys event [] told h is = is
lines-told sys event (x ∷ xs) told h is =
    lines-told sys event xs ((event, x) ∷ told) (line_noted event x h) (line-told sys told h event x is)

some-same : {x y : ObjectTrail} → Some x ≡ Some y → x ≡ y
some-same h = cc

-- no semaphore is left
pub holders-end : (front : List (Option ℕ)) (cs : List SemaphoreConfig) (xs : List ObjectTrail) → length xs < 1
    → front ≡ front ++ holders_in cs xs
holders-end front [] [] h = sym (append-nil front)
holders-end front (c ∷ cs) [] h = sym (append-nil front)
holders-end front cs (x ∷ xs) h = absurd (omega (arith, h))

none-there : {x : ObjectTrail} {A : Type 0} {a b : A} → None ≡ Some x → a ≡ b
none-there h = cc

-- the holders, by what a trace has told of each semaphore
holders-there : (sys : SystemTables) (told : Told) (i : ℕ) (cs : List SemaphoreConfig) (xs : List ObjectTrail)
    → ((j : ℕ) → slice_get xs j ≡ (if nat_lt j (length cs) then Some (trail_of sys kind.Semaphore (i + j) told) else
    None))
    → holders_in cs xs ≡ holders_from sys told i cs
holders-there sys told i [] xs e = refl
holders-there sys told i (c ∷ cs) [] e = none-there (e 0 ∙ ap (λ (b : Bool). if b then Some
    (trail_of sys kind.Semaphore (i + 0) told) else None) (zero-lt (length cs)))
holders-there sys told i (c ∷ cs) (x ∷ xs) e =
    ap (λ (y : ObjectTrail). holder_of c y ∷ holders_in cs xs) (first x
    (e 0 ∙ ap (λ (b : Bool). if b then Some (trail_of sys kind.Semaphore (i + 0) told) else None)
    (zero-lt (length cs))))
    ∙ ap (λ ys. holder_of c (trail_of sys kind.Semaphore i told) ∷ ys)
    (holders-there sys told (i + 1) cs xs (λ j. e (suc j)
    ∙ ap (λ (b : Bool). if b then Some (trail_of sys kind.Semaphore (i + suc j) told) else None) (lt-suc j (length cs))
    ∙ ap (λ (n : ℕ). if nat_lt j (length cs) then Some (trail_of sys kind.Semaphore n told) else None) (further i j)))
  where
    further : (i j : ℕ) → i + suc j ≡ (i + 1) + j
    further i j = omega arith

    none-more : (i : ℕ) → i + 0 ≡ i
    none-more i = omega arith

    first : (x : ObjectTrail) → Some x ≡ Some (trail_of sys kind.Semaphore (i + 0) told) → x
        ≡ trail_of sys kind.Semaphore i told
    first x h = some-same h ∙ ap (λ (n : ℕ). trail_of sys kind.Semaphore n told) (none-more i)

pub holders-are : (sys : SystemTables) (told : Told) (h : Tables) → IsTold sys told h
    → holders_in sys.semaphores h.semaphores ≡ holders_from sys told 0 sys.semaphores
holders-are sys told h is =
    holders-there sys told 0 sys.semaphores h.semaphores (λ j. is.trails kind.Semaphore j
    ∙ ap (λ (n : ℕ). if nat_lt j (length sys.semaphores) then Some (trail_of sys kind.Semaphore n told) else None)
    (from-zero j))
  where
    from-zero : (j : ℕ) → j ≡ 0 + j
    from-zero j = omega arith
