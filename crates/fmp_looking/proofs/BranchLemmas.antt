-- Which branches were gone so far, and which are still to come.
use Rattle.std.proofs.Common.{◌≡◌, ◌∙◌, ℕ, zero, suc, ◌+◌, ◌-◌, ◌*◌, ◌<◌, ◌≤◌, ◌==◌, ◌&&◌, Bool, true, false, List, []}
use Rattle.std.proofs.Common.{◌∷◌, ◌++◌, Option, Some, None, ap, arith, add-one, count_by, drop, get_or}
use Rattle.std.proofs.Common.{if◌then◌else◌, length, map, refl, slice_get, sym, take}
use Rattle.std.proofs.Math.Nat.{mul-add}
use Rattle.std.proofs.Math.Path.{fun_ext}
use Rattle.std.proofs.Math.Seq.{drop-cons}
use Rattle.std.proofs.lemmas.Bool.{false≢true}
use Rattle.std.proofs.lemmas.List.{append-nil}
use Rattle.std.proofs.lemmas.List.Sums.{sum_by-append}
use Rattle.std.specs.Global.{Vec}
use Rattle.fmp_base.specs.declared.events.Effect.{Effect}
use Rattle.fmp_base.specs.declared.events.Effect.TheVariants as effect
use Rattle.fmp_base.specs.declared.events.Event.{Event}
use Rattle.fmp_base.specs.Meanings.{Meaning}
use Rattle.fmp_base.specs.Steps.{Reaction, Did, Kept, Nothing, effect_of}
use Rattle.fmp_kernel.specs.Comings.{reaction_of}
use Rattle.fmp_kernel.specs.KernelViews.{KernelView, view_after}
use Rattle.fmp_kernel.specs.declared.actors.Actor.{Actor}
use Rattle.fmp_instructions.specs.declared.instructions.BodyCode.{BodyCode}
use Rattle.fmp_instructions.specs.declared.instructions.Instruction.{Instruction}
use Rattle.fmp_instructions.specs.declared.instructions.MachineContext.{MachineContext}
use Rattle.fmp_instructions.specs.Instructions.{BodyTables, body_tables}
use Rattle.fmp_looking.specs.declared.branches.BranchStep.{BranchStep}
use Rattle.fmp_looking.specs.declared.ways.BranchWays.{BranchWays}
use Rattle.fmp_looking.specs.BranchNumbers.{AreNumbers, numbers_in}
use Rattle.fmp_looking.specs.Branches.{actor_steps, branch_steps, branches_before, event_actor, event_steps, from_there}
use Rattle.fmp_looking.specs.Branches.{if_taken, instructions_of, is_branch_at, left_by, step_here, step_of}
use Rattle.fmp_looking.specs.Branches.{stretch_steps}
use Rattle.fmp_looking.specs.Ways.{IsWithSteps, both_gone, capped, goes, none_gone, one_way, times_in, times_of}
use Rattle.fmp_looking.specs.Ways.{with_steps}
use Rattle.fmp_looking.proofs.WayLemmas.{one_count}

-- a branch stands among the instructions
branch_within : (code : List Instruction) (pc : ℕ) → is_branch_at code pc ≡ true → pc < length code
branch_within [] pc h = absurd (false≢true h)
branch_within (i ∷ is) zero h = omega arith
branch_within (i ∷ is) (suc pc) h = let more = branch_within is pc h in omega arith

-- the number of a branch
pub number_here : (code : List Instruction) (numbers : List ℕ) (pc : ℕ) → AreNumbers code numbers
    → is_branch_at code pc ≡ true → get_or numbers pc 0 ≡ branches_before code pc
number_here code numbers pc are h = are pc (branch_within code pc h)

-- one body more
pub numbers_more : (bodies : List (Vec ℕ)) (more : Vec ℕ) (b : ℕ) → b < length bodies
    → numbers_in (bodies ++ more ∷ []) b ≡ numbers_in bodies b
numbers_more [] more b h = absurd (omega arith)
numbers_more (x ∷ xs) more zero h = refl
numbers_more (x ∷ xs) more (suc b) h = numbers_more xs more b (omega arith)

pub numbers_last : (bodies : List (Vec ℕ)) (more : Vec ℕ) (b : ℕ) → b ≡ length bodies
    → numbers_in (bodies ++ more ∷ []) b ≡ more.items
numbers_last [] more zero h = refl
numbers_last [] more (suc b) h = absurd (omega arith)
numbers_last (x ∷ xs) more zero h = absurd (omega arith)
numbers_last (x ∷ xs) more (suc b) h = numbers_last xs more b (omega arith)

-- the instructions of a body of a code
pub code_here : (code : List BodyCode) (b : ℕ) (body : BodyCode) → b < length code → body ≡ get_or code b body
    → instructions_of (map body_tables code) b ≡ body.instructions.items
code_here [] b body h is = absurd (omega arith)
code_here (x ∷ xs) zero body h is = ap (λ (y : BodyCode). y.instructions.items) (sym is)
code_here (x ∷ xs) (suc b) body h is = code_here xs b body (omega arith) is

pub no_code : (code : List BodyCode) (b : ℕ) → length code ≤ b → instructions_of (map body_tables code) b ≡ []
no_code [] b h = refl
no_code (x ∷ xs) zero h = absurd (omega arith)
no_code (x ∷ xs) (suc b) h = no_code xs b (omega arith)

-- where none stands
pub no_numbers : (code : List Instruction) (numbers : List ℕ) → code ≡ [] → AreNumbers code numbers
no_numbers code numbers none pc h = absurd (omega (arith, ap length none, h))

-- nothing more was gone
pub no_steps : (t : ℕ) (w : BranchWays) → IsWithSteps t w [] w
no_steps t w b n way = omega arith

-- a body that stands at no branch, and one that stands at one
pub no_step : (t : ℕ) (w : BranchWays) (code : List Instruction) (body : ℕ) (c : MachineContext)
    → is_branch_at code c.pc ≡ false → IsWithSteps t w (step_here code body c) w
no_step t w code body c h b n way =
    no_steps t w b n way
    ∙ ap (λ (e : Bool). capped (times_in w b n way
    + t * count_by (goes b n way) (if e then step_of code body c ∷ [] else []))) (sym h)

pub a_step : (t : ℕ) (w w' : BranchWays) (code : List Instruction) (body : ℕ) (c : MachineContext) (s : BranchStep)
    → is_branch_at code c.pc ≡ true → s ≡ step_of code body c
    → ((b n : ℕ) (way : Bool) → times_in w' b n way ≡ capped (times_in w b n way
    + (if (b == s.body) && (n == s.number) then times_of way (one_way s.is_true t) else 0)))
    → IsWithSteps t w (step_here code body c) w'
a_step t w w' code body c s h is gone b n way =
    gone b n way
    ∙ ap (λ (k : ℕ). capped (times_in w b n way + k))
    (one_count (b == s.body) (n == s.number) way s.is_true t s refl)
    ∙ ap (λ (x : BranchStep). capped (times_in w b n way + t * count_by (goes b n way) (x ∷ []))) is
    ∙ ap (λ (e : Bool). capped (times_in w b n way
    + t * count_by (goes b n way) (if e then step_of code body c ∷ [] else []))) (sym h)

-- of all that is gone, what is left comes after what was gone since the start
abbrev pub IsLeft : (times : ℕ) (start now : BranchWays) (left all : List BranchStep) → Type 0
IsLeft t start now left all =
    (b n : ℕ) (way : Bool)
    → capped (times_in now b n way + t * count_by (goes b n way) left)
    ≡ capped (times_in start b n way + t * count_by (goes b n way) all)

counted : (t before now a b left total : ℕ) → left ≡ a + b → now ≡ capped (before + t * a)
    → capped (before + t * left) ≡ total → capped (now + t * b) ≡ total
counted t before now a b left total cut is so_far =
    let both : t * left ≡ t * a + t * b = ap (λ (k : ℕ). t * k) cut ∙ mul-add t a b in
    omega (arith, both, is, so_far)

-- after more of it
pub gone_on : (t : ℕ) (start before now : BranchWays) (left here rest all : List BranchStep) → left ≡ here ++ rest
    → IsWithSteps t before here now → IsLeft t start before left all → IsLeft t start now rest all
gone_on t start before now left here rest all cut is so_far b n way =
    counted t (times_in before b n way) (times_in now b n way) (count_by (goes b n way) here)
    (count_by (goes b n way) rest) (count_by (goes b n way) left) _
    (ap (λ (steps : List BranchStep). count_by (goes b n way) steps) cut ∙ sum_by-append _ here rest)
    (is b n way) (so_far b n way)

-- all of it
pub all_gone : (t : ℕ) (start now : BranchWays) (left all : List BranchStep) → left ≡ []
    → IsLeft t start now left all → IsWithSteps t start all now
all_gone t start now left all none so_far b n way =
    no_steps t now b n way
    ∙ ap (λ (steps : List BranchStep). capped (times_in now b n way + t * count_by (goes b n way) steps)) (sym none)
    ∙ so_far b n way

-- one more after another
pub one_then : (t : ℕ) (start between now : BranchWays) (first second all : List BranchStep) → all ≡ first ++ second
    → IsWithSteps t start first between → IsWithSteps t between second now → IsWithSteps t start all now
one_then t start between now first second all cut one two =
    all_gone t start now [] all refl
    (gone_on t start between now second second [] all (sym (append-nil second)) two
    (gone_on t start start between all first second all cut one (λ b n way. refl)))

-- the same steps
pub of_steps : (t : ℕ) (w w' : BranchWays) (steps others : List BranchStep) → steps ≡ others → IsWithSteps t w steps w'
    → IsWithSteps t w others w'
of_steps t w w' steps others same is b n way =
    is b n way
    ∙ ap (λ (x : List BranchStep). capped (times_in w b n way + t * count_by (goes b n way) x)) same

one_time : (a x : ℕ) → capped (a + 1 * x) ≡ capped (a + x)
one_time a x = omega arith

-- what is known after steps that are counted once
pub counted_once : (w w' : BranchWays) (steps : List BranchStep) → IsWithSteps 1 w steps w'
    → times_in w' ≡ with_steps (times_in w) steps
counted_once w w' steps is =
    fun_ext (λ b. fun_ext (λ n. fun_ext (λ way.
    is b n way ∙ one_time (times_in w b n way) (count_by (goes b n way) steps))))

-- what is known of both
pub both_known : (w v w' : BranchWays)
    → ((b n : ℕ) (way : Bool) → times_in w' b n way ≡ capped (times_in w b n way + times_in v b n way))
    → times_in w' ≡ both_gone (times_in w) (times_in v)
both_known w v w' is = fun_ext (λ b. fun_ext (λ n. fun_ext (λ way. is b n way)))

pub none_known : (w : BranchWays) → ((b n : ℕ) (way : Bool) → times_in w b n way ≡ 0) → times_in w ≡ none_gone
none_known w is = fun_ext (λ b. fun_ext (λ n. fun_ext (λ way. is b n way)))

one_less : (n i : ℕ) → i < n → n - i ≡ suc (n - (i + 1))
one_less n i h = omega (arith, h)

-- the branches of a stretch from an instruction on, which left this
pub stretch_on : (M : Meaning MachineContext) (code : List Instruction) (body n i : ℕ) (c : MachineContext)
    (next : Option MachineContext) → i < n → left_by (M.stretch body 1 c) ≡ next
    → stretch_steps M code body (n - i) c
    ≡ step_here code body c ++ from_there next (λ d. stretch_steps M code body (n - (i + 1)) d)
stretch_on M code body n i c next h leaves =
    ap (λ (m : ℕ). stretch_steps M code body m c) (one_less n i h)
    ∙ ap (λ (o : Option MachineContext).
    step_here code body c ++ from_there o (λ d. stretch_steps M code body (n - (i + 1)) d)) leaves

pub none_left : (M : Meaning MachineContext) (code : List Instruction) (body n i : ℕ) (c : MachineContext) → n ≤ i
    → stretch_steps M code body (n - i) c ≡ []
none_left M code body n i c h =
    let none : n - i ≡ 0 = omega arith in ap (λ (m : ℕ). stretch_steps M code body m c) none

-- a kernel keeps its bodies and its bound
pub same_body : {B : Type 0} (k : KernelView B MachineContext) (r : Reaction MachineContext)
    → (view_after k r).body ≡ k.body
same_body k Nothing = refl
same_body k (Did d) = refl
same_body k (Kept p w) = refl

pub same_bound : {B : Type 0} (k : KernelView B MachineContext) (r : Reaction MachineContext)
    → (view_after k r).bound ≡ k.bound
same_bound k Nothing = refl
same_bound k (Did d) = refl
same_bound k (Kept p w) = refl

-- a list of events from the place of this one on
cut : (es : List Event) (i : ℕ) (e d : Event) → i < length es → e ≡ get_or es i d → drop i es ≡ e ∷ drop (i + 1) es
cut es i e d h is = rw add-one (drop-cons es i d h) ∙ ap (λ y. y ∷ drop (i + 1) es) (sym is)

-- the branches of a run from an event on, where it runs this actor
pub event_on : {B : Type 0} (meaning : B → Meaning MachineContext) (code : List BodyTables)
    (k k' : KernelView B MachineContext) (es : List Event) (i : ℕ) (e d : Event) (does : Effect)
    (actor : Option (Actor MachineContext))
    → i < length es → e ≡ get_or es i d → k' ≡ view_after k (reaction_of meaning k e)
    → does ≡ effect_of (reaction_of meaning k e) → actor ≡ event_actor k e
    → branch_steps meaning code k (drop i es)
    ≡ if_taken (actor_steps (meaning k'.body) code k'.bound actor) does
    ++ branch_steps meaning code k' (drop (i + 1) es)
event_on {B} meaning code k k' es i e d does actor lt is after did runs =
    let rest : List Event = drop (i + 1) es in
    let reaction : Reaction MachineContext = reaction_of meaning k e in
    let next : KernelView B MachineContext = view_after k reaction in
    ap (λ (ys : List Event). branch_steps meaning code k ys) (cut es i e d lt is)
    ∙ ap (λ (x : Effect). if_taken (event_steps meaning code k e) x ++ branch_steps meaning code next rest) (sym did)
    ∙ ap (λ (a : Option (Actor MachineContext)).
    if_taken (actor_steps (meaning k.body) code k.bound a) does ++ branch_steps meaning code next rest) (sym runs)
    ∙ ap (λ (x : B). if_taken (actor_steps (meaning x) code k.bound actor) does ++ branch_steps meaning code next rest)
    (sym (same_body k reaction))
    ∙ ap (λ (x : ℕ).
    if_taken (actor_steps (meaning next.body) code x actor) does ++ branch_steps meaning code next rest)
    (sym (same_bound k reaction))
    ∙ ap (λ (v : KernelView B MachineContext).
    if_taken (actor_steps (meaning v.body) code v.bound actor) does ++ branch_steps meaning code v rest) (sym after)

-- an event that runs no actor, or does nothing
pub none_taken : (M : Meaning MachineContext) (code : List BodyTables) (bound : ℕ) (does : Effect)
    → if_taken (actor_steps M code bound None) does ≡ []
none_taken M code bound effect.Nothing = refl
none_taken M code bound effect.Done = refl
none_taken M code bound effect.Kept = refl
