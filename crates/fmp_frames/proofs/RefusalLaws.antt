-- Calls that are told as always refused are never answered E_OK.
use Rattle.std.proofs.Common.{◌≡◌, ◌∙◌, ℕ, List, [], ◌∷◌, ◌++◌, Option, Some, None, Bool, true, false}
use Rattle.std.proofs.Common.{◌&&◌, ◌||◌, ap, arith, cond, get_or, length, nat_eq, refl, sym}
use Rattle.std.proofs.lemmas.List.Concat.{flat_map-cons}
use Rattle.std.proofs.lemmas.List.Folds.{list_any-append}
use Rattle.std.specs.List.{AllByRecursion, flat_map, list_any}
use Rattle.fmp_base.specs.declared.codes.Er.{Er}
use Rattle.fmp_base.specs.declared.codes.Er.TheVariants as er
use Rattle.fmp_base.specs.declared.calls.Reply.{Reply}
use Rattle.fmp_base.specs.declared.events.Event.{Event}
use Rattle.fmp_base.specs.declared.events.Line.{Line}
use Rattle.fmp_base.specs.declared.events.Line.TheVariants as line
use Rattle.fmp_base.specs.declared.services.Service.{Service}
use Rattle.fmp_base.specs.declared.states.Caller.{Caller}
use Rattle.fmp_base.specs.declared.states.Caller.TheVariants as caller
use Rattle.fmp_base.specs.Meanings.{Meaning}
use Rattle.fmp_base.specs.Steps.{Reaction, Nothing, Did, Kept}
use Rattle.fmp_instructions.specs.declared.instructions.MachineContext.{MachineContext}
use Rattle.fmp_kernel.specs.Comings.{reaction_of}
use Rattle.fmp_kernel.specs.KernelViews.{KernelView, view_after}
use Rattle.fmp_frames.specs.declared.answers.SiteAnswer.{SiteAnswer}
use Rattle.fmp_frames.specs.declared.refusals.Refusal.{Refusal}
use Rattle.fmp_frames.specs.declared.refusals.Refusal.TheVariants as refusal
use Rattle.fmp_frames.specs.declared.sites.CallSite.{CallSite}
use Rattle.fmp_frames.specs.declared.sites.SiteCall.{SiteCall}
use Rattle.fmp_frames.specs.Answers.{Heard, answered, called, code_at, codes_at, heard_in, heard_line, heard_lines}
use Rattle.fmp_frames.specs.Answers.{heard_reaction, is_answer, unheard, was_answered}
use Rattle.fmp_frames.specs.Made.{event_site}
use Rattle.fmp_frames.specs.RefusalLaws.{IsNeverDone, RefusedCallsAreNeverDone, is_done_call, lines_told}
use Rattle.fmp_frames.specs.Refusals.{Refused, is_ok, refusal_of, refused_at, refused_by, refused_call}
use Rattle.fmp_frames.specs.Refusals.{told_codes}
use Rattle.fmp_frames.specs.Sites.{call_at, call_sites, is_same_site}

-- the answers know that this call was answered E_OK
abbrev WasDone : List SiteAnswer → CallSite → Type 0
WasDone answers s = was_answered answers s er.Ok ≡ true

same_number : (n : ℕ) → nat_eq n n ≡ true
same_number n = grind arith

same_site : (s : CallSite) → is_same_site s s ≡ true
same_site s =
    ap (λ (b : Bool). b && nat_eq s.pc s.pc) (same_number s.body) ∙ same_number s.pc

is_same_answer : (s : CallSite) → is_answer s er.Ok (record { site = s; code = er.Ok }) ≡ true
is_same_answer s = ap (λ (b : Bool). b && true) (same_site s)

or_true : (b : Bool) → (b || true) ≡ true
or_true true = refl
or_true false = refl

-- what is known stays known
kept_if : (b : Bool) (answers more : List SiteAnswer) (s : CallSite) → WasDone answers s
    → WasDone (cond b answers (answers ++ more)) s
kept_if true answers more s h = h
kept_if false answers more s h =
    list_any-append (is_answer s er.Ok) answers more
    ∙ ap (λ (b : Bool). b || list_any (is_answer s er.Ok) more) h

kept : (h : Heard) (at : Option CallSite) (c : Er) (s : CallSite) → WasDone h.answers s
    → WasDone (answered h at c).answers s
kept h None c s done = done
kept h (Some t) c s done =
    kept_if (was_answered h.answers t c) h.answers (record { site = t; code = c } ∷ []) s done

kept_called : (h : Heard) (at : Option CallSite) (who : Caller) (r : Option Reply) (s : CallSite)
    → WasDone h.answers s → WasDone (called h at who r).answers s
kept_called h at who (Some reply) s done = kept h at reply.code s done
kept_called h at (caller.Task t) None s done = done
kept_called h at (caller.Handler x) None s done = done

kept_line : (h : Heard) (at : Option CallSite) (l : Line) (s : CallSite) → WasDone h.answers s
    → WasDone (heard_line h at l).answers s
kept_line h at (line.Tick n) s done = done
kept_line h at (line.Int i) s done = done
kept_line h at (line.Call p who c reply) s done = kept_called h at who reply s done
kept_line h at (line.End p who) s done = done
kept_line h at (line.Fault p who fault) s done = done
kept_line h at (line.Gets p t reply) s done = kept h (get_or h.waiting t None) reply.code s done
kept_line h at (line.Starts p t) s done = done
kept_line h at (line.Pends p c) s done = done
kept_line h at (line.Begins p x) s done = done
kept_line h at (line.Runs p t) s done = done

kept_lines : (h : Heard) (at : Option CallSite) (ls : List Line) (s : CallSite) → WasDone h.answers s
    → WasDone (heard_lines h at ls).answers s
kept_lines h at [] s done = done
kept_lines h at (l ∷ ls) s done = kept_lines (heard_line h at l) at ls s (kept_line h at l s done)

kept_reaction : (h : Heard) (at : Option CallSite) (r : Reaction MachineContext) (s : CallSite)
    → WasDone h.answers s → WasDone (heard_reaction h at r).answers s
kept_reaction h at Nothing s done = done
kept_reaction h at (Did d) s done = kept_lines h at d.lines s done
kept_reaction h at (Kept p w) s done = done

-- a call that is answered E_OK is known
known_if : (b : Bool) (answers : List SiteAnswer) (s : CallSite) → was_answered answers s er.Ok ≡ b
    → WasDone (cond b answers (answers ++ record { site = s; code = er.Ok } ∷ [])) s
known_if true answers s h = h
known_if false answers s h =
    let here : SiteAnswer = record { site = s; code = er.Ok } in
    list_any-append (is_answer s er.Ok) answers (here ∷ [])
    ∙ ap (λ (b : Bool). list_any (is_answer s er.Ok) answers || (b || false)) (is_same_answer s)
    ∙ or_true (list_any (is_answer s er.Ok) answers)

known : (h : Heard) (s : CallSite) (c : Er) → is_ok c ≡ true → WasDone (answered h (Some s) c).answers s
known h s er.Ok e = known_if (was_answered h.answers s er.Ok) h.answers s refl
known h s er.Sys e = absurd cc
known h s er.Nospt e = absurd cc
known h s er.Rsatr e = absurd cc
known h s er.Par e = absurd cc
known h s er.Id e = absurd cc
known h s er.Ctx e = absurd cc
known h s er.Iluse e = absurd cc
known h s er.Obj e = absurd cc
known h s er.Qovr e = absurd cc
known h s er.Rlwai e = absurd cc
known h s er.Tmout e = absurd cc

known_line : (h : Heard) (s : CallSite) (l : Line) → is_done_call l ≡ true → WasDone (heard_line h (Some s) l).answers s
known_line h s (line.Call p who c (Some reply)) e = known h s reply.code e
known_line h s (line.Call p who c None) e = absurd cc
known_line h s (line.Tick n) e = absurd cc
known_line h s (line.Int i) e = absurd cc
known_line h s (line.End p who) e = absurd cc
known_line h s (line.Fault p who fault) e = absurd cc
known_line h s (line.Gets p t reply) e = absurd cc
known_line h s (line.Starts p t) e = absurd cc
known_line h s (line.Pends p c) e = absurd cc
known_line h s (line.Begins p x) e = absurd cc
known_line h s (line.Runs p t) e = absurd cc

known_first : (h : Heard) (s : CallSite) (l : Line) (ls : List Line) (b : Bool) → is_done_call l ≡ b
    → (list_any is_done_call ls ≡ true → WasDone (heard_lines (heard_line h (Some s) l) (Some s) ls).answers s)
    → (b || list_any is_done_call ls) ≡ true → WasDone (heard_lines (heard_line h (Some s) l) (Some s) ls).answers s
known_first h s l ls true done rest e = kept_lines (heard_line h (Some s) l) (Some s) ls s (known_line h s l done)
known_first h s l ls false other rest e = rest e

known_lines : (h : Heard) (s : CallSite) (ls : List Line) → list_any is_done_call ls ≡ true
    → WasDone (heard_lines h (Some s) ls).answers s
known_lines h s [] e = absurd cc
known_lines h s (l ∷ ls) e =
    known_first h s l ls (is_done_call l) refl (λ more. known_lines (heard_line h (Some s) l) s ls more) e

known_reaction : (h : Heard) (at : Option CallSite) (s : CallSite) (r : Reaction MachineContext) → at ≡ Some s
    → list_any is_done_call (lines_told r) ≡ true → WasDone (heard_reaction h at r).answers s
known_reaction h at s Nothing made e = absurd cc
known_reaction h at s (Kept p w) made e = absurd cc
known_reaction h at s (Did d) made e =
    ap (λ (x : Option CallSite). was_answered (heard_lines h x d.lines).answers s er.Ok) made
    ∙ known_lines h s d.lines e

false_unless : (b : Bool) → (b ≡ true → ⊥) → b ≡ false
false_unless true unless = absurd (unless refl)
false_unless false unless = refl

module _ {B : Type 0} (meaning : B → Meaning MachineContext) where
  kept_in : (k : KernelView B MachineContext) (es : List Event) (h : Heard) (s : CallSite) → WasDone h.answers s
      → WasDone (heard_in meaning k es h).answers s
  kept_in k [] h s done = done
  kept_in k (e ∷ es) h s done =
      let r = reaction_of meaning k e in
      let at = event_site meaning k e in
      kept_in (view_after k r) es (heard_reaction h at r) s (kept_reaction h at r s done)

  never : (k : KernelView B MachineContext) (es : List Event) (h : Heard) (s : CallSite)
      → (WasDone (heard_in meaning k es h).answers s → ⊥) → IsNeverDone meaning k es s
  never k [] h s unless = tt
  never k (e ∷ es) h s unless =
      let r = reaction_of meaning k e in
      let at = event_site meaning k e in (
        λ made. false_unless (list_any is_done_call (lines_told r))
            (λ told. unless (kept_in (view_after k r) es (heard_reaction h at r) s
            (known_reaction h at s r made told))),
        never (view_after k r) es (heard_reaction h at r) s unless,
      )

-- what was answered E_OK is not always refused
not_always : (answers : List SiteAnswer) (s : CallSite) → refusal_of (codes_at answers s) ≡ refusal.Always
    → WasDone answers s → ⊥
not_always answers s always done =
    let rest = flat_map (λ (c : Er). code_at answers s c)
    (er.Par ∷ er.Id ∷ er.Ctx ∷ er.Iluse ∷ er.Obj ∷ er.Qovr ∷ er.Rlwai
    ∷ er.Tmout ∷ []) in
    let codes : codes_at answers s ≡ er.Ok ∷ rest = ap (λ (b : Bool). cond b (er.Ok ∷ []) [] ++ rest) done in
    let told : refusal.Sometimes ≡ refusal.Always =
    sym (ap (λ (cs : List Er). refusal_of cs) codes) ∙ always in
    absurd cc

module _ (P : Refused → Type 0) where
  all_append : (xs ys : List Refused) → AllByRecursion P xs → AllByRecursion P ys → AllByRecursion P (xs ++ ys)
  all_append [] ys a b = b
  all_append (x ∷ xs) ys a b = (a.0, all_append xs ys a.1 b)

  all_of : (f : CallSite → List Refused) (ss : List CallSite) → ((s : CallSite) → AllByRecursion P (f s))
      → AllByRecursion P (flat_map f ss)
  all_of f [] h = tt
  all_of f (s ∷ ss) h = rw (flat_map-cons f s ss) (all_append (f s) (flat_map f ss) (h s) (all_of f ss h))

  all_if : (b : Bool) (r : Refused) → P r → AllByRecursion P (cond b [] (r ∷ []))
  all_if true r p = tt
  all_if false r p = (p, tt)

  all_told : (s : CallSite) (service : Service) (how : Refusal) (told : List Er)
      → P (record { site = s; service = service; refusal = how; answers = told })
      → AllByRecursion P (refused_by s service how told)
  all_told s service how told p = all_if (nat_eq (length told) 0) _ p

  all_called : (s : CallSite) (call : Option SiteCall) (codes : List Er)
      → ((service : Service) (told : List Er)
      → P (record { site = s; service = service; refusal = refusal_of codes; answers = told }))
      → AllByRecursion P (refused_call s call codes)
  all_called s None codes h = tt
  all_called s (Some call) codes h =
      all_told s call.service (refusal_of codes) _ (h call.service (told_codes (refusal_of codes) call.is_tested codes))

pub refused_calls_are_never_done : {B : Type 0} (meaning : B → Meaning MachineContext)
    → RefusedCallsAreNeverDone meaning
refused_calls_are_never_done meaning k es tasks code =
    let answers = (heard_in meaning k es (unheard tasks)).answers in
    let Fact = λ (r : Refused). r.refusal ≡ refusal.Always → IsNeverDone meaning k es r.site in
    all_of Fact (λ (s : CallSite). refused_at code s (codes_at answers s)) (call_sites code)
    (λ s. all_called Fact s (call_at code s) (codes_at answers s)
    (λ service told always. never meaning k es (unheard tasks) s (not_always answers s always)))
