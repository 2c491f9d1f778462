-- What is seen of runs, where it was seen in parts.
use Rattle.std.proofs.Common.{◌≡◌, ◌∙◌, ℕ, suc, ◌+◌, ◌-◌, ◌<◌, ◌≤◌, List, [], ◌∷◌, ◌++◌, Option, Some, None, Result, Ok}
use Rattle.std.proofs.Common.{Err, IfOk, ap, append_assoc, arith, count_by, get_or, length, length-append, refl, subst}
use Rattle.std.proofs.Common.{sym}
use Rattle.std.proofs.Math.Path.{fun_ext}
use Rattle.std.proofs.lemmas.List.{append-nil}
use Rattle.fmp_base.specs.declared.calls.Reply.{Reply}
use Rattle.fmp_base.specs.declared.codes.Er.{Er}
use Rattle.fmp_base.specs.declared.events.Effect.{Effect}
use Rattle.fmp_base.specs.declared.events.Effect.TheVariants as effect
use Rattle.fmp_base.specs.declared.events.Event.{Event}
use Rattle.fmp_base.specs.declared.events.Line.{Line}
use Rattle.fmp_base.specs.declared.events.Line.TheVariants as line
use Rattle.fmp_base.specs.declared.states.Caller.{Caller}
use Rattle.fmp_base.specs.declared.states.Caller.TheVariants as caller
use Rattle.fmp_base.specs.Meanings.{Meaning}
use Rattle.fmp_base.specs.Steps.{effect_of}
use Rattle.fmp_kernel.specs.Comings.{reaction_of}
use Rattle.fmp_kernel.specs.KernelViews.{KernelView, view_after}
use Rattle.fmp_image_bytes.specs.Images.{ImageTables}
use Rattle.fmp_instructions.specs.declared.instructions.MachineContext.{MachineContext}
use Rattle.fmp_instructions.specs.Instructions.{BodyTables}
use Rattle.fmp_instructions.specs.Machine.{code_meaning}
use Rattle.fmp_replay.specs.Replays.{kernel_after}
use Rattle.fmp_frames.specs.declared.call_positions.CallPosition.{CallPosition}
use Rattle.fmp_frames.specs.Made.{event_position, positions_made}
use Rattle.fmp_looking.specs.declared.branches.BranchStep.{BranchStep}
use Rattle.fmp_looking.specs.Ways.{TimesGone, both_gone, capped, goes, none_gone, with_steps}
use Rattle.fmp_looking.specs.declared.observing.CallSeen.{CallSeen}
use Rattle.fmp_looking.specs.declared.observing.Outcome.TheVariants as outcome
use Rattle.fmp_looking.specs.Branches.{branch_steps}
use Rattle.fmp_looking.specs.Covered.{AreMadeAfter, AreRunsSeen, IsWithPart, Seen, both, none_seen, seen_at, with_run}
use Rattle.fmp_looking.specs.Covered.{with_runs}
use Rattle.fmp_looking.specs.declared.covering.Sightings.{Sightings}
use Rattle.fmp_looking.specs.Observed.{Heard, answered, calls_seen, heard_event, heard_in, heard_line, heard_lines}
use Rattle.fmp_trials.specs.declared.seeds.Seeds.{Seeds}
use Rattle.fmp_trials.specs.Parts.{edge}
use Rattle.fmp_looking.proofs.PartLemmas.{edge_from, first_edge, last_edge, next_edge}
use Rattle.fmp_looking.specs.Observed.{made, replied, unheard}

-- the same, with these calls before all
abbrev calls_before : List CallSeen → Heard → Heard
calls_before cs h = record { calls = cs ++ h.calls; waiting = h.waiting }

-- one call more
one_call_after : (cs : List CallSeen) (h : Heard) (c : CallSeen)
    → record { calls = (cs ++ h.calls) ++ c ∷ []; waiting = h.waiting }
    ≡ calls_before cs (record h { calls = h.calls ++ c ∷ [] })
one_call_after cs h c =
    ap (λ (x : List CallSeen). record { calls = x; waiting = h.waiting }) (append_assoc cs h.calls (c ∷ []))

made_after : (cs : List CallSeen) (h : Heard) (p : Option CallPosition)
    → made (calls_before cs h) p ≡ calls_before cs (made h p)
made_after cs h None = refl
made_after cs h (Some p) = one_call_after cs h (record { position = p; outcome = outcome.Made })

answered_after : (cs : List CallSeen) (h : Heard) (p : Option CallPosition) (c : Er)
    → answered (calls_before cs h) p c ≡ calls_before cs (answered h p c)
answered_after cs h None c = refl
answered_after cs h (Some p) c = one_call_after cs h (record { position = p; outcome = outcome.Answered c })

replied_after : (cs : List CallSeen) (h : Heard) (p : Option CallPosition) (who : Caller) (r : Option Reply)
    → replied (calls_before cs h) p who r ≡ calls_before cs (replied h p who r)
replied_after cs h p who (Some r) = answered_after cs h p r.code
replied_after cs h p (caller.Task t) None = refl
replied_after cs h p (caller.Handler x) None = refl

line_after : (cs : List CallSeen) (h : Heard) (p : Option CallPosition) (l : Line)
    → heard_line (calls_before cs h) p l ≡ calls_before cs (heard_line h p l)
line_after cs h p (line.Call q who c reply) = replied_after cs h p who reply
line_after cs h p (line.Gets q t reply) = answered_after cs h (get_or h.waiting t None) reply.code
line_after cs h p (line.Tick t) = refl
line_after cs h p (line.Int i) = refl
line_after cs h p (line.End q who) = refl
line_after cs h p (line.Fault q who f) = refl
line_after cs h p (line.Starts q t) = refl
line_after cs h p (line.Pends q c) = refl
line_after cs h p (line.Begins q x) = refl
line_after cs h p (line.Runs q t) = refl

lines_after : (cs : List CallSeen) (h : Heard) (p : Option CallPosition) (ls : List Line)
    → heard_lines (calls_before cs h) p ls ≡ calls_before cs (heard_lines h p ls)
lines_after cs h p [] = refl
lines_after cs h p (l ∷ ls) =
    ap (λ (x : Heard). heard_lines x p ls) (line_after cs h p l) ∙ lines_after cs (heard_line h p l) p ls

event_after : (cs : List CallSeen) (h : Heard) (p : Option CallPosition) (e : Effect) (ls : List Line)
    → heard_event (calls_before cs h) p e ls ≡ calls_before cs (heard_event h p e ls)
event_after cs h p effect.Nothing ls = refl
event_after cs h p effect.Kept ls = refl
event_after cs h p effect.Done ls =
    ap (λ (x : Heard). heard_lines x p ls) (made_after cs h p) ∙ lines_after cs (made h p) p ls

module _ {B : Type 0} (meaning : B → Meaning MachineContext) (code : List BodyTables)
    (bodies : List (List CallPosition)) where
  heard_after : (cs : List CallSeen) (k : KernelView B MachineContext) (es : List Event) (h : Heard)
      → heard_in meaning code bodies k es (calls_before cs h) ≡ calls_before cs (heard_in meaning code bodies k es h)
  heard_after cs k [] h = refl
  heard_after cs k (e ∷ es) h =
      let reaction = reaction_of meaning k e in
      let after : KernelView B MachineContext = view_after k reaction in
      let position : Option CallPosition = event_position meaning code bodies k e in
      ap (λ (x : Heard). heard_in meaning code bodies after es x)
      (event_after cs h position (effect_of reaction) after.lines)
      ∙ heard_after cs after es (heard_event h position (effect_of reaction) after.lines)

  -- the calls of a run stand after those that were known
  calls_after : (cs : List CallSeen) (k : KernelView B MachineContext) (es : List Event) (calls : List CallSeen)
      → calls_seen meaning code bodies k es (cs ++ calls) ≡ cs ++ calls_seen meaning code bodies k es calls
  calls_after cs k es calls =
      ap (λ (x : Heard). x.calls) (heard_after cs k es (unheard calls (length k.system.tasks)))

abbrev seen_by : List (List CallPosition) → List (Option CallPosition) → List CallSeen → TimesGone → Seen
seen_by positions made calls gone = record { positions = positions; made = made; calls = calls; gone = gone }

count_after : (a b c : ℕ) → capped (capped (a + b) + c) ≡ capped (a + capped (b + c))
count_after a b c = omega arith

count_and_none : (a : ℕ) → capped (capped a + 0) ≡ capped a
count_and_none a = omega arith

no_count : capped (0 + 0) ≡ 0
no_count = omega arith

-- what branches went after others
gone_after : (s t : TimesGone) (steps : List BranchStep)
    → with_steps (both_gone s t) steps ≡ both_gone s (with_steps t steps)
gone_after s t steps =
    fun_ext (λ b. fun_ext (λ n. fun_ext (λ way.
    count_after (s b n way) (t b n way) (count_by (goes b n way) steps))))

gone_and_none : (s : TimesGone) (steps : List BranchStep)
    → both_gone (with_steps s steps) none_gone ≡ with_steps s steps
gone_and_none s steps =
    fun_ext (λ b. fun_ext (λ n. fun_ext (λ way. count_and_none (s b n way + count_by (goes b n way) steps))))

none_and_none : both_gone none_gone none_gone ≡ none_gone
none_and_none = fun_ext (λ b. fun_ext (λ n. fun_ext (λ way. no_count)))

module _ (i : ImageTables) (n : ℕ) where
  -- a run after others
  run_after : (s t : Seen) (es : List Event) → with_run i n (both s t) es ≡ both s (with_run i n t es)
  run_after s t es =
      let start = kernel_after i n [] in
      let calls : List CallSeen = calls_seen code_meaning i.code t.positions start es (s.calls ++ t.calls) in
      let positions : List (Option CallPosition) = positions_made code_meaning i.code t.positions start es in
      let steps : List BranchStep = branch_steps code_meaning i.code start es in
      ap (λ (x : List (Option CallPosition)). seen_by t.positions x calls
      (with_steps (both_gone s.gone t.gone) steps)) (append_assoc s.made t.made positions)
      ∙ ap
      (λ (x : List CallSeen). seen_by t.positions (s.made ++ (t.made ++ positions)) x
      (with_steps (both_gone s.gone t.gone) steps))
      (calls_after code_meaning i.code t.positions s.calls start es t.calls)
      ∙ ap (λ (x : TimesGone). seen_by t.positions (s.made ++ (t.made ++ positions))
      (s.calls ++ calls_seen code_meaning i.code t.positions start es t.calls) x)
      (gone_after s.gone t.gone steps)

  runs_after : (s t : Seen) (runs : List (List Event)) → with_runs i n (both s t) runs ≡ both s (with_runs i n t runs)
  runs_after s t [] = refl
  runs_after s t (es ∷ runs) =
      ap (λ (x : Seen). with_runs i n x runs) (run_after s t es) ∙ runs_after s (with_run i n t es) runs

  runs_and_runs : (s : Seen) (a b : List (List Event)) → with_runs i n s (a ++ b) ≡ with_runs i n (with_runs i n s a) b
  runs_and_runs s [] b = refl
  runs_and_runs s (es ∷ a) b = runs_and_runs (with_run i n s es) a b

  positions_stay : (s : Seen) (runs : List (List Event)) → (with_runs i n s runs).positions ≡ s.positions
  positions_stay s [] = refl
  positions_stay s (es ∷ runs) = positions_stay (with_run i n s es) runs

  none_after : (s : Seen) (gone : TimesGone) → both_gone gone none_gone ≡ gone
      → both (record s { gone = gone }) (none_seen s.positions) ≡ record s { gone = gone }
  none_after s gone none =
      ap (λ (x : List (Option CallPosition)). seen_by s.positions x (s.calls ++ []) (both_gone gone none_gone))
      (append-nil s.made)
      ∙ ap (λ (x : List CallSeen). seen_by s.positions s.made x (both_gone gone none_gone)) (append-nil s.calls)
      ∙ ap (λ (x : TimesGone). seen_by s.positions s.made s.calls x) none

  -- of counts that are capped, those of no runs after them change nothing
  still_none : (s : Seen) (runs : List (List Event)) → both_gone s.gone none_gone ≡ s.gone
      → both_gone (with_runs i n s runs).gone none_gone ≡ (with_runs i n s runs).gone
  still_none s [] none = none
  still_none s (es ∷ runs) none =
      still_none (with_run i n s es) runs
      (gone_and_none s.gone (branch_steps code_meaning i.code (kernel_after i n []) es))

  and_none : (positions : List (List CallPosition)) (runs : List (List Event))
      → both (with_runs i n (none_seen positions) runs) (none_seen (with_runs i n (none_seen positions) runs).positions)
      ≡ with_runs i n (none_seen positions) runs
  and_none positions runs =
      none_after (with_runs i n (none_seen positions) runs) (with_runs i n (none_seen positions) runs).gone
      (still_none (none_seen positions) runs none_and_none)

  no_seed : (before : ℕ) → before + 0 ≡ before
  no_seed before = omega arith

  one_seed : (before count : ℕ) → before + suc count ≡ before + 1 + count
  one_seed before count = omega arith

  all_both : (P : (seed : ℕ) → List Event → Type 0) (before : ℕ) (a b : List (List Event)) → AreMadeAfter P before a
      → AreMadeAfter P (before + length a) b → AreMadeAfter P before (a ++ b)
  all_both P before [] b h g = subst (λ (k : ℕ). AreMadeAfter P k b) (no_seed before) g
  all_both P before (es ∷ a) b h g =
      (h.0, all_both P (before + 1) a b h.1 (subst (λ (k : ℕ). AreMadeAfter P k b) (one_seed before (length a)) g))

  -- what is seen of some runs, and of others after them, is seen of all
  pub both_seen : (P : (seed : ℕ) → List Event → Type 0) (positions : List (List CallPosition)) (before a b : ℕ)
      (s t : Seen) → AreRunsSeen P positions i n before a s → AreRunsSeen P positions i n (before + a) b t
      → AreRunsSeen P positions i n before (a + b) (both s t)
  both_seen P positions before a b s t h g =
      let all : Seen = with_runs i n (none_seen positions) h.runs in
      let there : all.positions ≡ positions = positions_stay (none_seen positions) h.runs in
      record {
        runs = h.runs ++ g.runs;
        made =
            all_both P before h.runs g.runs h.made
            (subst (λ (k : ℕ). AreMadeAfter P (before + k) g.runs) (sym h.many) g.made);
        many =
            length-append h.runs g.runs
            ∙ ap (λ (x : ℕ). x + length g.runs) h.many
            ∙ ap (λ (x : ℕ). a + x) g.many;
        seen =
            ap (λ (x : Seen). both s x) g.seen
            ∙ sym (runs_after s (none_seen positions) g.runs)
            ∙ ap (λ (x : Seen). with_runs i n x g.runs)
            (ap (λ (x : Seen). both x (none_seen positions)) h.seen
            ∙ ap (λ (p : List (List CallPosition)). both all (none_seen p)) (sym there) ∙ and_none positions h.runs)
            ∙ sym (runs_and_runs (none_seen positions) h.runs g.runs);
      }

  -- before the first part
  pub before_parts : (P : (seed : ℕ) → List Event → Type 0) (positions : List (List CallPosition)) (seeds : Seeds)
      (parts : ℕ) (s : Seen) → s ≡ none_seen positions
      → AreRunsSeen P positions i n seeds.before (edge seeds parts 0 - seeds.before) s
  before_parts P positions seeds parts s none =
      record { runs = []; made = tt; many = sym (first_edge seeds parts); seen = none }

  -- after one part more
  pub after_part : (P : (seed : ℕ) → List Event → Type 0) (positions : List (List CallPosition)) (seeds : Seeds)
      (parts k : ℕ) (s t u : Seen) → seeds.before ≤ seeds.last
      → AreRunsSeen P positions i n seeds.before (edge seeds parts k - seeds.before) s
      → AreRunsSeen P positions i n (edge seeds parts k) (edge seeds parts (k + 1) - edge seeds parts k) t
      → u ≡ both s t → AreRunsSeen P positions i n seeds.before (edge seeds parts (k + 1) - seeds.before) u
  after_part P positions seeds parts k s t u some h g is =
      let before : ℕ = edge seeds parts k - seeds.before in
      let more : ℕ = edge seeds parts (k + 1) - edge seeds parts k in
      let all =
      both_seen P positions seeds.before before more s t h
      (subst (λ (e : ℕ). AreRunsSeen P positions i n e more t) (edge_from seeds parts k some) g) in
      record {
        runs = all.runs;
        made = all.made;
        many = all.many ∙ next_edge seeds parts k;
        seen = is ∙ all.seen;
      }

  -- after the last one
  pub after_parts : (P : (seed : ℕ) → List Event → Type 0) (positions : List (List CallPosition)) (seeds : Seeds)
      (parts : ℕ) (s : Seen) → 0 < parts
      → AreRunsSeen P positions i n seeds.before (edge seeds parts parts - seeds.before) s
      → AreRunsSeen P positions i n seeds.before (seeds.last - seeds.before) s
  after_parts P positions seeds parts s some h =
      record { runs = h.runs; made = h.made; many = h.many ∙ last_edge seeds parts some; seen = h.seen }

  -- what is known after one part more, if there was memory for it
  pub with_part : {E : Type 0} (P : (seed : ℕ) → List Event → Type 0) (positions : List (List CallPosition))
      (seeds : Seeds) (parts k : ℕ) (s u : Sightings) (part : Result Sightings E) → seeds.before ≤ seeds.last
      → AreRunsSeen P positions i n seeds.before (edge seeds parts k - seeds.before) (seen_at positions s)
      → IfOk part
      (λ t. AreRunsSeen P positions i n (edge seeds parts k) (edge seeds parts (k + 1) - edge seeds parts k)
      (seen_at positions t))
      → IsWithPart s part u
      → AreRunsSeen P positions i n seeds.before (edge seeds parts (k + 1) - seeds.before) (seen_at positions u)
  with_part P positions seeds parts k s u (Ok t) some h g with =
      after_part P positions seeds parts k (seen_at positions s) (seen_at positions t) (seen_at positions u) some h g
      (with positions)
  with_part P positions seeds parts k s u (Err e) some h g with = absurd with
