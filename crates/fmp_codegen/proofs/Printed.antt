-- Code that does what the bodies of a text do prints what the text means.
use Rattle.std.proofs.Common.{◌≡◌, refl, ℕ, ◌*◌, ◌≤◌, List, ◌++◌, ap, sym, ◌∙◌}
use Rattle.fmp_base.specs.declared.events.Event.{Event}
use Rattle.fmp_base.specs.declared.events.Line.{Line}
use Rattle.fmp_base.specs.KeptTimes.{counted, After, counted_begins}
use Rattle.fmp_base.specs.CountedRuns.{Same, keeps_same}
use Rattle.fmp_base.specs.KeptRuns.{kept_run}
use Rattle.fmp_base.specs.Meanings.{Meaning}
use Rattle.fmp_base.specs.Runs.{Trace, run, done_events, effects}
use Rattle.fmp_base.specs.Setups.{setup}
use Rattle.fmp_base.specs.States.{KernelState}
use Rattle.fmp_base.specs.Systems.{SystemTables}
use Rattle.fmp_base.specs.Texts.{lines_text, events_text, states_text, trace_text}
use Rattle.fmp_base.specs.TieLaws.{setup-tied}
use Rattle.fmp_tasklang.specs.Contexts.{TextContext}
use Rattle.fmp_tasklang.specs.Scopes.{scope_of}
use Rattle.fmp_tasklang.specs.Texts.{body_at, text_meaning}
use Rattle.fmp_tasklang.specs.Trees.{BodyTree}
use Rattle.fmp_instructions.specs.declared.instructions.MachineContext.{MachineContext}
use Rattle.fmp_instructions.specs.Instructions.{BodyTables}
use Rattle.fmp_instructions.specs.Machine.{code_meaning}
use Rattle.fmp_codegen.specs.Laws.{DoesText}
use Rattle.fmp_codegen.specs.Runs.{PrintsText}
use Rattle.fmp_codegen.specs.Tie.{CodeTied, SameLocals, longest}

-- the tie of contexts at an end or a fault
abbrev pub Ended : SystemTables → List BodyTree → ℕ → MachineContext → TextContext → Type 0
Ended sys bodies body = SameLocals (scope_of sys (body_at bodies body))

trace_text-same : {C D : Type 0} (sys : SystemTables) (first first' : List Line) (r : Trace C) (s : Trace D)
    → first ≡ first' → r.events ≡ s.events → r.world.state ≡ s.world.state → trace_text sys first r
    ≡ trace_text sys first' s
trace_text-same sys first first' r s p q e =
    ap (λ (ls : List Line). lines_text sys 0 ls ++ (events_text sys 1 r.events ++ states_text sys r.world.state)) p
    ∙ ap (λ (lss : List (List Line)). lines_text sys 0 first'
    ++ (events_text sys 1 lss ++ states_text sys r.world.state)) q
    ∙ ap (λ (w : KernelState). lines_text sys 0 first' ++ (events_text sys 1 s.events ++ states_text sys w)) e

-- code and text print the same lines at setup
setup-alike :
    (sys : SystemTables) (bodies : List BodyTree) (code : List BodyTables) (n : ℕ)
    → DoesText sys bodies code → 1 ≤ n
    → (setup sys (code_meaning code)).lines ≡ (setup sys (text_meaning sys bodies)).lines
setup-alike sys bodies code n does one =
    let text : Meaning TextContext = text_meaning sys bodies in
    let machine : Meaning MachineContext = code_meaning code in
    let R = CodeTied sys bodies code in
    let S = Ended sys bodies in
    let size = longest code in
    let t = n * 0 in
    (setup-tied sys (After R S machine text size does n 0 one 0) machine n (counted text) t
    (counted_begins R S machine text size does n 0 one)).0
    ∙ (setup-tied sys (Same sys text n size t) (counted text) t text t (keeps_same sys text n size t)).0

pub prints_text : (sys : SystemTables) (bodies : List BodyTree) (code : List BodyTables) (n : ℕ) (es : List Event)
    → DoesText sys bodies code → 1 ≤ n → PrintsText sys bodies code n es
prints_text sys bodies code n es does one =
    let text : Meaning TextContext = text_meaning sys bodies in
    let machine : Meaning MachineContext = code_meaning code in
    let made = run sys machine n (setup sys machine).world es in
    let like = kept_run sys (CodeTied sys bodies code) (Ended sys bodies) machine text (longest code) does n one es in
    record {
      finished = done_events sys machine n (setup sys machine).world es;
      are_done = refl;
      answers = effects sys machine n (setup sys machine).world es;
      are_answers = refl;
      trace = like.trace;
      finishes = like.finished;
      text = trace_text-same sys (setup sys machine).lines (setup sys text).lines made like.trace
          (setup-alike sys bodies code n does one) (sym like.events) (sym like.state);
      first_lines = setup-alike sys bodies code n does one;
      lines = sym like.events;
    }
