-- What the image of two texts prints, over steps or over a journal, is what the texts mean.
use Rattle.std.proofs.Common.{◌≡◌, ℕ, List, ◌++◌, Result, Ok, Err, IfOk, OnOk, ap, subst, ◌∙◌}
use Rattle.fmp_base.specs.declared.events.Event.{Event}
use Rattle.fmp_base.specs.Texts.{whole_text}
use Rattle.fmp_instructions.specs.Machine.{code_meaning}
use Rattle.fmp_codegen.specs.Runs.{PrintsText}
use Rattle.fmp_image_bytes.specs.Images.{ImageTables, Spells}
use Rattle.fmp_image_bytes.proofs.ImageLaws.{one_image}
use Rattle.fmp_tasklang.specs.Trees.{BodyTree}
use Rattle.fmp_trace.specs.Steps.{steps_of}
use Rattle.fmp_engine.specs.declared.counts.EventCounts.{EventCounts}
use Rattle.fmp_engine.specs.declared.hosting.Workload.{Workload}
use Rattle.fmp_engine.specs.Hosting.{Hosts, HostsTexts, IsHosted}
use Rattle.fmp_engine.specs.Simulations.{Simulates, PrintsTexts}

pub prints_texts : (i : ImageTables) (bodies : List BodyTree) (image steps : List ℕ) (n : ℕ) (before after : List ℕ)
    → Simulates image steps n before after → Spells i image → ((es : List Event)
    → PrintsText i.system bodies i.code n es)
    → PrintsTexts i bodies steps n before after
prints_texts i bodies image steps n before after s spelled law =
    let same : s.loaded ≡ i = one_image s.loaded i image s.spelled spelled in
    let like : PrintsText i.system bodies i.code n s.events = law s.events in
    record {
      events = s.events;
      read = subst (λ (j : ImageTables). steps_of j.system.processors steps ≡ Ok s.events) same s.read;
      finished = like.finished;
      are_done = like.are_done;
      answers = like.answers;
      are_answers = like.are_answers;
      trace = like.trace;
      finishes = like.finishes;
      text = subst (λ (j : ImageTables). after ≡ before ++ whole_text j.system (code_meaning j.code) n s.events) same
          s.text
          ∙ ap (λ (text : List ℕ). before ++ text) like.text;
    }

pub hosts_texts : (i : ImageTables) (bodies : List BodyTree) (image : List ℕ) (work : Workload) (file out : List ℕ)
    (counts : EventCounts)
    → Hosts image work file out counts → Spells i image
    → ((es : List Event) → PrintsText i.system bodies i.code work.bound es)
    → HostsTexts i bodies work file out
hosts_texts i bodies image work file out counts h spelled law =
    let same : h.loaded ≡ i = one_image h.loaded i image h.spelled spelled in
    let made : IsHosted i work h.journal = subst (λ (j : ImageTables). IsHosted j work h.journal) same h.made in
    let like : PrintsText i.system bodies i.code work.bound h.journal = law h.journal in
    record {
      journal = h.journal;
      made = made;
      steps = h.steps;
      finished = like.finished;
      are_done = like.are_done;
      answers = like.answers;
      are_answers = like.are_answers;
      trace = like.trace;
      finishes = like.finishes;
      text = subst (λ (j : ImageTables). out ≡ whole_text j.system (code_meaning j.code) work.bound h.journal) same
          h.text
          ∙ like.text;
    }

-- what holds of each answer of one kind makes what holds of each of the other
pub each_ok : {A E : Type 0} {P Q : A → Type 0} (r : Result A E) → ((a : A) → P a → Q a) → IfOk r P → IfOk r Q
each_ok (Ok a) f h = f a h
each_ok (Err e) f h = tt

pub where_ok : {A E P Q : Type 0} (r : Result A E) → (P → Q) → OnOk r P → OnOk r Q
where_ok (Ok a) f h = f h
where_ok (Err e) f h = tt
