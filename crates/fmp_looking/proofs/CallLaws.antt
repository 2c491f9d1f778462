-- What a judge of calls finds broken is what a search forbids.
use Rattle.std.proofs.Common.{◌≡◌, ◌∙◌, List, [], ◌∷◌, Option, Some, None, Bool, true, false, ap, cond, map, refl}
use Rattle.std.specs.Prelude.{◌||◌, ℕ, is_some, option_map}
use Rattle.std.specs.List.{list_any}
use Rattle.fmp_base.specs.declared.events.Event.{Event}
use Rattle.fmp_base.specs.declared.events.Line.{Line}
use Rattle.fmp_base.specs.Meanings.{World}
use Rattle.fmp_base.specs.Steps.{Reaction, Nothing, Did, Kept}
use Rattle.fmp_base.specs.Systems.{SystemTables}
use Rattle.fmp_expect.specs.Judges.{broken_after, broken_along, first_by}
use Rattle.fmp_expect.specs.Parts.{or_else}
use Rattle.fmp_image_bytes.specs.Images.{ImageTables}
use Rattle.fmp_instructions.specs.declared.instructions.MachineContext.{MachineContext}
use Rattle.fmp_instructions.specs.Instructions.{BodyTables}
use Rattle.fmp_instructions.specs.Machine.{code_meaning}
use Rattle.fmp_kernel.specs.Comings.{reaction_of}
use Rattle.fmp_kernel.specs.KernelViews.{KernelView, view_after}
use Rattle.fmp_question.specs.declared.question.NeverAt.{NeverAt}
use Rattle.fmp_question.specs.Sites.{forbids_there, tells_there}
use Rattle.fmp_looking.specs.declared.call_sentences.CallNever.{CallNever}
use Rattle.fmp_looking.specs.CallLaws.{forbids_along, forbids_in}
use Rattle.fmp_looking.specs.CallSentences.{breaks_by, first_told, judge_of}

abbrev nevers_of : List CallNever → List NeverAt
nevers_of ns = map (λ n. n.never) ns

some_or : {A : Type 0} (a b : Option A) → is_some (or_else a b) ≡ (is_some a || is_some b)
some_or None b = refl
some_or (Some x) b = refl

some_if : {A : Type 0} (b : Bool) (x : A) (o : Option A) → is_some (cond b (Some x) o) ≡ (b || is_some o)
some_if true x o = refl
some_if false x o = refl

some_mapped : {A B : Type 0} (f : A → B) (o : Option A) → is_some (option_map f o) ≡ is_some o
some_mapped f None = refl
some_mapped f (Some x) = refl

told_is : (sys : SystemTables) (ns : List CallNever) (w : World MachineContext) (l : Line)
    → is_some (first_told sys ns w l) ≡ forbids_there sys (nevers_of ns) w l
told_is sys [] w l = refl
told_is sys (n ∷ ns) w l =
    some_if (tells_there sys w n.never l) n.line (first_told sys ns w l)
    ∙ ap (λ (b : Bool). tells_there sys w n.never l || b) (told_is sys ns w l)

module _ (i : ImageTables) (ns : List CallNever) where
  abbrev Kernel : Type 0
  Kernel = KernelView (List BodyTables) MachineContext

  abbrev breaks : Kernel → Line → Option ℕ
  breaks = breaks_by (judge_of i ns)

  lines_are : (k : Kernel) (ls : List Line)
      → is_some (first_by (breaks k) ls) ≡ list_any (forbids_there i.system (nevers_of ns) k.world) ls
  lines_are k [] = refl
  lines_are k (l ∷ ls) =
      some_or (breaks k l) (first_by (breaks k) ls)
      ∙ ap (λ (b : Bool). b || is_some (first_by (breaks k) ls)) (told_is i.system ns k.world l)
      ∙ ap (λ (b : Bool). forbids_there i.system (nevers_of ns) k.world l || b) (lines_are k ls)

  event_is : (k : Kernel) (r : Reaction MachineContext)
      → is_some (broken_after breaks k r) ≡ forbids_in i.system (nevers_of ns) r
  event_is k Nothing = refl
  event_is k (Did d) =
      let after : Kernel = view_after k (Did d) in
      some_mapped (λ (n : ℕ). record { line = n; event = after.done }) (first_by (breaks after) d.lines)
      ∙ lines_are after d.lines
  event_is k (Kept p w) = refl

  pub along_is : (k : Kernel) (es : List Event)
      → is_some (broken_along breaks (reaction_of code_meaning) k es) ≡ forbids_along i.system (nevers_of ns) k es
  along_is k [] = refl
  along_is k (e ∷ es) =
      let r : Reaction MachineContext = reaction_of code_meaning k e in
      let after : Kernel = view_after k r in
      some_or (broken_after breaks k r) (broken_along breaks (reaction_of code_meaning) after es)
      ∙ ap (λ (b : Bool). b || is_some (broken_along breaks (reaction_of code_meaning) after es)) (event_is k r)
      ∙ ap (λ (b : Bool). forbids_in i.system (nevers_of ns) r || b) (along_is after es)
