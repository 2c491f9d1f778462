-- Texts that are added to a canvas one after another, and the canvas at the end.
use Rattle.std.proofs.Common.{◌≡◌, ℕ, List, [], ◌∷◌, ◌++◌, false, sym, subst, refl, ◌∙◌}
use Rattle.std.specs.Prelude.{IfOk, Ok, Err, Result}
use Rattle.fmp_slices.specs.Pages.{IsPage, data_text, title_text, view_text}
use Rattle.fmp_slices.proofs.Joined.{onto}
use Rattle.fmp_timeline.specs.declared.canvas.Canvas.{Canvas}
use Rattle.fmp_timeline.specs.Canvases.{Adds, HasAdded}

pub adds_then : (a b c : Canvas) (x y : List ℕ) → Adds a b x → Adds b c y → Adds a c (x ++ y)
adds_then a b c x y first second = λ whole.
    let s : HasAdded y b c = second whole in
    let f : HasAdded x a b = first s.was_whole in
    record {
      was_whole = f.was_whole;
      bytes = s.bytes ∙ onto a.bytes.items b.bytes.items x y f.bytes;
      other = s.other ∙ f.other;
    }

-- whatever it is
pub some_added : (a b : Canvas) (x : List ℕ) → Adds a b x → (text : List ℕ) × Adds a b text
some_added a b x adds = (x, adds)

pub page_added : (name picture json : List ℕ) (a b c d e f g h : Canvas) (head lists : List ℕ)
    → Adds a b head → Adds b c (title_text name) → (tools : List ℕ) × Adds c d tools
    → Adds d e (view_text picture) → Adds e f lists → Adds f g (data_text json) → (script : List ℕ) × Adds g h script
    → (page : List ℕ) × IsPage name picture json page × Adds a h page
page_added name picture json a b c d e f g h head lists one two three four five six seven = (
  head
      ++ (title_text name
      ++ (three.0 ++ (view_text picture ++ (lists ++ (data_text json ++ seven.0))))),
  record { head = head; tools = three.0; lists = lists; script = seven.0; whole = refl },
  adds_then a b h _ _ one
      (adds_then b c h _ _ two
      (adds_then c d h _ _ three.1
      (adds_then d e h _ _ four (adds_then e f h _ _ five (adds_then f g h _ _ six seven.1))))),
)

onto_none : (old text : List ℕ) → old ≡ [] → old ++ text ≡ text
onto_none [] text none = refl
onto_none (x ∷ old) text none = cc

-- the bytes of a canvas that began without any are what was added
pub finished_text : {X E : Type 0} (items : X → List ℕ) (P : List ℕ → Type 0) (r : Result X E) (new done : Canvas)
    (text : List ℕ) → new.bytes.items ≡ [] → Adds new done text → P text
    → IfOk r (λ x. done.is_cut ≡ false) → IfOk r (λ x. items x ≡ done.bytes.items) → IfOk r (λ x. P (items x))
finished_text items P (Ok x) new done text none adds holds whole same =
    let added : HasAdded text new done = adds whole in
    let all : items x ≡ text = same ∙ added.bytes ∙ onto_none new.bytes.items text none in
    subst P (sym all) holds
finished_text items P (Err e) new done text none adds holds whole same = tt
