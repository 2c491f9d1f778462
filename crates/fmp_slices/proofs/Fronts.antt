-- The front of the data of a page.
use Rattle.std.proofs.Common.{◌≡◌, ◌≢◌, ℕ, List, [], ◌∷◌, ◌++◌, ap, ◌∙◌, append_assoc, refl, sym}
use Rattle.std.proofs.lemmas.List.{append-nil}
use Rattle.std.specs.Prelude.{All, IfOk, Ok, Err, Result}
use Rattle.json.specs.Print.{print}
use Rattle.json.specs.Token.{Token, begin_object}
use Rattle.fmp_slices.specs.Contents.{BeginsWith, Keeps}
use Rattle.fmp_slices.specs.Escaped.{escaped}
use Rattle.fmp_slices.specs.Pages.{IsData, front_members}
use Rattle.fmp_slices.proofs.Kept.{kept_by}
use Rattle.fmp_timeline.specs.declared.page.PicturePage.{PicturePage}
use Rattle.fmp_timeline.specs.declared.run.Run.{Run}

pub front_kept : (a b c d e f g places clocks lines end : List Token) → a ≡ begin_object ∷ [] → b ≡ a ++ places
    → c ≡ b ++ clocks → d ≡ c ++ lines → Keeps d e → Keeps e f → g ≡ f ++ end
    → BeginsWith (begin_object ∷ (places ++ (clocks ++ lines))) g
front_kept a b c d e f g places clocks lines end one two three four calls things ends =
    let front : List Token = begin_object ∷ (places ++ (clocks ++ lines)) in
    let to_places : b ≡ begin_object ∷ places = two ∙ ap (λ (ts : List Token). ts ++ places) one in
    let to_clocks : c ≡ begin_object ∷ (places ++ clocks) = three ∙ ap (λ (ts : List Token). ts ++ clocks) to_places in
    let to_lines : d ≡ front =
    four
    ∙ ap (λ (ts : List Token). ts ++ lines) to_clocks
    ∙ ap (λ (ts : List Token). begin_object ∷ ts) (append_assoc places clocks lines) in
    kept_by front f g end ends
    (things front (calls front (record { more = []; whole = to_lines ∙ sym (append-nil front) })))

no_front : (before text : List ℕ) → before ≡ [] → before ++ text ≡ text
no_front [] text none = refl
no_front (x ∷ before) text none = cc

-- the escaped text of a writer that wrote after nothing
pub data_made : {X E : Type 0} (items : X → List ℕ) (r : Result X E) (page : PicturePage) (run : Run)
    (tokens : List Token) (before written : List ℕ) → BeginsWith (begin_object ∷ front_members page run) tokens
    → before ≡ [] → written ≡ before ++ print tokens → IfOk r (λ x. items x ≡ escaped written)
    → IfOk r (λ x. All (λ byte. byte ≢ 60) (items x)) → IfOk r (λ x. IsData page run (items x))
data_made items (Ok x) page run tokens before written front none wrote made safe =
    record {
      tokens = tokens;
      front = front;
      text = made ∙ ap escaped (wrote ∙ no_front before (print tokens) none);
      safe = safe;
    }
data_made items (Err e) page run tokens before written front none wrote made safe = tt
