-- The panels of a picture, and how many things it has.
use Rattle.std.specs.Prelude.{◌≡◌, ℕ, ◌==◌, List, [], ◌∷◌, ◌++◌, false, codes, decimal, if◌then◌else◌}
use Rattle.fmp_timeline.specs.declared.canvas.Canvas.{Canvas}
use Rattle.fmp_timeline.specs.declared.page.PanelSpan.{PanelSpan}
use Rattle.fmp_timeline.specs.declared.page.PicturePage.{PicturePage}
use Rattle.fmp_timeline.specs.Pages.{panel_end, panel_start}

-- a panel goes on where the one before it ends
abbrev pub span_of : PicturePage → (panel : ℕ) → PanelSpan
span_of page panel =
    record { page = page; first = panel_start page panel; last = panel_end page (panel_start page panel) }

-- a number of things
abbrev pub count_text : ℕ → (thing : List ℕ) → List ℕ
count_text count thing = decimal count ++ (thing ++ (if count == 1 then [] else codes "s"))

-- nothing of a picture is cut off at its end
abbrev pub IsClosed : List ℕ → Type 0
IsClosed picture = (rest : List ℕ) × (picture ≡ rest ++ (codes "</svg>" ++ 10 ∷ []))

-- where memory did not run out
abbrev pub EndsPicture : Canvas → Type 0
EndsPicture canvas = canvas.is_cut ≡ false → IsClosed canvas.bytes.items
