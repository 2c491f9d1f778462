-- A page for browsers: its title, the picture, and the data of its script.
use Rattle.std.specs.Prelude.{◌≡◌, ◌≢◌, ℕ, List, [], ◌∷◌, ◌++◌, All, codes}
use Rattle.json.specs.Print.{print}
use Rattle.json.specs.Token.{Token, begin_object}
use Rattle.fmp_slices.specs.Contents.{BeginsWith, clocks_members, lines_members, places_members}
use Rattle.fmp_slices.specs.Escaped as scripts
use Rattle.fmp_timeline.specs.Canvases.{escaped}
use Rattle.fmp_timeline.specs.declared.page.PicturePage.{PicturePage}
use Rattle.fmp_timeline.specs.declared.run.Run.{Run}

-- the title; the name stands in it as text
abbrev pub title_text : (name : List ℕ) → List ℕ
title_text name = codes "<title>Timeline of " ++ (escaped name ++ (codes "</title>" ++ 10 ∷ []))

-- the view, which holds the picture
abbrev pub view_text : (picture : List ℕ) → List ℕ
view_text picture =
    (codes "<main id=\"view\" tabindex=\"0\" aria-label=\"Picture\">" ++ 10 ∷ [])
    ++ (picture ++ (codes "</main>" ++ 10 ∷ []))

-- the data, which the script reads
abbrev pub data_text : (json : List ℕ) → List ℕ
data_text json =
    codes "<script type=\"application/json\" id=\"run\">" ++ (json ++ (codes "</script>" ++ 10 ∷ []))

-- a page has its title, the controls, the picture, the lists, the data and the script, in this order
pub record IsPage (name picture json page : List ℕ) : Type 0 where
  pub head : List ℕ
  pub tools : List ℕ
  pub lists : List ℕ
  pub script : List ℕ
  pub whole :
      page ≡ head ++ (title_text name ++ (tools ++ (view_text picture ++ (lists ++ (data_text json ++ script)))))

-- the first members of the data: the events that are drawn and where they stand, their clocks and their lines
abbrev pub front_members : PicturePage → Run → List Token
front_members page run = places_members page ++ (clocks_members page run ++ lines_members page run)

-- The data is an object of JSON that begins with these. It has no `<`, so that no name in it ends its element.
pub record IsData (page : PicturePage) (run : Run) (json : List ℕ) : Type 0 where
  pub tokens : List Token
  pub front : BeginsWith (begin_object ∷ front_members page run) tokens
  pub text : json ≡ scripts.escaped (print tokens)
  pub safe : All (λ byte. byte ≢ 60) json
