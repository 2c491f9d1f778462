-- What an outlet was given of a text, and why not all.
use Rattle.std.proofs.Common.{ℕ, List, [], Result, IfErr, OnOk}
use Rattle.std.proofs.lemmas.Result.{IfErr-weaker, on_ok_weaker}
use Rattle.fmp.specs.Giving.{GivesText, IsWhyCut}
use Rattle.fmp.specs.declared.perform.CommandCut.{CommandCut}
use Rattle.fmp.specs.declared.perform.CommandCut.TheVariants.{Refused, Stopped}
use Rattle.fmp.specs.declared.perform.Exit.{Exit}

module _ {T : Type 0} (gave stopped : T → T → List ℕ → Type 0) (from to : T) where
  -- a text of which more holds
  pub gives_then : (P Q : List ℕ → Type 0) (left : List ℕ) → ((text : List ℕ) → P text → Q text)
      → GivesText gave P from to left
      → GivesText gave Q from to left
  gives_then P Q left f h = record { text = h.text; holds = f h.text h.holds; given = h.given }

  stopped_then : (P Q : List ℕ → Type 0) (left : List ℕ) → ((text : List ℕ) → P text → Q text)
      → GivesText stopped P from to left
      → GivesText stopped Q from to left
  stopped_then P Q left f h = record { text = h.text; holds = f h.text h.holds; given = h.given }

  pub cut_then : (Why Why' : Exit → Type 0) (P Q : List ℕ → Type 0) → ((exit : Exit) → Why exit → Why' exit)
      → ((text : List ℕ) → P text → Q text) → (cut : CommandCut) → IsWhyCut gave stopped Why P from to cut
      → IsWhyCut gave stopped Why' Q from to cut
  cut_then Why Why' P Q why f (Refused exit) h = (why exit h.0, h.1)
  cut_then Why Why' P Q why f Stopped h = (h.0, stopped_then P Q h.0 f h.1)

  pub given_then : {A : Type 0} (r : Result A CommandCut) (P Q : List ℕ → Type 0) → ((text : List ℕ) → P text → Q text)
      → OnOk r (GivesText gave P from to []) → OnOk r (GivesText gave Q from to [])
  given_then r P Q f h = on_ok_weaker r (gives_then P Q [] f) h

  pub why_then : {A : Type 0} (r : Result A CommandCut) (Why Why' : Exit → Type 0) (P Q : List ℕ → Type 0)
      → ((exit : Exit) → Why exit → Why' exit) → ((text : List ℕ) → P text → Q text)
      → IfErr r (IsWhyCut gave stopped Why P from to) → IfErr r (IsWhyCut gave stopped Why' Q from to)
  why_then r Why Why' P Q why f h = IfErr-weaker r _ _ (cut_then Why Why' P Q why f) h
