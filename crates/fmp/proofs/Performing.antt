-- What an outlet was given of what a command prints, or why not all of it, by the command.
use Rattle.std.proofs.Common.{◌≡◌, ℕ, Global, String, List, [], ◌∷◌, get_or, map, refl, Result, IfErr, OnOk, subst}
use Rattle.std.proofs.Common.{subst₂, suc, sym, zero}
use Rattle.fmp.specs.declared.asking.Cmd.{Cmd}
use Rattle.fmp.specs.declared.asking.Cmd.TheVariants as cmd
use Rattle.fmp.specs.declared.perform.CommandCut.{CommandCut}
use Rattle.fmp.specs.declared.perform.TheConstants.{STORED_CONFIG, STORED_TASKS, STORED_STEPS, STORED_BOUND}
use Rattle.fmp.specs.Giving.{GivesText, IsWhyCut}
use Rattle.fmp.specs.Performed.{CarriesOut, Checks, IsWhyNoImage, IsWhyNoRun, IsWhyNot, IsWhyNotRun, RunsImage}
use Rattle.fmp.specs.Performed.{RunsTexts, input_at}
use Rattle.fmp.proofs.Giving.{given_then, why_then}

-- a text that was read, by its place
pub text_read : {A : Type 0} (f : A → List ℕ) (xs : List A) (k : ℕ) (x : A) → f x ≡ [] → f (get_or xs k x)
    ≡ input_at (map f xs) k
text_read f [] k x e = e
text_read f (y ∷ ys) zero x e = refl
text_read f (y ∷ ys) (suc k) x e = text_read f ys k x e

module _ {T A : Type 0} (gave stopped : T → T → List ℕ → Type 0) (from to : T) (r : Result A CommandCut) (asked : Cmd)
    (inputs : List (List ℕ)) where
  module _ (first second : List ℕ) (one : first ≡ input_at inputs 0) (two : second ≡ input_at inputs 1) where
    pub check_cut : (config tasks : String Global) → asked ≡ cmd.Check config tasks
        → IfErr r (IsWhyCut gave stopped (IsWhyNoImage first second) (Checks first second) from to)
        → IfErr r (IsWhyCut gave stopped (IsWhyNot asked inputs) (CarriesOut asked inputs []) from to)
    check_cut config tasks is h =
        why_then gave stopped from to r (IsWhyNoImage first second) (IsWhyNot asked inputs) (Checks first second)
        (CarriesOut asked inputs [])
        (λ exit why.
        subst (λ (command : Cmd). IsWhyNot command inputs exit) (sym is)
        (subst₂ (λ (x y : List ℕ). IsWhyNoImage x y exit) one two why))
        (λ text made.
        subst (λ (command : Cmd). CarriesOut command inputs [] text) (sym is)
        (subst₂ (λ (x y : List ℕ). Checks x y text) one two made, refl))
        h

    pub sim_given : (image steps : String Global) (n : ℕ) → asked ≡ cmd.Sim image steps n
        → OnOk r (GivesText gave (RunsImage first second n) from to [])
        → OnOk r (GivesText gave (CarriesOut asked inputs []) from to [])
    sim_given image steps n is h =
        given_then gave stopped from to r (RunsImage first second n) (CarriesOut asked inputs [])
        (λ text run.
        subst (λ (command : Cmd). CarriesOut command inputs [] text) (sym is)
        (subst₂ (λ (x y : List ℕ). RunsImage x y n text) one two run, refl))
        h

    pub sim_cut : (image steps : String Global) (n : ℕ) → asked ≡ cmd.Sim image steps n
        → IfErr r (IsWhyCut gave stopped (IsWhyNoRun first second) (RunsImage first second n) from to)
        → IfErr r (IsWhyCut gave stopped (IsWhyNot asked inputs) (CarriesOut asked inputs []) from to)
    sim_cut image steps n is h =
        why_then gave stopped from to r (IsWhyNoRun first second) (IsWhyNot asked inputs) (RunsImage first second n)
        (CarriesOut asked inputs [])
        (λ exit why.
        subst (λ (command : Cmd). IsWhyNot command inputs exit) (sym is)
        (subst₂ (λ (x y : List ℕ). IsWhyNoRun x y exit) one two why))
        (λ text run.
        subst (λ (command : Cmd). CarriesOut command inputs [] text) (sym is)
        (subst₂ (λ (x y : List ℕ). RunsImage x y n text) one two run, refl))
        h

  module _ (config tasks steps : List ℕ) (one : config ≡ STORED_CONFIG.now) (two : tasks ≡ STORED_TASKS.now)
      (three : steps ≡ STORED_STEPS.now) where
    pub stored_cut : asked ≡ cmd.Stored
        → IfErr r (IsWhyCut gave stopped (IsWhyNotRun config tasks steps)
        (RunsTexts config tasks steps STORED_BOUND) from to)
        → IfErr r (IsWhyCut gave stopped (IsWhyNot asked inputs) (CarriesOut asked inputs []) from to)
    stored_cut is h =
        why_then gave stopped from to r (IsWhyNotRun config tasks steps) (IsWhyNot asked inputs)
        (RunsTexts config tasks steps STORED_BOUND) (CarriesOut asked inputs [])
        (λ exit why.
        subst (λ (command : Cmd). IsWhyNot command inputs exit) (sym is)
        (subst (λ (z : List ℕ). IsWhyNotRun STORED_CONFIG.now STORED_TASKS.now z exit) three
        (subst₂ (λ (x y : List ℕ). IsWhyNotRun x y steps exit) one two why)))
        (λ text made.
        subst (λ (command : Cmd). CarriesOut command inputs [] text) (sym is) (
          subst (λ (z : List ℕ). RunsTexts STORED_CONFIG.now STORED_TASKS.now z STORED_BOUND text) three
              (subst₂ (λ (x y : List ℕ). RunsTexts x y steps STORED_BOUND text) one two made),
          refl,
        ))
        h
