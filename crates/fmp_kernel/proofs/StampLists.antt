-- The stamps of a run in a list, one a processor.
use Rattle.std.proofs.Common.{◌≡◌, ℕ, zero, suc, ◌+◌, ◌<◌, List, [], ◌∷◌, ◌++◌, Option, Some, length, map, replicate}
use Rattle.std.proofs.Common.{get_or, refl, sym, subst, ap, ◌∙◌, arith}
use Rattle.std.proofs.lemmas.List.{ext_get_or}
use Rattle.fmp_base.specs.declared.events.Event.{Event}
use Rattle.fmp_base.specs.Meanings.{Meaning, World}
use Rattle.fmp_base.specs.Runs.{run}
use Rattle.fmp_base.specs.States.{KernelState, places_from}
use Rattle.fmp_base.specs.Steps.{Done, Reaction, Did, Kept, step}
use Rattle.fmp_base.specs.Systems.{SystemTables}
use Rattle.fmp_worlds.specs.Stamps.{counted, counts as counts_for, one_if, place_run, run_place, stamp}
use Rattle.fmp_worlds.proofs.StampLaws.{stamp-append}
use Rattle.fmp_kernel.specs.Stamps.{stamped, stamped_by}
use Rattle.fmp_kernel.proofs.FrontLemmas.{Names, step_names}
use Rattle.fmp_kernel.proofs.StampLemmas.{get-places, length-places}

-- the stamps of the processors after a run, counted once more for an event that ran this one, if any, and left the
-- state
-- u, are those after one more event
counted-stamps : {C : Type 0} (sys : SystemTables) (M : Meaning C) (n : ℕ) (w : World C) (es : List Event) (e : Event)
    (ran : Option ℕ) (u : KernelState) (processors : ℕ)
    → ran ≡ run_place e
    → ((p : ℕ) → one_if (counts_for (run_place e) (run sys M n w es).world.state u p)
    ≡ counted e (run sys M n w es).world (step sys M n (run sys M n w es).world e) p)
    → stamped_by ran (run sys M n w es).world.state u (map (stamp sys M n w es) (places_from 0 processors))
    ≡ map (stamp sys M n w (es ++ e ∷ [])) (places_from 0 processors)
counted-stamps {C} sys M n w es e ran u processors place counts =
    ext_get_or 0 _ _ (length-places more 0 (length was) ∙ long ∙ sym (length-places now 0 processors)) each where
      before : World C
      before = (run sys M n w es).world

      was : List ℕ
      was = map (stamp sys M n w es) (places_from 0 processors)

      more : ℕ → ℕ
      more p = get_or was p 0 + one_if (counts_for ran before.state u p)

      now : ℕ → ℕ
      now p = stamp sys M n w (es ++ e ∷ []) p

      long : length was ≡ processors
      long = length-places (stamp sys M n w es) 0 processors

      same : (p : ℕ) → p < processors → more p ≡ now p
      same p l =
          let z : 0 + p ≡ p = omega arith in
          let first : get_or was p 0 ≡ stamp sys M n w es p = get-places (stamp sys M n w es) 0 processors p l
          ∙ ap (stamp sys M n w es) z in
          let here : one_if (counts_for ran before.state u p) ≡ counted e before (step sys M n before e) p =
          ap (λ (o : Option ℕ). one_if (counts_for o before.state u p)) place ∙ counts p in
          let all = stamp-append sys M n w es (e ∷ []) p in
          omega (arith, first, here, all)

      each : (p : ℕ) → p < length (map more (places_from 0 (length was)))
          → get_or (map more (places_from 0 (length was))) p 0 ≡ get_or (map now (places_from 0 processors)) p 0
      each p l =
          let z : 0 + p ≡ p = omega arith in
          let many : length (map more (places_from 0 (length was))) ≡ length was = length-places more 0 (length was) in
          let inside : p < processors = omega (arith, l, many, long) in
          get-places more 0 (length was) p (omega (arith, inside, long)) ∙ ap more z ∙ same p inside
          ∙ sym (get-places now 0 processors p inside ∙ ap now z)

-- the same for an event that is done
pub stamped-stamps : {C : Type 0} (sys : SystemTables) (M : Meaning C) (n : ℕ) (w : World C) (es : List Event)
    (e : Event) (d : Done C) (processors : ℕ)
    → step sys M n (run sys M n w es).world e ≡ Did d
    → stamped d.lines (run sys M n w es).world.state d.world.state (map (stamp sys M n w es) (places_from 0 processors))
    ≡ map (stamp sys M n w (es ++ e ∷ [])) (places_from 0 processors)
stamped-stamps {C} sys M n w es e d processors did =
    let before : World C = (run sys M n w es).world in
    counted-stamps sys M n w es e (place_run d.lines) d.world.state processors
    (subst (λ (r : Reaction C). Names (run_place e) r) did (step_names sys M n before e))
    (λ p. sym (ap (λ (r : Reaction C). counted e before r p) did))

-- and for one that keeps a place
pub kept-stamps : {C : Type 0} (sys : SystemTables) (M : Meaning C) (n : ℕ) (w : World C) (es : List Event)
    (e : Event) (q : ℕ) (v : World C) (processors : ℕ)
    → step sys M n (run sys M n w es).world e ≡ Kept q v
    → stamped_by (Some q) (run sys M n w es).world.state v.state (map (stamp sys M n w es) (places_from 0 processors))
    ≡ map (stamp sys M n w (es ++ e ∷ [])) (places_from 0 processors)
kept-stamps {C} sys M n w es e q v processors kept =
    let before : World C = (run sys M n w es).world in
    counted-stamps sys M n w es e (Some q) v.state processors
    (sym (subst (λ (r : Reaction C). Names (run_place e) r) kept (step_names sys M n before e)))
    (λ p. sym (ap (λ (r : Reaction C). counted e before r p) kept))

-- after no event they are all 0
pub stamps-none : {C : Type 0} (sys : SystemTables) (M : Meaning C) (n : ℕ) (w : World C) (processors : ℕ)
    → replicate processors 0 ≡ map (stamp sys M n w []) (places_from 0 processors)
stamps-none sys M n w processors = from 0 processors where
  from : (k processors : ℕ) → replicate processors 0 ≡ map (stamp sys M n w []) (places_from k processors)
  from k zero = refl
  from k (suc processors) = ap (λ (xs : List ℕ). 0 ∷ xs) (from (k + 1) processors)

-- the stamp at the place of a processor
pub stamp-at : {C : Type 0} (sys : SystemTables) (M : Meaning C) (n : ℕ) (w : World C) (es : List Event)
    (processors p : ℕ) → p < processors
    → get_or (map (stamp sys M n w es) (places_from 0 processors)) p 0 ≡ stamp sys M n w es p
stamp-at sys M n w es processors p l =
    let z : 0 + p ≡ p = omega arith in get-places (stamp sys M n w es) 0 processors p l ∙ ap (stamp sys M n w es) z
