use Rattle.fmp_c.proofs.Steps.{one, held_in, loose_out}
use Rattle.std.proofs.Common.{◌≡◌, List, [], ◌∷◌, ◌++◌, refl, sym, ap, ◌∙◌, subst}
use Rattle.std.specs.Prelude.{Some}
use base.Fml.{ftrue}
use base.Logic.{SProp, ent, emp, id⊢, never, fst∗}
use types.Logic.{sem}
use mir.Raw.{raw as bare}
use mir.Val.{Val}
use prog.Wp.{WpFn}
use contract.Monad.{fact, fact_i}
use contract.Running.{tables}
use types.Kit.{‵, raw, ◌⊛◌, ◌$◌, ◌∵◌, !, qed, by, move, keep, drop, split, fsplit, fjoin, suffices, use0}
use types.Run.{stop, fld, of_opd, no_more, and_then, returns, enter}
use types.Part.{agg, sub, whole}
use types.ByLocal.{alloc_all, pass_all, free_all, look_at, get, get_in, sets}
use denote.RattleType.{owns}
use denote.Exit.{yes}
use denote.Memory.{lone}
use denote.Signature.{types_at, plain}
use denote.RawPtr.{Ptr, block_ptr, null_ptr, in_a_block}
use denote.Steps.{nothing}
use denote.Triple.Walked.{Stays, stay_dropped, Goes-dropped, walk_of}
use Rattle.std.proofs.raw_atomic.Walks.{proved_at, leaves}
use Rattle.fmp_c.specs.Held.{token}
use Rattle.std_alloc.specs.Box.Ownership.{box_owns}
use Rattle.fmp_c.specs.contracts.machine.Machine as machine
use Rattle.fmp_c.specs.contracts.handle.Loose as loose
use Rattle.fmp_c.specs.contracts.handle.FmpSystem.seal as f
use Rattle.fmp_c.proofs.handle.FmpSystem.seal.Statement.{statement}
use Rattle.fmp_c.proofs.handle.FmpSystem.seal.Code as code

abbrev stayed : Stays f.ended.signature.params f.ended.kept
stayed = (stay_dropped _ yes, tt)

pub seal_spec : {M : Type 1} → statement M
seal_spec 𝓤 𝓛 𝓜 𝓡 wired =
    let H = 𝓛.H in let 𝓣 = tables 𝓤 H 𝓜 𝓡 𝓡.env in let c = f.clauses 𝓛 𝓜.mem 𝓡.returns in let fn = code.function in
    proved_at 𝓛 f.ended stayed c 𝓜 𝓡 (
      Goes-dropped 𝓛 0 (plain (λ _. loose.the_row machine.the_row)) yes (λ κs x w.
          refl),
      tt,
    )
    f.Key.name fn (code.unfolded 𝓤 H 𝓜 𝓡 wired) (λ z are.
    let v = z.0.3.0 in
    let Post : Val → SProp 𝓤 = (walk_of 𝓛 f.ended stayed c).post z in let Run : List Val →
    SProp 𝓤 = λ ws. WpFn 𝓤 H 𝓣.C 𝓣.Λ fn ws Post in
    qed 𝓛 ((‵ ftrue ⊛ ‵ (owns (types_at f.ended.signature.params z.0.0) z.0.3 z.0.4)) ∷ raw (emp 𝓤) ∷ []) ∵ split ! $
    drop ! $ move ! (1 ∷ []) $ drop ! $
    fsplit ! $ loose_out machine.the_row ! v z.0.4.0 (λ ews.
    in_a_block ! v.at (λ p. box_owns token machine.the_row p v.value) (fst∗ 𝓤 (never 𝓤)
    (sem 𝓛 (token (bare (lone machine.the_row.mir)) null_ptr))) (λ b o e.
    let w = one (block_ptr b o) in
    suffices ! (Run (w ∷ [])) (subst (λ (us : List Val). ent 𝓤 (Run (w ∷ [])) (Run us)) (sym (λ i. (ews ∙
    ap (λ (p : Ptr). one p ∷ []) e) i ++ [])) (id⊢ 𝓤 (Run (w ∷ [])))) $
    enter ! 𝓣.C 𝓣.Λ fn (w ∷ []) Post $ alloc_all ! (λ l. pass_all ! refl ((tt, (tt, tt)), tt) $
    sets ! (of_opd ! (get_in ! (fld ! refl (stop !)) (sub ! 0 refl (whole !)))) refl (tt, tt) $
    sets ! (of_opd ! (get ! refl)) refl (tt, tt) $
    sets ! (agg ! (and_then ! (get ! refl) (no_more !))) refl (tt, (tt, tt)) $ held_in ! (block_ptr b o)
    (Some v.value) $
    use0 𝓛 (raw (fact 𝓤 (Some v.value ≡ Some v.value))) (fact_i 𝓤 (Some v.value ≡ Some v.value) (emp 𝓤) refl) $
    nothing ! $ nothing ! $ fjoin ! $ nothing ! $
    returns ! (look_at ! 0 refl) $ free_all ! refl $ keep ! (0 ∷ 1 ∷ 3 ∷ 2 ∷ []) $
    by ! (leaves 𝓛 f.ended stayed c z w (record { at = block_ptr b o; machine = Some v.value }) (tt, tt) (tt, tt))))))
