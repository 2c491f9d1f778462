use Rattle.fmp_c.proofs.Steps.{one, loose_out}
use Rattle.fmp_c.proofs.Rows.{S, Z, S-laws, Z-laws, no_drop, E}
use Rattle.std.proofs.Common.{◌≡◌, List, [], ◌∷◌, ◌++◌, refl, sym, ap, ◌∙◌, subst}
use base.Fraction.{full_share}
use base.Fml.{ftrue, flft}
use base.Logic.{SProp, ent, emp, id⊢, never, fst∗}
use types.Logic.{sem}
use mir.Raw.{raw as bare}
use denote.Memory.{lone}
use contract.BorrowLft.{◌⊑◌, ⊑_static}
use denote.Param.{layout}
use Rattle.core.proofs.cell.Inside.{Good}
use Rattle.std_alloc.proofs.BoxSteps.Steps.{box_out, box_in}
use mir.Val.{Val, vptr}
use prog.Wp.{WpFn}
use contract.Monad.{fact, fact_i}
use contract.Running.{tables, tables_of}
use types.Kit.{‵, raw, ◌⊛◌, some, later, at_ret, ◌$◌, ◌∵◌, !, qed, by, move, keep, drop, split, split3, join, fsplit}
use types.Kit.{fjoin, pick, suffices, use0, use1, await, rewrite, feq_i}
use types.Run.{stop, fld, of_opd, no_more, and_then, first, blocks, exec, returns, enter}
use types.Part.{sub, whole}
use types.ByLocal.{alloc_all, pass_all, free_all, look_at, get, get_in, sets, lands_last, env}
use denote.RattleType.{RattleType, owns}
use denote.Exit.{yes}
use denote.Signature.{types_at, plain}
use denote.RawPtr.{Ptr, block_ptr, null_ptr, in_a_block}
use denote.Steps.{nothing, only, heard}
use denote.Triple.Clauses.{Lasts, lasts}
use denote.Triple.Spec.{triple_of}
use denote.Triple.Call.{calls_at_last}
use denote.Triple.Walked.{Stays, stay_dropped, Goes-dropped, walk_of}
use denote.Param.NoDrop.{glues}
use Rattle.core.proofs.alloc.Calls.{handle_tells}
use Rattle.core.proofs.alloc.Shapes.{after}
use Rattle.core.proofs.atomic.Steps.{fm}
use Rattle.std_alloc.proofs.BoxSteps.Form as box
use Rattle.std.proofs.raw_atomic.Walks.{proved_at, leaves}
use Rattle.std_alloc.specs.contracts.boxed.Box.from_raw as callee
use Rattle.std_alloc.proofs.boxed.Box.from_raw.Met.{met}
use Rattle.std_heap.proofs.GlobalAllocator.TheImpl.Met.{passed}
use Rattle.std_heap.specs.contracts.GlobalAllocator.TheImpl as heap
use Rattle.fmp_c.specs.Held.{token}
use Rattle.std_alloc.specs.Box.Ownership.{box_owns}
use Rattle.fmp_c.specs.contracts.machine.Machine as machine
use Rattle.fmp_c.specs.contracts.handle.Loose as loose
use Rattle.std_heap.specs.contracts.Global as global
use Rattle.fmp_c.specs.contracts.handle.FmpSystem.boxed as f
use Rattle.fmp_c.proofs.handle.FmpSystem.boxed.Statement.{statement}
use Rattle.fmp_c.proofs.handle.FmpSystem.boxed.Code as code

abbrev stayed : Stays f.ended.signature.params f.ended.kept
stayed = (stay_dropped _ yes, (stay_dropped _ yes, tt))

pub boxed_spec : {M : Type 1} → statement M
unfolding tables_of Rattle.fmp_c.proofs.Destruct++none.drop.Code.code
boxed_spec 𝓤 𝓛 𝓜 𝓡 wired =
    let H = 𝓛.H in let 𝓣 = tables 𝓤 H 𝓜 𝓡 𝓡.env in let c = f.clauses 𝓛 𝓜.mem 𝓡.returns in let fn = code.function in
    proved_at 𝓛 f.ended stayed c 𝓜 𝓡 (
      Goes-dropped 𝓛 0 (plain (λ _. loose.the_row machine.the_row)) yes (λ κs x w.
          refl),
      (Goes-dropped 𝓛 0 (plain (λ _. global.the_row)) yes (λ κs x w. refl), tt),
    )
    f.Key.name fn (code.unfolded 𝓤 H 𝓜 𝓡 wired) (λ z are.
    let h = z.0.3.0 in let a = z.0.3.1.0 in
    let Post : Val → SProp 𝓤 = (walk_of 𝓛 f.ended stayed c).post z in let Run : List Val →
    SProp 𝓤 = λ ws. WpFn 𝓤 H 𝓣.C 𝓣.Λ fn ws Post in
    qed 𝓛 ((‵ ftrue ⊛ ‵ (owns (types_at f.ended.signature.params z.0.0) z.0.3 z.0.4)) ∷ raw (emp 𝓤) ∷ []) ∵ split ! $
    drop ! $ move ! (1 ∷ []) $ drop ! $ let x = h.value in
    fsplit ! $ loose_out machine.the_row ! h z.0.4.0 (λ ews.
    in_a_block ! h.at (λ p. box_owns token machine.the_row p x) (fst∗ 𝓤 (never 𝓤)
    (sem 𝓛 (token (bare (lone machine.the_row.mir)) null_ptr))) (λ b o e.
    move ! (1 ∷ []) $ fsplit ! $ handle_tells E.al ! a z.0.4.1.0 (λ hv ea fits.
    let k = triple_of 𝓛 (callee.signature S Z heap.ghosts heap.dict no_drop)
    (callee.spec S Z heap.ghosts heap.dict no_drop 𝓛 𝓜.mem 𝓡.returns) in
    let y : k.Ghost = (
      (
        ([], ([], tt)),
        (full_share, (full_share, tt)),
        tt,
        (a, (block_ptr b o, tt)),
        (
          hv ∷ [],
          (
            vptr
                b o ∷ [],
            tt,
          ),
        ),
      ),
      x,
    ) in
    let toks = ‵ (flft [] full_share) ⊛ ‵ (flft [] full_share) ⊛ ‵ ftrue in let B : RattleType = box.B E in
    -- [the handle; the end of the parameters; the box]
    move ! (2 ∷ []) $ use0 𝓛 (raw (fact 𝓤 ([] ⊑ Z.lives))) (fact_i 𝓤 ([] ⊑ Z.lives) (emp 𝓤) (⊑_static [])) $ join ! $
    use0 𝓛 (raw (fact 𝓤 ([] ⊑ S.lives))) (fact_i 𝓤 ([] ⊑ S.lives) (emp 𝓤) (⊑_static [])) $ join ! $
    move ! (2 ∷ []) $ feq_i ! (List Val) (vptr b o ∷ []) (vptr b o ∷ []) refl $ fjoin ! $ move ! (2 ∷ 0 ∷ []) $
    fjoin ! $
    nothing ! $ use0 𝓛 (‵ (flft [] full_share)) (𝓛.lfts.lft-nil full_share) $ join ! $
    use0 𝓛 (‵ (flft [] full_share)) (𝓛.lfts.lft-nil full_share) $ join ! $ join ! $ join ! $ use1 𝓛 (raw (k.pre y))
    (id⊢ 𝓤 _) $
    let w = one (block_ptr b o) in
    suffices ! (Run (w ∷ hv ∷ [])) (subst (λ (us : List Val). ent 𝓤 (Run (w ∷ hv ∷ [])) (Run us)) (sym (λ i. (ews ∙
    ap (λ (p : Ptr). one p ∷ []) e) i ++ (ea i ++ []))) (id⊢ 𝓤 (Run (w ∷ hv ∷ [])))) $
    enter ! 𝓣.C 𝓣.Λ fn (w ∷ hv ∷ []) Post $ alloc_all ! (λ l. pass_all ! refl ((tt, (tt, tt)), (fits, tt)) $
    let Ev = env fn.locals l in
    sets ! (of_opd ! (get_in ! (fld ! refl (stop !)) (sub ! 0 refl (whole !)))) refl (tt, tt) $ first ! $ blocks ! $
    calls_at_last ! (fm 𝓛 𝓜 𝓡) k (met 𝓤 𝓛 𝓜 𝓡 (code.calls-std_alloc::boxed::Box::from_raw 𝓡.env wired) S Z S-laws
    Z-laws heap.ghosts heap.dict no_drop
    (passed 𝓡.env (code.calls-std_heap::GlobalAllocator::allocate 𝓡.env wired)
    (code.calls-std_heap::GlobalAllocator::deallocate 𝓡.env wired)
    (code.calls-std_heap::GlobalAllocator::grow 𝓡.env wired)
    (code.calls-std_heap::GlobalAllocator::shrink 𝓡.env wired) _ 𝓤 𝓛 𝓜 𝓡)
    (glues "fmp_c::Destruct++none::drop" 𝓡.env (code.calls-fmp_c::Destruct++none::drop 𝓡.env wired) Z Z-laws _ 𝓤 𝓛 𝓜
    𝓡)) y (and_then ! (get ! refl) (and_then ! (get ! refl) (no_more !))) (λ u.
    use1 𝓛 (later (some (λ (r : B.Denot). (toks ⊛ ‵ (B.own_val r (u ∷ []))) ⊛ some (λ (ls : Lasts (callee.ended S Z
    heap.ghosts heap.dict no_drop) y.0.0 y.0.3). ‵ (lasts (callee.ended S Z heap.ghosts heap.dict no_drop) y.0.0
    y.0.3 ls) ⊛ (raw (fact 𝓤 (r.value ≡ x)) ⊛ raw (fact 𝓤 (r.alloc ≡ a))))))) (id⊢ 𝓤 (k.post y u)) $
    await ! tt $ pick ! (λ r. split ! $ move ! (1 ∷ []) $ pick ! (λ _. split3 ! $ drop ! $ heard ! (r.value ≡ x)
    (λ ev. drop ! $ split ! $ drop ! $
    box_out E ! r (u ∷ []) (λ b' o' h' e' us fits'. box_in E ! r b' o' r.value e' refl $
    rewrite ! 0 (λ (xs : List Val). ‵ (B.own_val r xs)) (sym us) refl $
    let good : Good (layout B) u = subst (Good (layout B)) (sym (ap only us)) (box.box_typed E h' b' o' fits') in
    lands_last ! refl good $ exec ! 𝓣.C 𝓣.Λ Ev (after 2 fn.body) (at_ret Ev Post) $
    sets ! (of_opd ! (get ! refl)) refl good $
    use0 𝓛 (raw (fact 𝓤 (r.value ≡ h.value))) (fact_i 𝓤 (r.value ≡ h.value) (emp 𝓤) ev) $
    nothing ! $ nothing ! $ fjoin ! $ nothing ! $ fjoin ! $ nothing ! $
    returns ! (look_at ! 0 refl) $ free_all ! refl $ keep ! (0 ∷ 1 ∷ 3 ∷ 2 ∷ []) $
    by ! (leaves 𝓛 f.ended stayed c z u r (tt, (tt, tt)) (tt, (tt, tt)))))))))))))
