use Rattle.fmp_c.proofs.Steps.{one, loose_in}
use Rattle.fmp_c.proofs.Rows.{Z, Z-laws, no_drop}
use Rattle.std.proofs.Common.{◌≡◌, List, [], ◌∷◌, ◌++◌, refl, sym, ap, ◌∙◌, subst}
use base.Fraction.{full_share}
use base.Fml.{ftrue, flft}
use base.Logic.{SProp, ent, emp, id⊢, never, fst∗}
use types.Logic.{sem}
use mir.Raw.{raw as bare}
use mir.Syntax.{a_type, dcons, dnil}
use mir.MapTy.{inst_fn}
use denote.Param.{param, bounded}
use mir.Val.{Val}
use prog.Wp.{WpFn}
use contract.Monad.{fact, fact_i}
use contract.BorrowLft.{◌⊑◌, ⊑_static}
use contract.Running.{tables, tables_of}
use types.Kit.{‵, raw, ◌⊛◌, some, later, ◌$◌, ◌∵◌, !, qed, by, move, keep, drop, split, join, fsplit, fjoin, pick}
use types.Kit.{suffices, use0, use1, await, feq_l}
use types.Run.{of_opd, no_more, and_then, returns, enter}
use types.Part.{agg}
use types.ByLocal.{alloc_all, pass_all, free_all, look_at, get, sets, lands_as}
use denote.RattleType.{RattleType, owns}
use denote.Exit.{no}
use denote.Memory.{lone}
use denote.Signature.{types_at, plain}
use denote.Builtin.{RawPtr}
use denote.RawPtr.{Ptr, ptr_val, block_ptr, null_ptr, in_a_block}
use denote.Steps.{nothing, only}
use denote.Triple.Clauses.{Lasts, lasts}
use denote.Triple.Spec.{triple_of}
use denote.Triple.Call.{calls_at}
use denote.Triple.Walked.{Stays, stay_dropped, walk_of}
use Rattle.core.proofs.alloc.Calls.{Goes-blank}
use denote.Param.NoDrop.{glues}
use Rattle.core.proofs.atomic.Steps.{fm}
use Rattle.std_alloc.proofs.BoxSteps.Form as box
use Rattle.std_alloc.proofs.BoxSteps.Steps.{box_out, box_in}
use Rattle.std.proofs.raw_atomic.Walks.{proved_at, leaves}
use Rattle.std_alloc.specs.contracts.boxed.Box.into_raw as callee
use Rattle.std_alloc.proofs.boxed.Box.into_raw.Met.{met}
use Rattle.std_heap.proofs.GlobalAllocator.TheImpl.Met.{passed}
use Rattle.std_heap.specs.contracts.GlobalAllocator.TheImpl as heap
use Rattle.fmp_c.specs.Held.{token}
use Rattle.std_alloc.specs.Box.Ownership.{box_owns}
use Rattle.std_alloc.specs.contracts.boxed.Box as bx
use Rattle.std_heap.specs.contracts.Global as global
use Rattle.fmp_c.specs.contracts.handle.Loose.of as f
use Rattle.fmp_c.proofs.handle.Loose.of.Statement.{statement}
use Rattle.fmp_c.proofs.handle.Loose.of.Code as code

pub of_spec : {M : Type 1} → statement M
unfolding tables_of Rattle.fmp_c.proofs.Destruct++none.drop.Code.code
of_spec 𝓤 𝓛 𝓜 𝓡 wired T L dx glue =
    let H = 𝓛.H in let 𝓣 = tables 𝓤 H 𝓜 𝓡 𝓡.env in let R : RattleType = param 0 T in let En = f.ended T dx in
    let c = f.clauses T dx 𝓛 𝓜.mem 𝓡.returns in
    let E : box.Bx = record {
      row = T;
      laws = L;
      al = record {
        row = Z;
        laws = Z-laws;
        g = heap.ghosts;
        d =
            heap.dict;
        drops = no_drop;
      };
    } in
    let B0 : RattleType = bx.the_row R global.the_row heap.ghosts in let ty = bounded (a_type ∷ []) (T, tt)
    (dcons dx dnil) in let fn = inst_fn ty code.function in
    let stayed : Stays En.signature.params En.kept = (stay_dropped (plain (λ _. B0)) no, tt) in
    proved_at 𝓛 En stayed c 𝓜 𝓡 (Goes-blank 𝓛 1 (plain (λ _. B0)) no (λ κs x f. tt), tt)
    (f.Key.name ty) fn (code.unfolded 𝓤 H 𝓜 𝓡 wired (T, tt) dx) (λ z are.
    let v = z.0.3.0 in let a = v.alloc in let κ = z.0.0.0 in let q = z.0.1.0 in
    let Post : Val → SProp 𝓤 = (walk_of 𝓛 En stayed c).post z in let Run : List Val →
    SProp 𝓤 = λ ws. WpFn 𝓤 H 𝓣.C 𝓣.Λ fn ws Post in
    qed 𝓛 (((‵ (flft κ q) ⊛ ‵ ftrue) ⊛ ‵ (owns (types_at En.signature.params z.0.0) z.0.3 z.0.4)) ∷ (raw (fact 𝓤 (κ ⊑
    T.lives)) ⊛ raw (emp 𝓤)) ∷ []) ∵ split ! $ split ! $ move ! (1 ∷ []) $ drop ! $
    -- [the token; the box; the fact]
    move ! (2 ∷ []) $ split ! $ move ! (1 ∷ []) $ drop ! $ move ! (2 ∷ []) $
    fsplit ! $ box_out E ! v z.0.4.0 (λ b o h e ws fits. box_in E ! v b o v.value e refl $
    let w : Val = box.word E h b o in let typed = box.box_typed E h b o fits in
    let k = triple_of 𝓛 (callee.signature T Z heap.ghosts heap.dict no_drop dx)
    (callee.spec T Z heap.ghosts heap.dict no_drop dx 𝓛 𝓜.mem 𝓡.returns) in
    let y : k.Ghost = (((κ, ([], tt)), (q, (full_share, tt)), tt, (v, tt), (w ∷ [], tt)), tt) in
    let toks = ‵ (flft κ q) ⊛ ‵ (flft [] full_share) ⊛ ‵ ftrue in
    -- [the box; the end of the parameters; the fact; the token]
    fjoin ! $ use0 𝓛 (raw (emp 𝓤)) (id⊢ 𝓤 (emp 𝓤)) $ use0 𝓛 (raw (fact 𝓤 ([] ⊑ Z.lives))) (fact_i 𝓤 ([] ⊑ Z.lives)
    (emp 𝓤) (⊑_static [])) $ join ! $ move ! (2 ∷ 0 ∷ []) $ join ! $
    -- [what is required; the box; the token]
    nothing ! $ use0 𝓛 (‵ (flft [] full_share)) (𝓛.lfts.lft-nil full_share) $ join ! $ move ! (3 ∷ 0 ∷ []) $ join ! $
    move ! (0 ∷ 2 ∷ []) $ join ! $ join ! $ use1 𝓛 (raw (k.pre y)) (id⊢ 𝓤 _) $
    suffices ! (Run (w ∷ [])) (subst (λ (us : List Val). ent 𝓤 (Run (w ∷ [])) (Run us)) (sym (λ i. ws i ++ []))
    (id⊢ 𝓤 (Run (w ∷ [])))) $
    enter ! 𝓣.C 𝓣.Λ fn (w ∷ []) Post $ alloc_all ! (λ l. pass_all ! refl (typed, tt) $
    sets ! (of_opd ! (get ! refl)) refl typed $
    calls_at ! (fm 𝓛 𝓜 𝓡) k (met 𝓤 𝓛 𝓜 𝓡 (code.calls-std_alloc::boxed::Box::into_raw 𝓡.env wired) T Z L Z-laws
    heap.ghosts heap.dict no_drop dx
    (passed 𝓡.env (code.calls-std_heap::GlobalAllocator::allocate 𝓡.env wired)
    (code.calls-std_heap::GlobalAllocator::deallocate 𝓡.env wired)
    (code.calls-std_heap::GlobalAllocator::grow 𝓡.env wired)
    (code.calls-std_heap::GlobalAllocator::shrink 𝓡.env wired) _ 𝓤 𝓛 𝓜 𝓡)
    (glues "fmp_c::Destruct++none::drop" 𝓡.env (code.calls-fmp_c::Destruct++none::drop 𝓡.env wired) Z Z-laws _ 𝓤 𝓛 𝓜
    𝓡) glue) y (and_then ! (get ! refl) (no_more !)) (λ u.
    use1 𝓛 (later (some (λ (r : Ptr). (toks ⊛ ‵ (RawPtr.own_val r (u ∷ []))) ⊛ some (λ (ls : Lasts (callee.ended T Z
    heap.ghosts heap.dict no_drop dx) y.0.0 y.0.3). ‵ (lasts (callee.ended T Z heap.ghosts heap.dict no_drop dx)
    y.0.0 y.0.3 ls) ⊛ ‵ (box_owns token R r v.value))))) (id⊢ 𝓤 (k.post y u)) $
    await ! tt $ pick ! (λ r. split ! $ move ! (1 ∷ []) $ pick ! (λ _. split ! $ drop ! $
    in_a_block ! r (λ p. box_owns token R p v.value) (fst∗ 𝓤 (never 𝓤) (sem 𝓛 (token (bare (lone R.mir)) null_ptr)))
    (λ b' o' e'.
    move ! (1 ∷ []) $ split ! $ split ! $ move ! (1 ∷ []) $ drop ! $ move ! (1 ∷ []) $ feq_l ! (λ eu.
    -- [the token; the box]
    lands_as ! (ap only (eu ∙ ap (λ (p : Ptr). ptr_val p ∷ []) e')) refl (tt, tt) $
    sets ! (agg ! (and_then ! (get ! refl) (no_more !))) refl (tt, (tt, tt)) $ move ! (1 ∷ []) $
    loose_in R ! (block_ptr b' o') v.value $
    use0 𝓛 (raw (fact 𝓤 (v.value ≡ v.value))) (fact_i 𝓤 (v.value ≡ v.value) (emp 𝓤) refl) $ nothing ! $ nothing ! $
    fjoin ! $ move ! (3 ∷ []) $ nothing ! $ move ! (1 ∷ 0 ∷ []) $ join ! $
    returns ! (look_at ! 0 refl) $ free_all ! refl $ keep ! (0 ∷ 1 ∷ 3 ∷ 2 ∷ []) $
    by ! (leaves 𝓛 En stayed c z (one (block_ptr b' o')) (record { at = block_ptr b' o'; value = v.value }) (tt, tt)
    (tt, tt))))))))))
