use Rattle.fmp_c.proofs.Steps.{one, held_in}
use Rattle.std.proofs.Common.{◌≡◌, [], ◌∷◌, refl, lit<}
use base.Fml.{ftrue}
use Rattle.std.specs.Prelude.{None}
use base.Logic.{emp}
use types.Kit.{fpack, raw, ◌$◌, ◌∵◌, !, qed, done, drop, suffices}
use types.Run.{enter, lit, no_more, and_then, returns}
use types.Part.{agg}
use types.ByLocal.{alloc_all, pass_all, free_all, look_at, sets}
use denote.RawPtr.{null_ptr}
use denote.Steps.{nothing}
use denote.Triple.Entry.{on_entry}
use denote.Triple.Walked.{Stays, says, ends_at}
use Rattle.std.proofs.raw_atomic.Walks.{proved}
use Rattle.fmp_c.specs.contracts.handle.FmpSystem.blank as f
use Rattle.fmp_c.proofs.handle.FmpSystem.blank.Statement.{statement}
use Rattle.fmp_c.proofs.handle.FmpSystem.blank.Code as code

abbrev stayed : Stays f.ended.signature.params f.ended.kept
stayed = tt

pub blank_spec : {M : Type 1} → statement M
blank_spec 𝓤 𝓛 𝓜 𝓡 wired =
    let c = f.clauses 𝓛 𝓜.mem 𝓡.returns in
    proved 𝓛 f.ended stayed c 𝓜 𝓡 tt
    f.Key.name code.function (code.unfolded 𝓤 𝓛.H 𝓜 𝓡 wired)
    (λ κs. tt) (λ κs. tt) (λ κs qs bounds a g are.
    qed 𝓛 (raw (on_entry 𝓛 f.signature κs qs a tt) ∷ raw (emp 𝓤) ∷ []) ∵ drop ! $ drop ! $
    enter ! _ _ _ _ _ $ alloc_all ! (λ l. pass_all ! refl tt $
    sets ! (agg ! (and_then ! (lit ! tt) (no_more !))) refl (tt, (record { fits = lit< tt }, tt)) $
    returns ! (look_at ! 0 refl) $ free_all ! refl $
    suffices ! _ (ends_at 𝓛 f.ended stayed c ((κs, qs, bounds, a, tt), g) (one null_ptr)
    (record { at = null_ptr; machine = None }) tt tt) $
    says ! refl $ nothing ! $ fpack ! (null_ptr ≡ null_ptr) (λ _. ftrue) refl $ held_in ! null_ptr None $ nothing ! $
    nothing ! $ done !))
