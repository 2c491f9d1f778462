-- The code of an accepted text is verified.
use Rattle.std.proofs.Common.{◌≡◌, ℕ, zero, suc, ◌+◌, ◌≤◌, Bool, true, false, ◌||◌, nat_lt, List, [], ◌∷◌, ◌++◌, Some}
use Rattle.std.proofs.Common.{None, refl, subst, arith}
use Rattle.std.specs.Prelude.{slice_get}
use Rattle.std.proofs.lemmas.Bool.{ltb-false}
use Rattle.std.proofs.lemmas.Option.{slice_get_within}
use Rattle.fmp_base.specs.declared.names.Name.{Name}
use Rattle.fmp_base.specs.Systems.{SystemTables}
use Rattle.fmp_lex.specs.declared.fault.FaultKind.TheVariants as fault
use Rattle.fmp_tasklang.specs.Trees.{BodyTree}
use Rattle.fmp_tasklang.specs.Layout.{exinf_local}
use Rattle.fmp_tasklang.specs.Scopes.{scope_of}
use Rattle.fmp_instructions.specs.declared.instructions.Instruction.TheVariants.{End}
use Rattle.fmp_instructions.specs.Instructions.{BodyTables}
use Rattle.fmp_instructions.specs.Verify.{KeepsTable, VerifiedBody, Verified}
use Rattle.fmp_tasklang.specs.CallForms.{BlockFits, CallsFit}
use Rattle.fmp_codegen.specs.Compiling.{size_offence, body_offence, bodies_offence, compiled_body, compiled, IsAccepted}
use Rattle.fmp_scopes.specs.Depths.{body_depth}
use Rattle.fmp_scopes.specs.DepthTables.{block_depths, body_depths}
use Rattle.fmp_scopes.specs.declared.offences.Offence.{Offence}
use Rattle.fmp_scopes.specs.Scheme.{block_code, body_code}
use Rattle.fmp_scopes.specs.Sizes.{block_size, body_size}
use Rattle.fmp_codegen.specs.Tie.{HasAt}
use Rattle.fmp_codegen.proofs.Bodies.{not-taken, Accepted, body-accepted, few-places, has-places}
use Rattle.fmp_codegen.proofs.DepthLengths.{HasDepths, depths_front, depths_back, depths_all, length-block_depths}
use Rattle.fmp_codegen.proofs.DepthLengths.{length-body_depths}
use Rattle.fmp_codegen.proofs.Fits.{fit_join, fit_at, block_first, block_fits}
use Rattle.fmp_codegen.proofs.Places.{laid-out}
use Rattle.fmp_codegen.proofs.Standing.{has_front, has_back, has_all}
use Rattle.fmp_emission.proofs.Lengths.{length-block_code, length-body_code}
use Rattle.fmp_scopes.proofs.KnownNames.{none-first, none-second}

-- ---- limits

or-false : (a b : Bool) → (a || b) ≡ false → (a ≡ false) × (b ≡ false)
or-false false b h = (refl, h)
or-false true b h = absurd (cc h)

pub record Small (body : BodyTree) : Type 0 where
  pub size : body_size body ≤ 65535
  pub depth : body_depth body ≤ 64

pub is_small : (body : BodyTree) → size_offence body ≡ None → Small body
is_small body h =
    let limit : Offence = record { at = body.at; why = fault.Limit } in
    let tests = or-false (nat_lt 65535 (body_size body)) (nat_lt 64 (body_depth body))
    (not-taken (nat_lt 65535 (body_size body) || nat_lt 64 (body_depth body)) limit None h) in
    record { size = ltb-false 65535 (body_size body) tests.0; depth = ltb-false 64 (body_depth body) tests.1 }

-- ---- a body

keeps_table :
    (tables : SystemTables) (body : BodyTree) → Accepted tables body → BlockFits body.statements →
    KeepsTable (compiled_body tables body)
keeps_table tables body ok fits =
    let scope = scope_of tables body in
    let code = body_code tables body in
    let table = body_depths body in
    let n = block_size body.statements in
    let statements = block_code scope body.statements 0 n n in
    let entries = block_depths body.statements in
    let laid = laid-out tables body (has-places tables (exinf_local ∷ []) body.variables ok.variables) in
    let small = is_small body ok.size in
    let has : HasAt code 0 code = has_all code [] in
    let hd : HasDepths table 0 table = depths_all table [] in
    let front = has_front code 0 statements (End ∷ []) has in
    let back = has_back code 0 n statements (End ∷ []) (length-block_code scope body.statements 0 n n) has in
    let dfront = depths_front table 0 entries (0 ∷ []) hd in
    let dback = depths_back table 0 n entries (0 ∷ []) (length-block_depths body.statements) hd in
    let same : 0 + n ≡ n = omega arith in
    let end = subst (λ m. slice_get table m ≡ Some 0) same dback.0 in
    let last = subst (λ m. slice_get code m ≡ Some End) same back.0 in
    let all = fit_join scope code table laid 0 n (n + 1)
    (block_fits scope code table laid body.statements 0 n n n front dfront ok.names fits small.depth same end end end)
    (fit_at scope code table laid n (n + 1) End 0 refl last end (omega arith) refl) in
    let long = length-body_code tables body in
    let entries_long = length-body_depths body in
    record {
      first = block_first scope code table laid body.statements 0 n dfront same end;
      size = omega (arith, long, small.size);
      long = omega (arith, long, entries_long);
      each = λ place i d hi hx.
          all place i d (omega arith) (omega (arith, long, slice_get_within code place i hi)) hi hx;
    }

body_verified :
    (tables : SystemTables) (body : BodyTree) → Accepted tables body → BlockFits body.statements →
    VerifiedBody (compiled_body tables body)
body_verified tables body ok fits =
    record {
      locals = omega (arith, few-places tables body ok.variables);
      table = keeps_table tables body ok fits;
    }

-- ---- all bodies

each_verified :
    (tables : SystemTables) (names : List Name) (bodies : List BodyTree) → bodies_offence tables names bodies ≡ None →
    CallsFit bodies → (k : ℕ) (b : BodyTables) → slice_get (compiled tables bodies) k ≡ Some b → VerifiedBody b
each_verified tables names [] h fits k b found = absurd (cc found)
each_verified tables names (body ∷ bs) h fits zero b found =
    let first = body_offence tables names body in
    let rest = bodies_offence tables (names ++ body.name.name ∷ []) bs in
    let ok = body-accepted tables names body (none-first first rest h) in
    let same : compiled_body tables body ≡ b = cc found in
    subst VerifiedBody same (body_verified tables body ok fits.0)
each_verified tables names (body ∷ bs) h fits (suc k) b found =
    let first = body_offence tables names body in
    let rest = bodies_offence tables (names ++ body.name.name ∷ []) bs in
    each_verified tables (names ++ body.name.name ∷ []) bs (none-second first rest h) fits.1 k b found

pub is_verified :
    (tables : SystemTables) (bodies : List BodyTree) → IsAccepted tables bodies → CallsFit bodies →
    Verified (compiled tables bodies)
is_verified tables bodies accepted fits = record { each = each_verified tables [] bodies accepted fits }
