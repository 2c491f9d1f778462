-- The values of the text's locals stand at their places among the code's locals.
use Rattle.std.proofs.Common.{◌≡◌, ℕ, zero, suc, ◌+◌, ◌-◌, ◌<◌, ◌≤◌, Bool, true, false, List, [], ◌∷◌, ◌++◌, length}
use Rattle.std.proofs.Common.{get_or, map, nat_lt, Option, Some, None, Ok, Err, refl, sym, ap, ◌∙◌, subst, arith}
use Rattle.std.proofs.Common.{append_assoc, ℤ, pos, negsuc}
use Rattle.std.specs.Prelude.{slice_set, replicate, option_map, if◌then◌else◌}
use Rattle.std.proofs.lemmas.Bool.{ltb-true}
use Rattle.std.proofs.lemmas.List.{get_or_append_left, get_or-append-add, set-append_left, set-append_right, length-set}
use Rattle.std.proofs.lemmas.List.{length-replicate, replicate-append-replicate}
use Rattle.fmp_base.specs.declared.bodies.Fault.TheVariants as fault
use Rattle.fmp_base.specs.declared.calls.Reply.{Reply}
use Rattle.fmp_base.specs.declared.codes.Er.{Er}
use Rattle.fmp_base.specs.declared.codes.Er.TheVariants as er
use Rattle.fmp_base.specs.Deliveries as machine
use Rattle.fmp_base.specs.Operators.{place_in}
use Rattle.fmp_base.specs.declared.services.Service.{Service}
use Rattle.fmp_tasklang.specs.declared.trees.Declaration.{Declaration}
use Rattle.fmp_tasklang.specs.declared.trees.Word.{Word}
use Rattle.fmp_tasklang.specs.Contexts.{zeros, first_values, written, out_written, received}
use Rattle.fmp_tasklang.specs.Layout.{Local, local_of, total_places, first_place, places_at}
use Rattle.fmp_tasklang.specs.Scopes.{Scope, NameMeaning, Variable, Array, Object, Unknown, meaning_of, scope_of}
use Rattle.fmp_tasklang.specs.Stretches.{variable_number, word_number}
use Rattle.fmp_tasklang.specs.Trees.{BodyTree}
use Rattle.fmp_tasklang.specs.Values.{Values, value_at, set_at, array_number, array_places}
use Rattle.fmp_base.specs.Systems.{SystemTables}
use Rattle.fmp_scopes.specs.Scheme.{word_place}
use Rattle.fmp_codegen.specs.Tie.{all_values, LocalsTied}
use Rattle.fmp_codegen.proofs.Places.{IsPlain}

abbrev counts : Values → List ℕ
counts vs = map (λ (xs : List ℤ). length xs) vs

abbrev widths : List Local → List ℕ
widths ls = map (λ (l : Local). l.places) ls

-- ---- one value

value_there :
    (vs : Values) (ls : List Local) (v k : ℕ) (rest : List ℤ) → counts vs ≡ widths ls → k < places_at ls v →
    get_or (all_values vs ++ rest) (first_place ls v + k) (pos 0) ≡ value_at vs v k
value_there [] [] v k rest shape lt = absurd (omega (arith, lt))
value_there [] (l ∷ ls) v k rest shape lt = absurd (cc shape)
value_there (xs ∷ more) [] v k rest shape lt = absurd (cc shape)
value_there (xs ∷ more) (l ∷ ls) zero k rest shape lt =
    let long : length xs ≡ l.places = cc shape in
    let here : 0 + k ≡ k = omega arith in
    ap (λ n. get_or ((xs ++ all_values more) ++ rest) n (pos 0)) here
    ∙ ap (λ ys. get_or ys k (pos 0)) (append_assoc xs (all_values more) rest)
    ∙ get_or_append_left xs (all_values more ++ rest) (pos 0) k (omega (arith, long, lt))
value_there (xs ∷ more) (l ∷ ls) (suc v) k rest shape lt =
    let long : length xs ≡ l.places = cc shape in
    let others : counts more ≡ widths ls = cc shape in
    let n = first_place ls v + k in
    let there : l.places + first_place ls v + k ≡ length xs + n = omega (arith, long) in
    ap (λ i. get_or ((xs ++ all_values more) ++ rest) i (pos 0)) there
    ∙ ap (λ ys. get_or ys (length xs + n) (pos 0)) (append_assoc xs (all_values more) rest)
    ∙ get_or-append-add xs (all_values more ++ rest) n (pos 0)
    ∙ value_there more ls v k rest others lt

set_there :
    (vs : Values) (ls : List Local) (v k : ℕ) (x : ℤ) (rest : List ℤ) → counts vs ≡ widths ls → k < places_at ls v →
    slice_set (all_values vs ++ rest) (first_place ls v + k) x ≡ all_values (set_at vs v k x) ++ rest
set_there [] [] v k x rest shape lt = absurd (omega (arith, lt))
set_there [] (l ∷ ls) v k x rest shape lt = absurd (cc shape)
set_there (xs ∷ more) [] v k x rest shape lt = absurd (cc shape)
set_there (xs ∷ more) (l ∷ ls) zero k x rest shape lt =
    let long : length xs ≡ l.places = cc shape in
    let here : 0 + k ≡ k = omega arith in
    ap (λ n. slice_set ((xs ++ all_values more) ++ rest) n x) here
    ∙ ap (λ ys. slice_set ys k x) (append_assoc xs (all_values more) rest)
    ∙ set-append_left xs (all_values more ++ rest) k x (omega (arith, long, lt))
    ∙ sym (append_assoc (slice_set xs k x) (all_values more) rest)
set_there (xs ∷ more) (l ∷ ls) (suc v) k x rest shape lt =
    let long : length xs ≡ l.places = cc shape in
    let others : counts more ≡ widths ls = cc shape in
    let n = first_place ls v + k in
    let there : l.places + first_place ls v + k ≡ length xs + n = omega (arith, long) in
    let back : length xs + n - length xs ≡ n = omega arith in
    ap (λ i. slice_set ((xs ++ all_values more) ++ rest) i x) there
    ∙ ap (λ ys. slice_set ys (length xs + n) x) (append_assoc xs (all_values more) rest)
    ∙ set-append_right xs (all_values more ++ rest) (length xs) (length xs + n) x refl (omega arith)
    ∙ ap (λ i. xs ++ slice_set (all_values more ++ rest) i x) back
    ∙ ap (λ ys. xs ++ ys) (set_there more ls v k x rest others lt)
    ∙ sym (append_assoc xs (all_values (set_at more v k x)) rest)

shape_kept : (vs : Values) (v k : ℕ) (x : ℤ) → counts (set_at vs v k x) ≡ counts vs
shape_kept [] zero k x = refl
shape_kept [] (suc v) k x = refl
shape_kept (xs ∷ more) zero k x = ap (λ n. n ∷ counts more) (length-set xs k x)
shape_kept (xs ∷ more) (suc v) k x = ap (λ ns. length xs ∷ ns) (shape_kept more v k x)

module _ (scope : Scope) (l : List ℤ) (vs : Values) (h : LocalsTied scope l vs) where
  pub tied-element :
      (v k : ℕ) → k < places_at scope.locals v → get_or l (first_place scope.locals v + k) (pos 0) ≡ value_at vs v k
  tied-element v k lt =
      ap (λ ys. get_or ys (first_place scope.locals v + k) (pos 0)) h.same
      ∙ value_there vs scope.locals v k h.unused h.shape lt

  pub tied-set :
      (v k : ℕ) (x : ℤ) → k < places_at scope.locals v →
      LocalsTied scope (slice_set l (first_place scope.locals v + k) x) (set_at vs v k x)
  tied-set v k x lt =
      record {
        shape = shape_kept vs v k x ∙ h.shape;
        unused = h.unused;
        same = ap (λ ys. slice_set ys (first_place scope.locals v + k) x) h.same
            ∙ set_there vs scope.locals v k x h.unused h.shape lt;
      }

  -- a plain variable has one place
  pub tied-variable : (v : ℕ) → places_at scope.locals v ≡ 1 → get_or l (first_place scope.locals v) (pos 0)
      ≡ value_at vs v 0
  tied-variable v one =
      let first : first_place scope.locals v ≡ first_place scope.locals v + 0 = omega arith in
      ap (λ n. get_or l n (pos 0)) first ∙ tied-element v 0 (omega (arith, one))

  pub tied-store :
      (v : ℕ) (x : ℤ) → places_at scope.locals v ≡ 1 →
      LocalsTied scope (slice_set l (first_place scope.locals v) x) (set_at vs v 0 x)
  tied-store v x one =
      let first : first_place scope.locals v + 0 ≡ first_place scope.locals v = omega arith in
      subst (λ n. LocalsTied scope (slice_set l n x) (set_at vs v 0 x)) first (tied-set v 0 x (omega (arith, one)))

-- ---- the index of an array

below_test : (n j k : ℕ) (b : Bool) → nat_lt j n ≡ b → (if b then Ok j else Err fault.Index) ≡ Ok k → k < n
below_test n j k true h e = let same : j ≡ k = cc e in omega (arith, ltb-true j n h, same)
below_test n j k false h e = absurd (cc e)

pub place-within : (n : ℕ) (i : ℤ) (k : ℕ) → place_in n i ≡ Ok k → k < n
place-within n (pos j) k e = below_test n j k (nat_lt j n) refl e
place-within n (negsuc j) k e = absurd (cc e)

pub array-within : (scope : Scope) (m : NameMeaning) (k : ℕ) → k < array_places scope m
    → k < places_at scope.locals (array_number m)
array-within scope (Variable v) k lt = absurd (omega (arith, lt))
array-within scope (Array v) k lt = lt
array-within scope (Object n) k lt = absurd (omega (arith, lt))
array-within scope Unknown k lt = absurd (omega (arith, lt))

-- ---- the reply of a call

module _ (scope : Scope) (plain : IsPlain scope) where
  written_as :
      (l : List ℤ) (vs : Values) (m : NameMeaning) (x : ℤ) →
      ((v : ℕ) → m ≡ Variable v → places_at scope.locals v ≡ 1) → LocalsTied scope l vs →
      LocalsTied scope (machine.written l (option_map (first_place scope.locals) (variable_number m)) x)
      (written vs (variable_number m) x)
  written_as l vs (Variable v) x one h = tied-store scope l vs h v x (one v refl)
  written_as l vs (Array v) x one h = h
  written_as l vs (Object k) x one h = h
  written_as l vs Unknown x one h = h

  written_tied :
      (l : List ℤ) (vs : Values) (w : Option Word) (x : ℤ) → LocalsTied scope l vs →
      LocalsTied scope (machine.written l (word_place scope w) x) (written vs (word_number scope w) x)
  written_tied l vs None x h = h
  written_tied l vs (Some w) x h = written_as l vs (meaning_of scope w.name) x (plain w.name) h

  out_tied :
      (l : List ℤ) (vs : Values) (w : Option Word) (x : ℤ) (e : Er) → LocalsTied scope l vs →
      LocalsTied scope (machine.out_written e l (word_place scope w) x) (out_written e vs (word_number scope w) x)
  out_tied l vs w x er.Ok h = written_tied l vs w x h
  out_tied l vs w x _ h = h

  -- the variable at the out place, and then the one before `=`
  pub reply-tied :
      (l : List ℤ) (vs : Values) (s : Service) (out result : Option Word) (reply : Reply) → LocalsTied scope l vs →
      LocalsTied scope
      (machine.delivered l (record { service = s; out = word_place scope out; result = word_place scope result }) reply)
      (received vs (record { service = s; out = word_number scope out; result = word_number scope result }) reply)
  reply-tied l vs s out result reply h =
      let x = machine.value_or_zero reply.value in
      written_tied _ _ result _ (out_tied l vs out x reply.code h)

-- ---- the start

zeros_together :
    (ds : List Declaration) →
    all_values (map (λ (d : Declaration). zeros (local_of d)) ds) ≡ replicate (total_places (map local_of ds)) (pos 0)
zeros_together [] = refl
zeros_together (d ∷ ds) =
    ap (λ ys. zeros (local_of d) ++ ys) (zeros_together ds)
    ∙ replicate-append-replicate (local_of d).places (total_places (map local_of ds)) (pos 0)

zeros_shape :
    (ds : List Declaration) →
    counts (map (λ (d : Declaration). zeros (local_of d)) ds) ≡ widths (map local_of ds)
zeros_shape [] = refl
zeros_shape (d ∷ ds) =
    ap (λ n. n ∷ counts (map (λ (e : Declaration). zeros (local_of e)) ds))
    (length-replicate (local_of d).places (pos 0))
    ∙ ap (λ ns. (local_of d).places ∷ ns) (zeros_shape ds)

-- the code has 64 locals, of which all but the first are 0
pub first-tied :
    (tables : SystemTables) (body : BodyTree) (exinf : ℤ) (most : ℕ)
    → total_places (map local_of body.variables) ≤ most →
    LocalsTied (scope_of tables body) (exinf ∷ replicate most (pos 0)) (first_values body exinf)
first-tied tables body exinf most le =
    let n = total_places (map local_of body.variables) in
    let rest = replicate (most - n) (pos 0) in
    let split : most ≡ n + (most - n) = omega arith in
    record {
      shape = ap (λ ns. 1 ∷ ns) (zeros_shape body.variables);
      unused = rest;
      same = ap (λ k. exinf ∷ replicate k (pos 0)) split
          ∙ ap (λ ys. exinf ∷ ys) (sym (replicate-append-replicate n (most - n) (pos 0)))
          ∙ ap (λ ys. exinf ∷ (ys ++ rest)) (sym (zeros_together body.variables));
    }
