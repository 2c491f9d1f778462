-- Starts, stretches and replies within the rooms of all bodies.
use Rattle.std.proofs.Common.{◌≡◌, ℕ, List, Option, Some, None, refl, sym, subst, ℤ}
use Rattle.std.specs.Prelude.{slice_get}
use Rattle.fmp_base.specs.declared.calls.Reply.{Reply}
use Rattle.fmp_base.specs.Contexts.{OfCall}
use Rattle.fmp_base.specs.Stretches.{Ending}
use Rattle.fmp_base.specs.Stretches as ends
use Rattle.fmp_instructions.specs.declared.instructions.MachineContext.{MachineContext}
use Rattle.fmp_instructions.specs.Instructions.{BodyTables, found_depths, found_instructions, instructions_at}
use Rattle.fmp_instructions.specs.Machine.{code_deliver, code_start, code_stretch}
use Rattle.fmp_reachable.specs.Rooms.{HasRooms, IsWithin, found_locals}
use Rattle.fmp_reachable.proofs.MachineLaws.{IsIn, deliver-in, start-in, stretch-in}

of-call : {C : Type 0} (P Q : C → Type 0) → ((c : C) → P c → Q c) → (x : Ending C) → OfCall P x → OfCall Q x
of-call P Q f (ends.Call c made) h = f c h
of-call P Q f (ends.End c) h = tt
of-call P Q f (ends.Fault c fault) h = tt
of-call P Q f (ends.Over None) h = tt
of-call P Q f (ends.Over (Some c)) h = f c h

module _ (bodies : List BodyTables) (h : HasRooms bodies) (k : ℕ) where
  abbrev In : Option BodyTables → MachineContext → Type 0
  In o c = IsIn (found_locals o) (found_depths o) c

  inside : (c : MachineContext) → IsWithin bodies k c → In (slice_get bodies k) c
  inside c w = record { locals = record { long = w.long; rest = w.locals }; placed = w.placed }

  within : (c : MachineContext) → In (slice_get bodies k) c → IsWithin bodies k c
  within c i = record { long = i.locals.long; locals = i.locals.rest; placed = i.placed }

  -- a context is placed in a body that is there
  there : (o : Option BodyTables) (c : MachineContext) → In o c → (P : Option BodyTables → Type 0)
      → ((body : BodyTables) → o ≡ Some body → P (Some body)) → P o
  there None c i P f = let none = i.placed.depth in cc
  there (Some body) c i P f = f body refl

  pub start-within : (body : BodyTables) → slice_get bodies k ≡ Some body → (exinf : ℤ)
      → IsWithin bodies k (code_start exinf)
  start-within body e exinf =
      within (code_start exinf)
      (subst (λ (o : Option BodyTables). In o (code_start exinf)) (sym e)
      (start-in body (h.each k body e) (h.locals k body e) exinf))

  pub stretch-within : (n : ℕ) (c : MachineContext) → IsWithin bodies k c
      → OfCall (IsWithin bodies k) (code_stretch (instructions_at bodies k) n c)
  stretch-within n c w =
      of-call (In (slice_get bodies k)) (IsWithin bodies k) within (code_stretch (instructions_at bodies k) n c)
      (there (slice_get bodies k) c (inside c w)
      (λ (o : Option BodyTables). In o c → OfCall (In o) (code_stretch (found_instructions o) n c))
      (λ body e i. stretch-in body (h.each k body e) n c i) (inside c w))

  pub deliver-within : (c : MachineContext) (reply : Reply) → IsWithin bodies k c
      → IsWithin bodies k (code_deliver (instructions_at bodies k) c reply)
  deliver-within c reply w =
      within (code_deliver (instructions_at bodies k) c reply)
      (there (slice_get bodies k) c (inside c w)
      (λ (o : Option BodyTables). In o c → In o (code_deliver (found_instructions o) c reply))
      (λ body e i. deliver-in body (h.each k body e) c reply i) (inside c w))
