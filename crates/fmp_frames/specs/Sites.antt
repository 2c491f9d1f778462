-- The service calls of a code, by their positions.
use Rattle.std.specs.Prelude.{ℕ, ◌+◌, ◌≤◌, List, [], ◌∷◌, ◌++◌, length, slice_get, Option, Some, None}
use Rattle.std.specs.Prelude.{Bool, false, ◌&&◌, nat_eq, if◌then◌else◌}
use Rattle.std.specs.List.{list_any}
use Rattle.fmp_instructions.specs.declared.instructions.Instruction.{Instruction}
use Rattle.fmp_instructions.specs.declared.instructions.Instruction.TheVariants as instruction
use Rattle.fmp_instructions.specs.Instructions.{BodyTables, instructions_at}
use Rattle.fmp_frames.specs.declared.sites.CallSite.{CallSite}
use Rattle.fmp_frames.specs.declared.sites.SiteCall.{SiteCall}
use Rattle.fmp_frames.specs.CallPositions.{is_call}

abbrev pub site : (body pc : ℕ) → CallSite
site body pc = record { body = body; pc = pc }

abbrev pub is_same_site : CallSite → CallSite → Bool
is_same_site a b = nat_eq a.body b.body && nat_eq a.pc b.pc

-- an instruction at a position of a body, if it is a call
abbrev pub call_here : (body pc : ℕ) → Instruction → List CallSite
call_here body pc i = if is_call i then site body pc ∷ [] else []

-- the calls among instructions of a body, of which the first stands at a position
abbrev pub sites_from : (body pc : ℕ) → List Instruction → List CallSite
sites_from body pc [] = []
sites_from body pc (i ∷ is) = call_here body pc i ++ sites_from body (pc + 1) is

-- the calls of bodies, of which the first has this number
abbrev pub sites_of_bodies : (body : ℕ) → List BodyTables → List CallSite
sites_of_bodies body [] = []
sites_of_bodies body (b ∷ bs) = sites_from body 0 b.instructions ++ sites_of_bodies (body + 1) bs

-- the calls of a code, in order of body and position
abbrev pub call_sites : List BodyTables → List CallSite
call_sites code = sites_of_bodies 0 code

-- the bodies, and the instructions of each, are few enough for a site
pub record HasSites (code : List BodyTables) : Type 0 where
  pub bodies : length code ≤ 256
  pub instructions : (body : ℕ) → length (instructions_at code body) ≤ 65535

-- an instruction reads this local
abbrev pub is_load : (local : ℕ) → Instruction → Bool
is_load local (instruction.Load l) = nat_eq l local
is_load local _ = false

-- some instruction reads the local that gets the code of a call, if one gets it
abbrev pub is_read : List Instruction → (result : Option ℕ) → Bool
is_read is None = false
is_read is (Some local) = list_any (is_load local) is

-- which call an instruction of a body is, if it is one
abbrev pub call_of : List Instruction → Instruction → Option SiteCall
call_of is (instruction.Call service out result) =
    Some (record { service = service; is_tested = is_read is result })
call_of is _ = None

abbrev pub call_by : List Instruction → Option Instruction → Option SiteCall
call_by is None = None
call_by is (Some i) = call_of is i

abbrev pub call_in : Option BodyTables → (pc : ℕ) → Option SiteCall
call_in None pc = None
call_in (Some b) pc = call_by b.instructions (slice_get b.instructions pc)

-- the call of a code at a position, if there is one
abbrev pub call_at : List BodyTables → CallSite → Option SiteCall
call_at code s = call_in (slice_get code s.body) s.pc
