-- What the bodies of a text mean, by their number: how one starts, its stretch, and how it receives a reply.
use Rattle.std.specs.Prelude.{ℕ, ℤ, List, [], slice_get}
use Rattle.fmp_base.specs.declared.calls.Reply.{Reply}
use Rattle.fmp_base.specs.Meanings.{Meaning}
use Rattle.fmp_base.specs.Stretches.{Ending}
use Rattle.fmp_base.specs.Systems.{SystemTables, no_name, found}
use Rattle.fmp_tasklang.specs.declared.trees.BodyKind.TheVariants.{Task}
use Rattle.fmp_tasklang.specs.Trees.{BodyTree, empty}
use Rattle.fmp_tasklang.specs.Scopes.{scope_of}
use Rattle.fmp_tasklang.specs.Contexts.{TextContext, start, deliver}
use Rattle.fmp_tasklang.specs.Stretches.{stretch}

-- a task that ends at once
abbrev pub empty_body : BodyTree
empty_body =
    record { kind = Task; at = 0; name = record { name = no_name; at = 0 }; variables = []; statements = empty }

-- the body of a number, from 0
abbrev pub body_at : List BodyTree → ℕ → BodyTree
body_at bodies entry = found empty_body (slice_get bodies entry)

-- the context of a body that begins with this extended information
abbrev pub text_start : List BodyTree → ℕ → ℤ → TextContext
text_start bodies entry exinf = start (body_at bodies entry) exinf

-- the stretch of a body in at most t turns of loops
abbrev pub text_stretch : SystemTables → List BodyTree → ℕ → ℕ → TextContext → Ending TextContext
text_stretch tables bodies entry t c = stretch (scope_of tables (body_at bodies entry)) t c

-- the context of a body after the reply of its call
abbrev pub text_deliver : List BodyTree → ℕ → TextContext → Reply → TextContext
text_deliver bodies entry c reply = deliver c reply

-- the meaning of the bodies of a text; bounds are turns of loops
abbrev pub text_meaning : SystemTables → List BodyTree → Meaning TextContext
text_meaning tables bodies =
    record { start = text_start bodies; stretch = text_stretch tables bodies; deliver = text_deliver bodies }
