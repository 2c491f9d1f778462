-- How stretches end.
use Rattle.std.specs.Prelude.{Option, None, Some}
use Rattle.fmp_explore.specs.declared.stretching.NextStretch.{NextStretch}
use Rattle.fmp_explore.specs.declared.stretching.NextStretch.TheVariants as stretch
use Rattle.fmp_base.specs.Systems.{body_of}
use Rattle.fmp_base.specs.declared.bodies.Held.{Held}
use Rattle.fmp_base.specs.declared.systems.TaskConfig.{TaskConfig}
use Rattle.fmp_instructions.specs.declared.instructions.MachineContext.{MachineContext}
use Rattle.fmp_question.specs.Sites.{last_call}
use Rattle.fmp_question.specs.declared.site.CallSite.{CallSite}

-- the call that a stretch makes, if it makes one
abbrev pub call_in : NextStretch → Option CallSite
call_in (stretch.Calls site) = Some site
call_in _ = None

-- the head of the body that makes it, if there is one
abbrev pub body_in : NextStretch → Option CallSite
body_in stretch.None = None
body_in (stretch.Calls site) = Some (record { body = site.body; pc = 0 })
body_in (stretch.Ends site) = Some (record { body = site.body; pc = 0 })
body_in (stretch.Keeps site) = Some (record { body = site.body; pc = 0 })

-- the last call of the body of a task, of which this is kept
abbrev pub last_site : TaskConfig → Option (Held MachineContext) → CallSite
last_site config held = record { body = body_of config.entry; pc = last_call held }
