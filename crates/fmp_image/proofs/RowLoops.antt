-- Rows as loops read and write them.
use Rattle.std.proofs.Common.{◌≡◌, ℕ, ◌+◌, ◌<◌, false, pos, List, [], ◌++◌, length, take, drop, get_or, map, set, ap}
use Rattle.std.proofs.Common.{◌∙◌, arith}
use Rattle.std.proofs.lemmas.List.{get_or_default}
use Rattle.std.proofs.lemmas.List.Edits.{map_over_more}
use Rattle.fmp_base.specs.declared.names.Name.{Name}
use Rattle.fmp_base.specs.declared.systems.CyclicConfig.{CyclicConfig}
use Rattle.fmp_base.specs.declared.systems.Entry.{Entry}
use Rattle.fmp_base.specs.declared.systems.Entry.TheVariants as entry
use Rattle.fmp_base.specs.declared.systems.InterruptConfig.{InterruptConfig}
use Rattle.fmp_base.specs.declared.systems.TaskConfig.{TaskConfig}
use Rattle.fmp_tasklang.specs.Trees.{BodyTree}
use Rattle.fmp_image.specs.Building.{built_entry, built_task, built_cyclic, built_interrupt}

abbrev no_name : Name
no_name = record { length = 0; bytes = [] }

abbrev pub no_task : TaskConfig
no_task = record {
  name = no_name;
  activated = false;
  exinf = pos 0;
  entry = entry.Named no_name;
  priority = 0;
  stack = 0;
  processor = 0;
  only = false;
}

pub task_row :
    (bodies : List BodyTree) (rows now : List TaskConfig) (i : ℕ) (e : Entry) → i < length rows → length now
    ≡ length rows →
    now ≡ map (built_task bodies) (take i rows) ++ drop i rows → e ≡ built_entry bodies (get_or now i no_task).entry →
    set now i (record (get_or now i no_task) { entry = e }) ≡ map (built_task bodies) (take (i + 1) rows)
    ++ drop (i + 1) rows
task_row bodies rows now i e within long before is =
    let x = get_or now i no_task in
    let inside : i < length now = omega (arith, within, long) in
    ap (λ (z : Entry). set now i (record x { entry = z })) is
    ∙ map_over_more (built_task bodies) rows now i x within before (get_or_default now i no_task x inside)

abbrev pub no_cyclic : CyclicConfig
no_cyclic = record {
  name = no_name;
  started = false;
  exinf = pos 0;
  entry = entry.Named no_name;
  period = 0;
  phase = 0;
  processor = 0;
}

pub cyclic_row :
    (bodies : List BodyTree) (rows now : List CyclicConfig) (i : ℕ) (e : Entry) → i < length rows → length now
    ≡ length rows →
    now ≡ map (built_cyclic bodies) (take i rows) ++ drop i rows → e
    ≡ built_entry bodies (get_or now i no_cyclic).entry →
    set now i (record (get_or now i no_cyclic) { entry = e }) ≡ map (built_cyclic bodies) (take (i + 1) rows)
    ++ drop (i + 1) rows
cyclic_row bodies rows now i e within long before is =
    let x = get_or now i no_cyclic in
    let inside : i < length now = omega (arith, within, long) in
    ap (λ (z : Entry). set now i (record x { entry = z })) is
    ∙ map_over_more (built_cyclic bodies) rows now i x within before (get_or_default now i no_cyclic x inside)

abbrev pub no_interrupt : InterruptConfig
no_interrupt = record { number = 0; entry = entry.Named no_name; processor = 0 }

pub interrupt_row :
    (bodies : List BodyTree) (rows now : List InterruptConfig) (i : ℕ) (e : Entry) → i < length rows → length now
    ≡ length rows →
    now ≡ map (built_interrupt bodies) (take i rows) ++ drop i rows → e
    ≡ built_entry bodies (get_or now i no_interrupt).entry →
    set now i (record (get_or now i no_interrupt) { entry = e }) ≡ map (built_interrupt bodies) (take (i + 1) rows)
    ++ drop (i + 1) rows
interrupt_row bodies rows now i e within long before is =
    let x = get_or now i no_interrupt in
    let inside : i < length now = omega (arith, within, long) in
    ap (λ (z : Entry). set now i (record x { entry = z })) is
    ∙ map_over_more (built_interrupt bodies) rows now i x within before (get_or_default now i no_interrupt x inside)
