use Rattle.std.proofs.Common.{◌≡◌, ◌++◌, ◌+◌, rules}
use Rattle.fmp_base.specs.Names.{name_text}
use Rattle.fmp_base.specs.Systems.{body_of}
use Rattle.fmp_image_bytes.specs.Fields.{byte, long, word, text}
use Rattle.fmp_image_bytes.specs.Rows.{bit}
use Rattle.fmp_image_bytes.proofs.Chains.{chain_7}
use Rattle.fmp_image_bytes.proofs.tasks.CyclicConfigRow.put.Goals as goal

pub returns : goal.returns
returns c =
    let t = c.args.self.now in
    let words : c.put_word.new.out.items ≡ c.put_bit.new.out.items ++ word.spell t.exinf = search rules in
    rw (
      c.in_ok-put_processor.ensures,
      c.in_ok-put_long-2.ensures,
      c.in_ok-put_long.ensures,
      c.in_ok-put_entry.ensures,
      words,
      c.in_ok-put_bit.ensures,
      c.in_ok-put_name.ensures,
    )
    (chain_7 c.args.out.now.items (text.spell (name_text t.name)) (byte.spell (bit t.started 2)) (word.spell t.exinf)
    (byte.spell (body_of t.entry)) (long.spell t.period) (long.spell t.phase) (byte.spell (t.processor + 1)))
