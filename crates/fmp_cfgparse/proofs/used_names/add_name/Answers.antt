use Rattle.fmp_cfgparse.proofs.UsedNames.{put_last}
use Rattle.fmp_cfgparse.proofs.used_names.add_name.Goals as goal

pub returns-clause-added : goal.returns-clause-added
returns-clause-added c = put_last (record { name = c.args.name }) c.args.names.now.keys c.insert.new.self.keys
    c.requires c.in_ok-insert.ensures.keys
