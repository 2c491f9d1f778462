use Rattle.std.proofs.Common.{◌≡◌, take}
use Rattle.fmp_server.specs.Navigation.{wanted_of}
use Rattle.fmp_server.proofs.Locations.{Stand}
use Rattle.fmp_server.proofs.navigation.write_locations.Given as goal

abbrev pub invariant-loop-one : goal.invariant-loop-one
invariant-loop-one l =
    record {
      before : l.writer.before ≡ l.initial.writer.before;
      tokens : Stand l.text l.uri (wanted_of l.wanted (take l.one-index l.positions)) l.initial.writer.tokens
          l.writer.tokens;
    }
