use Rattle.std.proofs.Common.{length, ◌/◌, sym}
use Rattle.scenario.specs.File.{start_size, start_in}
use Rattle.scenario.proofs.Records.{length-records}
use Rattle.scenario.proofs.starts.FileStartsStarts.many.Goals as goal

pub returns : goal.returns
returns c = sym (length-records start_size start_in (length c.args.self.bytes.now / start_size) c.args.self.bytes.now)
