use Rattle.std.proofs.Common.{refl}
use Rattle.backing.specs.Files.{resized}
use Rattle.laws.proofs.FileChanges.{becomes_bytes}
use Rattle.laws.proofs.object_disk.one_file.OneFile.cut.Goals as goal

pub returns-in-Ok-clause-cut : goal.returns-in-Ok-clause-cut
returns-in-Ok-clause-cut c = record {
  bytes = c.args.self.now.bytes;
  was = refl;
  becomes = becomes_bytes c.args.self.now.bytes c.set_len.new.self (resized c.args.size c.args.self.now.bytes) c.args.self.now.names.items c.in-Ok.ensures.ok;
}
