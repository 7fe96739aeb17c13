use Rattle.std.proofs.Common.{arith, List, ℕ, ◌≡◌, length, take, sym, ap, ◌∙◌, refl}
use Rattle.std.proofs.lemmas.List.{take_all}
use Rattle.backing.specs.Files.{written}
use Rattle.laws.proofs.FileChanges.{becomes_bytes}
use Rattle.laws.proofs.object_disk.one_file.OneFile.write.Goals as goal

pub returns-in-Ok-clause-bytes : goal.returns-in-Ok-clause-bytes
returns-in-Ok-clause-bytes c =
    let old = c.args.self.now.bytes in
    let piece = c.args.bytes.now in
    let wrote : c.write.new.self ≡ written old c.args.offset (take (length piece) piece) = c.in-Ok.ensures.ok ∙ ap (λ (bytes : List ℕ). written old c.args.offset bytes) (sym (take_all (length piece) piece (omega arith))) in
    record {
      some = c.requires;
      bytes = old;
      was = refl;
      becomes = becomes_bytes old c.write.new.self (written old c.args.offset (take (length piece) piece)) c.args.self.now.names.items wrote;
    }
