use Rattle.std.proofs.Common.{List, ℕ}
use Rattle.backing.specs.Files.{written}
use Rattle.backing.proofs.Tests.{then_ok}
use Rattle.disk.proofs.Changing.{changes_at}
use Rattle.disk.proofs.writing.write_spot.Goals as goal

pub returns-clause-ok : goal.returns-clause-ok
returns-clause-ok c = then_ok c.write_content.result (λ changes. changes_at c.args.spots.now.items c.args.i c.index_mut-spot.result.now c.write_content.new.content (λ (bytes : List ℕ). written bytes c.args.offset c.args.piece.now) c.requires c.index_mut-spot.ensures.value changes) c.write_content.ensures.ok
