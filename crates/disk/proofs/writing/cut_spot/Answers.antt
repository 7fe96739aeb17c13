use Rattle.std.proofs.Common.{List, ℕ}
use Rattle.backing.specs.Files.{resized}
use Rattle.backing.proofs.Tests.{then_ok}
use Rattle.disk.proofs.Changing.{changes_at}
use Rattle.disk.proofs.writing.cut_spot.Goals as goal

pub returns-clause-ok : goal.returns-clause-ok
returns-clause-ok c = then_ok c.cut_content.result (λ changes. changes_at c.args.spots.now.items c.args.i c.index_mut-spot.result.now c.cut_content.new.content (λ (bytes : List ℕ). resized c.args.size bytes) c.requires c.index_mut-spot.ensures.value changes) c.cut_content.ensures.ok
