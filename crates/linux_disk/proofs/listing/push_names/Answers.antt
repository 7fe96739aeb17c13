use Rattle.std.proofs.Common.{arith}
use Rattle.linux_disk.proofs.NameLemmas.{adds_piece}
use Rattle.linux_disk.proofs.listing.push_names.Goals as goal

pub loop-at-preserved : goal.loop-at-preserved
loop-at-preserved c =
    adds_piece c.args.shown c.args.listed.now c.split_at.result.1.now c.split_at-in-loop-at.result.0.now c.loop-at.at c.name_length-n.result c.args.names.now.items c.loop-at.names.items c.push_name.new.names.items
    c.split_at.ensures.back c.split_at-in-loop-at.ensures.front (omega arith) c.name_length-n.ensures.no_nul c.name_length-n.ensures.nul c.loop-at.invariant c.in_ok-push_name.ensures
