use Rattle.std.proofs.Common.{◌≡◌, take}
use Rattle.disk_folder.specs.Listed.{children_of}
use Rattle.disk_folder.proofs.listing.children_of.Given as goal

abbrev pub invariant-loop-one : goal.invariant-loop-one
invariant-loop-one l = l.children.items ≡ children_of (take l.one-index l.seen)
