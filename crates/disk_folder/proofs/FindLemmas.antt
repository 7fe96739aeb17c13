-- A file that the system keeps open.
use Rattle.std.proofs.Common.{Ok, ◌≡◌, refl}
use Rattle.paths.specs.Prefixes.{Names}
use Rattle.payload.specs.declared.attributes.Kind.TheVariants as kinds
use Rattle.backing.specs.Tree.{Tree, IsFile}
use Rattle.disk_folder.specs.declared.open_cache.OpenCache.{OpenCache}
use Rattle.disk_folder.specs.declared.opened.Held.{Held}
use Rattle.disk_folder.specs.declared.opened.Open.{Open}
use Rattle.disk_folder.specs.Standing.{AllStand, IsFileAt, IsHeldAt, IsOwn, Keeps}
use Rattle.disk_folder.proofs.StandLemmas.{held_file, opened_file, stand_keeps}

pub found_held : {H : Type 0} (at : Tree) (stands : H → Names → Type 0) (old new : OpenCache H) (q : Names) (opened : Open H) (held : Held H)
    → opened.kind ≡ kinds.File → stands opened.handle q × IsFile (at q) → IsHeldAt new held q → Keeps old q opened new → IsOwn opened held → AllStand at stands old → IsFileAt at stands new held q
found_held at stands old new q opened held kind found there keeps own all =
    let file = opened_file at stands q opened.handle (Ok opened) (kind, refl) found in
    held_file at stands new q opened (Ok held) there own (stand_keeps at stands old new q opened keeps file.standing all) file
