use Rattle.std.proofs.Common.{List, map, ap, ◌∙◌}
use Rattle.backing.specs.declared.entries.TreeEntry.{TreeEntry}
use Rattle.backing.specs.Moves.{moved_path}
use Rattle.backing.proofs.Renaming.{all_renamed, renamed_lawful}
use Rattle.backing.proofs.moving.move_all.Goals as goal

pub returns-clause-ok : goal.returns-clause-ok
returns-clause-ok c =
    let s = c.args.from.now in
    let t = c.args.to.now in
    let paths = c.in_ok-paths.ensures ∙ ap (λ (xs : List TreeEntry). map (λ (e : TreeEntry). moved_path s t e.path) xs) c.deref.ensures.value in
    all_renamed c.args.entries.now.items c.clear_place.new.entries.items c.set_paths.new.entries.items c.in_ok-paths.paths.items c.clear_place.new.paths.items s t c.requires.lawful c.requires.below_root c.requires.apart c.requires.bare paths c.clear_place.ensures c.set_paths.ensures

pub returns-clause-lawful : goal.returns-clause-lawful
returns-clause-lawful c =
    let s = c.args.from.now in
    let t = c.args.to.now in
    let paths = c.in_ok-paths.ensures ∙ ap (λ (xs : List TreeEntry). map (λ (e : TreeEntry). moved_path s t e.path) xs) c.deref.ensures.value in
    renamed_lawful c.args.entries.now.items c.clear_place.new.entries.items c.set_paths.new.entries.items c.in_ok-paths.paths.items c.clear_place.new.paths.items s t c.requires.lawful c.requires.below_root c.requires.apart c.requires.leads c.requires.bare paths c.clear_place.ensures c.set_paths.ensures
