use Rattle.std.proofs.Common.{List, map, ap, ◌∙◌}
use Rattle.backing.specs.declared.entries.TreeEntry.{TreeEntry}
use Rattle.backing.specs.Moves.{exchanged_path}
use Rattle.backing.proofs.Swapping.{all_exchanged, exchanged_lawful}
use Rattle.backing.proofs.exchanging.exchange_all.Goals as goal

pub returns-clause-ok : goal.returns-clause-ok
returns-clause-ok c =
    let s = c.args.first.now in
    let t = c.args.second.now in
    let paths = c.in_ok-paths.ensures ∙ ap (λ (xs : List TreeEntry). map (λ (e : TreeEntry). exchanged_path s t e.path) xs) c.deref.ensures.value in
    all_exchanged c.args.entries.now.items c.set_paths.new.entries.items c.in_ok-paths.paths.items s t c.requires.below_root c.requires.apart paths c.set_paths.ensures

pub returns-clause-lawful : goal.returns-clause-lawful
returns-clause-lawful c =
    let s = c.args.first.now in
    let t = c.args.second.now in
    let paths = c.in_ok-paths.ensures ∙ ap (λ (xs : List TreeEntry). map (λ (e : TreeEntry). exchanged_path s t e.path) xs) c.deref.ensures.value in
    exchanged_lawful c.args.entries.now.items c.set_paths.new.entries.items c.in_ok-paths.paths.items s t c.requires.lawful c.requires.below_root c.requires.apart c.requires.leads paths c.set_paths.ensures
