use Rattle.std.proofs.Common.{List, sym, ap, ◌∙◌, subst}
use Rattle.paths.specs.Prefixes.{Names}
use Rattle.backing.specs.declared.entries.TreeEntry.{TreeEntry}
use Rattle.backing.specs.Entries.{tree_of, IsEntryTree, IsFoundAt}
use Rattle.backing.proofs.Putting.{removed_tree, removed_lawful}
use Rattle.backing.proofs.removing.take_out.Goals as goal

pub returns-clause-taken : goal.returns-clause-taken
returns-clause-taken c =
    let es = c.args.entries.now.items in
    let p = c.args.path.now in
    let found : IsFoundAt es p c.in-Some.i = subst (λ (xs : List TreeEntry). IsFoundAt xs p c.in-Some.i) c.deref.ensures.value (subst (λ (q : Names). IsFoundAt c.deref.result.now q c.in-Some.i) c.names.ensures c.in-Some.ensures.found) in
    ap (λ (xs : List TreeEntry). tree_of xs) c.remove-gone.ensures.items ∙ removed_tree es p c.in-Some.i c.requires.lawful c.requires.below_root found

pub returns-clause-lawful : goal.returns-clause-lawful
returns-clause-lawful c =
    let es = c.args.entries.now.items in
    let p = c.args.path.now in
    let found : IsFoundAt es p c.in-Some.i = subst (λ (xs : List TreeEntry). IsFoundAt xs p c.in-Some.i) c.deref.ensures.value (subst (λ (q : Names). IsFoundAt c.deref.result.now q c.in-Some.i) c.names.ensures c.in-Some.ensures.found) in
    subst (λ (xs : List TreeEntry). IsEntryTree xs) (sym c.remove-gone.ensures.items) (removed_lawful es p c.in-Some.i c.requires.lawful c.requires.below_root found c.requires.bare)
