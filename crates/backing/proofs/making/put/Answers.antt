use Rattle.std.proofs.Common.{◌≡◌, List, None, sym, ap, ◌∙◌, subst}
use Rattle.paths.specs.Prefixes.{Names}
use Rattle.backing.specs.declared.entries.TreeEntry.{TreeEntry}
use Rattle.backing.specs.Tree.{Resolves, with_item}
use Rattle.backing.specs.Entries.{tree_of, IsEntryTree}
use Rattle.backing.proofs.Putting.{put_tree, put_lawful}
use Rattle.backing.proofs.making.put.Goals as goal

pub returns-clause-ok : goal.returns-clause-ok
returns-clause-ok c =
    let es = c.args.entries.now.items in
    let e : TreeEntry = record { path = c.in_ok-path.path; item = c.args.item } in
    let free : tree_of es e.path ≡ None = subst (λ (xs : List TreeEntry). tree_of xs e.path ≡ None) c.deref.ensures.value (subst (λ (p : Names). tree_of c.deref.result.now p ≡ None) (sym c.in_ok-path.ensures) c.in_ok-expect_free.ensures.ok.1.0) in
    ap (λ (xs : List TreeEntry). tree_of xs) c.in_ok-push.ensures.items ∙ (put_tree es e free ∙ ap (λ (p : Names). with_item (tree_of es) p c.args.item) c.in_ok-path.ensures)

pub returns-clause-lawful : goal.returns-clause-lawful
returns-clause-lawful c =
    let es = c.args.entries.now.items in
    let e : TreeEntry = record { path = c.in_ok-path.path; item = c.args.item } in
    let free : tree_of es e.path ≡ None = subst (λ (xs : List TreeEntry). tree_of xs e.path ≡ None) c.deref.ensures.value (subst (λ (p : Names). tree_of c.deref.result.now p ≡ None) (sym c.in_ok-path.ensures) c.in_ok-expect_free.ensures.ok.1.0) in
    let leads : Resolves (tree_of es) e.path = subst (λ (xs : List TreeEntry). Resolves (tree_of xs) e.path) c.deref.ensures.value (subst (λ (p : Names). Resolves (tree_of c.deref.result.now) p) (sym c.in_ok-path.ensures) c.in_ok-expect_free.ensures.ok.0) in
    subst (λ (xs : List TreeEntry). IsEntryTree xs) (sym c.in_ok-push.ensures.items) (put_lawful es e c.requires leads free)
