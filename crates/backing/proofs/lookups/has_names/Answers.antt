use Rattle.std.proofs.Common.{arith, sym, ap, ◌∙◌}
use Rattle.backing.specs.declared.entries.TreeEntry.{TreeEntry}
use Rattle.backing.proofs.Looking.{has_names, is_bare, found_one}
use Rattle.backing.proofs.lookups.has_names.Goals as goal

pub returns-then-is_some-clause-yes : goal.returns-then-is_some-clause-yes
returns-then-is_some-clause-yes c = λ _.
    let es = c.args.entries.now in
    let e = c.entry-item.result in
    let it = found_one _ c.child_of.result (sym c.is_some.ensures ∙ c.if-is_some.true) c.child_of.ensures.some in
    let path = ap (λ (x : TreeEntry). x.path) (sym c.entry-item.is) ∙ it.1 in
    has_names es c.args.folder.now it.0.now c.loop-entry.entry-index e c.requires.distinct c.loop-entry-test.true path

pub returns-clause-no : goal.returns-clause-no
returns-clause-no c = λ _.
    let es = c.args.entries.now in
    is_bare es c.args.folder.now (λ k d name within. c.loop-entry.invariant k d name (omega arith))
