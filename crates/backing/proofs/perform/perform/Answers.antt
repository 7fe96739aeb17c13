use Rattle.std.proofs.Common.{List, sym, subst}
use Rattle.backing.specs.declared.call.Call.{Call}
use Rattle.backing.specs.declared.entries.TreeEntry.{TreeEntry}
use Rattle.backing.specs.Calls.{asked, AskSetPermissions, AskSetOwner, AskSetTimes}
use Rattle.backing.specs.Entries.{tree_of}
use Rattle.backing.specs.Refusals.{Ends}
use Rattle.backing.proofs.perform.perform.Goals as goal

pub returns-in-Make-clause-ends : goal.returns-in-Make-clause-ends
returns-in-Make-clause-ends c = subst (λ (call : Call). Ends (tree_of c.args.entries.now.items) (asked call) c.make.result (tree_of c.make.new.entries.items)) (sym c.in-Make.is) (c.make.ensures.ends c.in-Make.permissions)

pub returns-in-MakeDir-clause-ends : goal.returns-in-MakeDir-clause-ends
returns-in-MakeDir-clause-ends c = subst (λ (call : Call). Ends (tree_of c.args.entries.now.items) (asked call) c.make_dir.result (tree_of c.make_dir.new.entries.items)) (sym c.in-MakeDir.is) (c.make_dir.ensures.ends c.in-MakeDir.permissions)

pub returns-in-MakeLink-clause-ends : goal.returns-in-MakeLink-clause-ends
returns-in-MakeLink-clause-ends c = subst (λ (call : Call). Ends (tree_of c.args.entries.now.items) (asked call) c.make_link.result (tree_of c.make_link.new.entries.items)) (sym c.in-MakeLink.is) c.make_link.ensures.ends

pub returns-in-Remove-clause-ends : goal.returns-in-Remove-clause-ends
returns-in-Remove-clause-ends c = subst (λ (call : Call). Ends (tree_of c.args.entries.now.items) (asked call) c.remove.result (tree_of c.remove.new.entries.items)) (sym c.in-Remove.is) c.remove.ensures.ends

pub returns-in-RemoveDir-clause-ends : goal.returns-in-RemoveDir-clause-ends
returns-in-RemoveDir-clause-ends c = subst (λ (call : Call). Ends (tree_of c.args.entries.now.items) (asked call) c.remove_dir.result (tree_of c.remove_dir.new.entries.items)) (sym c.in-RemoveDir.is) c.remove_dir.ensures.ends

pub returns-in-Rename-clause-ends : goal.returns-in-Rename-clause-ends
returns-in-Rename-clause-ends c = subst (λ (call : Call). Ends (tree_of c.args.entries.now.items) (asked call) c.rename.result (tree_of c.rename.new.entries.items)) (sym c.in-Rename.is) c.rename.ensures.ends

pub returns-in-RenameNew-clause-ends : goal.returns-in-RenameNew-clause-ends
returns-in-RenameNew-clause-ends c = subst (λ (call : Call). Ends (tree_of c.args.entries.now.items) (asked call) c.rename_new.result (tree_of c.rename_new.new.entries.items)) (sym c.in-RenameNew.is) c.rename_new.ensures.ends

pub returns-in-Exchange-clause-ends : goal.returns-in-Exchange-clause-ends
returns-in-Exchange-clause-ends c = subst (λ (call : Call). Ends (tree_of c.args.entries.now.items) (asked call) c.exchange.result (tree_of c.exchange.new.entries.items)) (sym c.in-Exchange.is) c.exchange.ensures.ends

pub returns-in-Write-clause-ends : goal.returns-in-Write-clause-ends
returns-in-Write-clause-ends c = subst (λ (call : Call). Ends (tree_of c.args.entries.now.items) (asked call) c.write.result (tree_of c.write.new.entries.items)) (sym c.in-Write.is) c.write.ensures.ends

pub returns-in-SetLen-clause-ends : goal.returns-in-SetLen-clause-ends
returns-in-SetLen-clause-ends c = subst (λ (call : Call). Ends (tree_of c.args.entries.now.items) (asked call) c.set_len.result (tree_of c.set_len.new.entries.items)) (sym c.in-SetLen.is) c.set_len.ensures.ends

pub returns-in-SetPermissions-clause-ends : goal.returns-in-SetPermissions-clause-ends
returns-in-SetPermissions-clause-ends c =
    let ends = subst (λ (es : List TreeEntry). Ends (tree_of es) (AskSetPermissions c.in-SetPermissions.path.now c.in-SetPermissions.permissions) c.set_details.result (tree_of es)) c.deref-in-SetPermissions.ensures.value (c.set_details.ensures.permissions c.in-SetPermissions.permissions) in
    subst (λ (call : Call). Ends (tree_of c.args.entries.now.items) (asked call) c.set_details.result (tree_of c.args.entries.now.items)) (sym c.in-SetPermissions.is) ends

pub returns-in-SetOwner-clause-ends : goal.returns-in-SetOwner-clause-ends
returns-in-SetOwner-clause-ends c =
    let ends = subst (λ (es : List TreeEntry). Ends (tree_of es) (AskSetOwner c.in-SetOwner.path.now c.in-SetOwner.uid c.in-SetOwner.gid) c.set_details-in-SetOwner.result (tree_of es)) c.deref-in-SetOwner.ensures.value (c.set_details-in-SetOwner.ensures.owner c.in-SetOwner.uid c.in-SetOwner.gid) in
    subst (λ (call : Call). Ends (tree_of c.args.entries.now.items) (asked call) c.set_details-in-SetOwner.result (tree_of c.args.entries.now.items)) (sym c.in-SetOwner.is) ends

pub returns-in-SetTimes-clause-ends : goal.returns-in-SetTimes-clause-ends
returns-in-SetTimes-clause-ends c =
    let ends = subst (λ (es : List TreeEntry). Ends (tree_of es) (AskSetTimes c.in-SetTimes.path.now c.in-SetTimes.accessed c.in-SetTimes.modified) c.set_details-in-SetTimes.result (tree_of es)) c.deref-in-SetTimes.ensures.value (c.set_details-in-SetTimes.ensures.times c.in-SetTimes.accessed c.in-SetTimes.modified) in
    subst (λ (call : Call). Ends (tree_of c.args.entries.now.items) (asked call) c.set_details-in-SetTimes.result (tree_of c.args.entries.now.items)) (sym c.in-SetTimes.is) ends
