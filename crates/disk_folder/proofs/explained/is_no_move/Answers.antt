use Rattle.std.proofs.Common.{sym, subst}
use Rattle.disk_folder.specs.declared.trouble.Reason.{Reason}
use Rattle.backing.specs.Tree.{is_path}
use Rattle.backing.specs.Calls.{AskRename, unless}
use Rattle.backing.specs.Checks.{room_tests}
use Rattle.disk_folder.specs.Explained.{Explains}
use Rattle.disk_folder.specs.Troubles.{reason_errno}
use Rattle.disk_folder.proofs.MoveWitnesses.{move_into, move_over, move_on_names, move_folder_on_file, move_file_on_folder}
use Rattle.disk_folder.proofs.explained.is_no_move.Goals as goal

pub returns-then-is_no_source : goal.returns-then-is_no_source
returns-then-is_no_source c = λ _.
    let s = c.args.from.now in
    let t = c.args.to.now in
    c.is_no_source.ensures c.if-is_no_source.true (unless (is_path s t) (room_tests s t))

pub returns-in-Below : goal.returns-in-Below
returns-in-Below c = λ yes.
    let s = c.args.from.now in
    let t = c.args.to.now in
    subst (λ (r : Reason). Explains (AskRename s t) (reason_errno r)) (sym c.in-Below.is) (let it = c.leads_through.ensures yes in move_into s t it.0 it.1 it.2)

pub returns-then-leads_through : goal.returns-then-leads_through
returns-then-leads_through c = λ _.
    let s = c.args.from.now in
    let t = c.args.to.now in
    subst (λ (r : Reason). Explains (AskRename s t) (reason_errno r)) (sym c.in-Names.is) (let it = c.leads_through-in-Names.ensures c.if-leads_through.true in move_over s t it.0 it.1 it.2)

pub returns-else-leads_through : goal.returns-else-leads_through
returns-else-leads_through c = λ yes.
    let s = c.args.from.now in
    let t = c.args.to.now in
    subst (λ (r : Reason). Explains (AskRename s t) (reason_errno r)) (sym c.in-Names.is) (let it = c.are_apart.ensures yes in move_on_names s t it.0 it.1 it.2 it.3)

pub returns-in-NoFolder : goal.returns-in-NoFolder
returns-in-NoFolder c = λ yes.
    let s = c.args.from.now in
    let t = c.args.to.now in
    subst (λ (r : Reason). Explains (AskRename s t) (reason_errno r)) (sym c.in-NoFolder.is) (let it = c.are_apart-in-NoFolder.ensures yes in move_folder_on_file s t it.0 it.1 it.2 it.3)

pub returns-in-Folder : goal.returns-in-Folder
returns-in-Folder c = λ yes.
    let s = c.args.from.now in
    let t = c.args.to.now in
    subst (λ (r : Reason). Explains (AskRename s t) (reason_errno r)) (sym c.in-Folder.is) (let it = c.are_apart-in-Folder.ensures yes in move_file_on_folder s t it.0 it.1 it.2 it.3)
