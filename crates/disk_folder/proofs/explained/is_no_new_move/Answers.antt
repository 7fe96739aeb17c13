use Rattle.std.proofs.Common.{ℕ, ◌<◌, length, sym, ◌∙◌, subst}
use Rattle.std.proofs.lemmas.Bool.{ltb-true}
use Rattle.disk_folder.specs.declared.trouble.Reason.{Reason}
use Rattle.backing.specs.Calls.{AskRenameNew}
use Rattle.backing.specs.Checks.{new_tests}
use Rattle.disk_folder.specs.Explained.{Explains}
use Rattle.disk_folder.specs.Troubles.{reason_errno}
use Rattle.disk_folder.proofs.MoveWitnesses.{new_on_itself, new_on_another, new_into, new_over, new_blocked}
use Rattle.disk_folder.proofs.explained.is_no_new_move.Goals as goal

pub returns-then-is_no_source : goal.returns-then-is_no_source
returns-then-is_no_source c = λ _. c.is_no_source.ensures c.if-is_no_source.true (new_tests c.args.from.now c.args.to.now)

pub returns-then-is : goal.returns-then-is
returns-then-is c = λ yes.
    let s = c.args.from.now in
    let t = c.args.to.now in
    let within : 0 < length s = subst (λ (n : ℕ). 0 < n) c.len.ensures (ltb-true 0 c.len.result yes) in
    subst (λ (r : Reason). Explains (AskRenameNew s t) (reason_errno r)) (sym c.in-Taken.is) (new_on_itself s t (c.is.ensures.0 c.if-is.true) within)

pub returns-else-is : goal.returns-else-is
returns-else-is c = λ yes.
    let s = c.args.from.now in
    let t = c.args.to.now in
    subst (λ (r : Reason). Explains (AskRenameNew s t) (reason_errno r)) (sym c.in-Taken.is) (let it = c.are_apart.ensures yes in new_on_another s t it.0 it.1 it.2 it.3)

pub returns-in-Below : goal.returns-in-Below
returns-in-Below c = λ yes.
    let s = c.args.from.now in
    let t = c.args.to.now in
    subst (λ (r : Reason). Explains (AskRenameNew s t) (reason_errno r)) (sym c.in-Below.is) (let it = c.leads_through.ensures yes in new_into s t it.0 it.1 it.2)

pub returns-in-Names : goal.returns-in-Names
returns-in-Names c = λ yes.
    let s = c.args.from.now in
    let t = c.args.to.now in
    subst (λ (r : Reason). Explains (AskRenameNew s t) (reason_errno r)) (sym c.in-Names.is) (let it = c.leads_through-in-Names.ensures yes in new_over s t it.0 it.1 it.2)

pub returns-then-len-gt1 : goal.returns-then-len-gt1
returns-then-len-gt1 c = λ yes.
    let s = c.args.from.now in
    let t = c.args.to.now in
    let deep : 1 < length t = subst (λ (n : ℕ). 1 < n) c.len-then-len-eq1.ensures c.if-len-gt1.true in
    let it = c.are_apart-then-len-gt1.ensures yes in
    subst (λ (r : Reason). Explains (AskRenameNew s t) (reason_errno r)) (sym c.in-NoFolder.is) (new_blocked s t (sym c.len-in-NoFolder.ensures ∙ c.if-len-eq1.true) deep it.2 it.3)
