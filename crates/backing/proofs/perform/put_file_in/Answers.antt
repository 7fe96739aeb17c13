use Rattle.std.proofs.Common.{ℤ, Result, Err, None, w32, rules, sym, ◌∙◌, subst}
use mir.Val.{SFits}
use Rattle.std.proofs.lemmas.Int.{to_z-of_z}
use Rattle.backing.specs.Entries.{tree_of}
use Rattle.backing.specs.Memory.{PutsFile}
use Rattle.backing.proofs.Ending.{puts_file, puts_no_file}
use Rattle.backing.proofs.perform.put_file_in.Goals as goal

pub returns-in-Err-clause-puts : goal.returns-in-Err-clause-puts
returns-in-Err-clause-puts c =
    let old = tree_of c.args.entries.now.items in
    let new = tree_of c.make.new.entries.items in
    let fits : SFits w32 c.in-Err.errno = search rules in
    subst (λ (n : ℤ). PutsFile old c.args.path.now c.args.bytes.now (Err n) new) (sym (to_z-of_z w32 c.in-Err.errno fits)) (puts_no_file old new c.args.path.now c.args.bytes.now c.make.result c.in-Err.errno (c.make.ensures.ends None) (sym c.settle.ensures ∙ c.in-Err.is))

pub returns-clause-puts : goal.returns-clause-puts
returns-clause-puts c =
    let old = tree_of c.args.entries.now.items in
    let mid = tree_of c.make.new.entries.items in
    let new = tree_of c.write.new.entries.items in
    let bytes = c.args.bytes.now in
    subst (λ (r : Result (Unit {0}) ℤ). PutsFile old c.args.path.now bytes r new) (sym c.settle-2.ensures) (puts_file old mid new c.args.path.now bytes c.make.result c.write.result c.in-Ok.field-0 (c.make.ensures.ends None) (sym c.settle.ensures ∙ c.in-Ok.is) c.write.ensures.ends)
