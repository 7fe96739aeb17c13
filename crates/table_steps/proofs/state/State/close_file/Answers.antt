use Rattle.std.proofs.Common.{ℕ, Option, Some, refl, sym, subst}
use Rattle.table_steps.specs.Beginning.{ClosesFile}
use Rattle.table_steps.specs.Kept.{world_of}
use Rattle.table_steps.proofs.OneClosed.{close_kept, closes_file}
use Rattle.table_steps.proofs.state.State.close_file.Goals as goal

pub returns-in-Some-clause-closes : goal.returns-in-Some-clause-closes
returns-in-Some-clause-closes c =
    let s = c.args.self.now in
    let it = c.close.ensures in
    subst (λ (h : Option ℕ). ClosesFile (world_of s) h (world_of (record s { tree = c.close.new.tree; files = c.close.new.files }))) (sym c.in-Some.is)
    (closes_file s c.requires.kept (Some c.in-Some.handle) c.close.new.tree c.close.new.files it.closed it.swept it.rest it.pruned c.in-Some.handle refl)

pub returns-in-Some-clause-kept : goal.returns-in-Some-clause-kept
returns-in-Some-clause-kept c =
    let it = c.close.ensures in
    close_kept c.args.self.now c.requires.kept (Some c.in-Some.handle) c.close.new.tree c.close.new.files it.closed it.swept it.rest it.pruned
