use Rattle.std.proofs.Common.{ℕ, Option, sym, subst}
use Rattle.table_files.specs.OpenEntry.{Filing, files_of}
use Rattle.tree.specs.Places.{at_in}
use Rattle.table_steps.specs.Sweeping.{IsClosed}
use Rattle.table_steps.proofs.Filing.{closed_none, closed_pruned}
use Rattle.table_steps.proofs.closing.close.Goals as goal

pub returns-in_default-close-clause-closed : goal.returns-in_default-close-clause-closed
returns-in_default-close-clause-closed c =
    let old : Filing = c.args.files.now in
    let none = closed_none (files_of old) c.in-Some.handle c.len-law.ensures.law (sym c.in_default-close.ensures.file) in
    subst (λ (now : Filing). IsClosed (files_of old) c.args.handle (files_of now)) (sym c.in_default-close.ensures.none)
    (subst (λ (h : Option ℕ). IsClosed (files_of old) h (files_of old)) (sym c.in-Some.is) none)

pub sweep-requires : goal.sweep-requires
sweep-requires c =
    closed_pruned c.args.flights.now c.args.files.now c.close.new.self c.in-Some.handle c.in-Some-close.file c.len-law.ensures.law c.close.ensures.law
    (sym c.in-Some-close.ensures.file) c.in-Some-close.ensures.new_is (at_in c.args.tree.now) c.args.pins.now c.requires
