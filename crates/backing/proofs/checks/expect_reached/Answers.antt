use Rattle.std.proofs.Common.{◌≡◌, ◌<◌, length, take, sym, ap, ◌∙◌, subst, arith, rules, Some, None}
use Rattle.std.specs.Option.{option_map}
use Rattle.paths.specs.Prefixes.{Names}
use Rattle.payload.specs.declared.attributes.Kind.TheVariants as kinds
use Rattle.backing.specs.Tree.{kind_of}
use Rattle.backing.specs.Entries.{tree_of}
use Rattle.backing.proofs.Descending.{stops_absent, stops_other, folder_below}
use Rattle.backing.proofs.checks.expect_reached.Goals as goal

pub returns-in-None-clause-err : goal.returns-in-None-clause-err
returns-in-None-clause-err c =
    let at = tree_of c.args.entries.now in
    let k = c.loop-depth.depth in
    let kind : option_map kind_of (at (take k c.args.path.now)) ≡ None = ap (λ (q : Names). option_map kind_of (at (take k q))) (sym c.names-names.ensures) ∙ (sym c.kind_at.ensures ∙ c.in-None.is) in
    let within : k < length c.args.path.now = subst (λ (q : Names). k < length q) c.names-names.ensures c.loop-depth-test.true in
    stops_absent at c.args.path.now k within c.loop-depth.invariant kind

pub returns-in-Some-File-clause-err : goal.returns-in-Some-File-clause-err
returns-in-Some-File-clause-err c =
    let at = tree_of c.args.entries.now in
    let k = c.loop-depth.depth in
    let kind = ap (λ (q : Names). option_map kind_of (at (take k q))) (sym c.names-names.ensures) ∙ (sym c.kind_at.ensures ∙ c.in-Some-File.is) in
    let within : k < length c.args.path.now = subst (λ (q : Names). k < length q) c.names-names.ensures c.loop-depth-test.true in
    let other : c.in-Some-File.field-0 ≡ kinds.Folder → ⊥ = λ e. search rules in
    stops_other at c.args.path.now k c.in-Some-File.field-0 within c.loop-depth.invariant kind other

pub loop-depth-preserved : goal.loop-depth-preserved
loop-depth-preserved c =
    let at = tree_of c.args.entries.now in
    let k = c.loop-depth.depth in
    let kind = ap (λ (q : Names). option_map kind_of (at (take k q))) (sym c.names-names.ensures) ∙ (sym c.kind_at.ensures ∙ (c.in-Some-Folder.is ∙ ap Some c.in-Some-Folder.field-0-is)) in
    folder_below at c.args.path.now k c.loop-depth.invariant kind

pub returns-clause-ok : goal.returns-clause-ok
returns-clause-ok c =
    let end : length c.names-names.result.now ≡ length c.args.path.now = ap (λ (q : Names). length q) c.names-names.ensures in
    record { down = λ k within. c.loop-depth.invariant k (omega arith) }
