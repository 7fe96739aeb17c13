use Rattle.std.proofs.Common.{List, ℕ, subst}
use Rattle.backing.specs.Files.{resized}
use Rattle.disk.specs.declared.spot.Spot.{Spot}
use Rattle.disk.specs.Spots.{LeadsTo}
use Rattle.disk.proofs.Changing.{changed_of, none_comes, cuts_file}
use Rattle.disk.proofs.writing.set_len.Goals as goal

pub returns-in-Ok-clause-cuts : goal.returns-in-Ok-clause-cuts
returns-in-Ok-clause-cuts c = λ p there.
    let old = c.args.spots.now.items in
    let new = c.cut_spot.new.spots.items in
    let size = c.args.size in
    let found = subst (λ (spots : List Spot). LeadsTo spots c.args.number c.in-Some.i) c.deref.ensures.value c.in-Some.ensures.found in
    let it = changed_of old new c.args.number c.in-Some.i (λ (was : List ℕ). resized size was) c.requires found c.in-Ok.ensures.ok in
    cuts_file old new c.args.number p found.path size found.leads there it

pub returns-in-Ok-clause-lawful : goal.returns-in-Ok-clause-lawful
returns-in-Ok-clause-lawful c =
    let old = c.args.spots.now.items in
    let found = subst (λ (spots : List Spot). LeadsTo spots c.args.number c.in-Some.i) c.deref.ensures.value c.in-Some.ensures.found in
    (changed_of old c.cut_spot.new.spots.items c.args.number c.in-Some.i (λ (was : List ℕ). resized c.args.size was) c.requires found c.in-Ok.ensures.ok).becomes.lawful

pub returns-in-Ok-clause-none : goal.returns-in-Ok-clause-none
returns-in-Ok-clause-none c =
    let old = c.args.spots.now.items in
    let new = c.cut_spot.new.spots.items in
    let change : List ℕ → List ℕ = λ was. resized c.args.size was in
    let found = subst (λ (spots : List Spot). LeadsTo spots c.args.number c.in-Some.i) c.deref.ensures.value c.in-Some.ensures.found in
    none_comes old new found.path change (changed_of old new c.args.number c.in-Some.i change c.requires found c.in-Ok.ensures.ok)
