use Rattle.std.proofs.Common.{List, ℕ, take, subst, arith}
use Rattle.backing.specs.Files.{written}
use Rattle.disk.specs.declared.spot.Spot.{Spot}
use Rattle.disk.specs.Spots.{LeadsTo}
use Rattle.disk.proofs.Changing.{changed_of, none_comes, writes_part}
use Rattle.disk.proofs.writing.write.Goals as goal

pub returns-in-Ok-clause-writes : goal.returns-in-Ok-clause-writes
returns-in-Ok-clause-writes c = λ p there.
    let old = c.args.spots.now.items in
    let new = c.write_spot.new.spots.items in
    let n = c.min-n.result in
    let bytes = c.args.bytes.now in
    let found = subst (λ (spots : List Spot). LeadsTo spots c.args.number c.in-Some.i) c.deref.ensures.value c.in-Some.ensures.found in
    let it = changed_of old new c.args.number c.in-Some.i (λ (was : List ℕ). written was c.args.offset (take n bytes)) c.requires.lawful found c.in-Ok.ensures.ok in
    writes_part old new c.args.number p found.path c.args.offset n bytes (omega arith) found.leads there it

pub returns-in-Ok-clause-lawful : goal.returns-in-Ok-clause-lawful
returns-in-Ok-clause-lawful c =
    let old = c.args.spots.now.items in
    let found = subst (λ (spots : List Spot). LeadsTo spots c.args.number c.in-Some.i) c.deref.ensures.value c.in-Some.ensures.found in
    (changed_of old c.write_spot.new.spots.items c.args.number c.in-Some.i (λ (was : List ℕ). written was c.args.offset (take c.min-n.result c.args.bytes.now)) c.requires.lawful found c.in-Ok.ensures.ok).becomes.lawful

pub returns-in-Ok-clause-none : goal.returns-in-Ok-clause-none
returns-in-Ok-clause-none c =
    let old = c.args.spots.now.items in
    let new = c.write_spot.new.spots.items in
    let change : List ℕ → List ℕ = λ was. written was c.args.offset (take c.min-n.result c.args.bytes.now) in
    let found = subst (λ (spots : List Spot). LeadsTo spots c.args.number c.in-Some.i) c.deref.ensures.value c.in-Some.ensures.found in
    none_comes old new found.path change (changed_of old new c.args.number c.in-Some.i change c.requires.lawful found c.in-Ok.ensures.ok)
