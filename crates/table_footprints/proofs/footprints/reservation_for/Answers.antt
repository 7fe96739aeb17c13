use Rattle.std.proofs.Common.{◌&&◌, Bool, not, refl, ap, ◌∙◌}
use Rattle.std.proofs.lemmas.Result.{IfErr-weaker, IfOk-weaker}
use Rattle.table_requests.specs.declared.data.Case.TheVariants as cases
use Rattle.table_footprints.specs.declared.refusal.FootprintRefusal.{FootprintRefusal}
use Rattle.table_footprints.specs.Cases.{seen_of}
use Rattle.table_footprints.specs.Gatherings.{IsWanted, refusal_errno}
use Rattle.table_footprints.specs.NewRequests.{IsRefusedRequest}
use Rattle.table_footprints.specs.Footprints.{name_footprint, node_footprint}
use Rattle.table_footprints.proofs.Pathless.{closing_refused, closing_wanted}
use Rattle.table_footprints.proofs.Wanting.{entry_there, exchange_refused, exchange_wanted, link_wanted, move_refused, move_wanted, name_opened, named_wanted, node_opened, node_refused, node_wanted, refused_as, removal_refused, removal_wanted, unsound_opening}
use Rattle.table_footprints.proofs.footprints.reservation_for.Goals as goal

pub returns-in-Node-clause-err : goal.returns-in-Node-clause-err
returns-in-Node-clause-err c =
    let seen = seen_of c.args.tree.now c.args.files.now c.args.counter in
    let t = c.reservation_of.ensures in
    IfErr-weaker c.reservation_of.result _ (λ (r : FootprintRefusal). IsRefusedRequest seen c.args.want.now (refusal_errno r))
    (λ r unsound. node_refused seen c.args.want.now _ c.in-Node.handle (refusal_errno r) c.in-Node.is (unsound cases.Plain)) t.err

pub returns-in-Node-clause-ok : goal.returns-in-Node-clause-ok
returns-in-Node-clause-ok c =
    let seen = seen_of c.args.tree.now c.args.files.now c.args.counter in
    IfOk-weaker c.reservation_of.result _ (λ t. IsWanted seen c.args.want.now t) (λ t agreed. node_wanted seen c.args.want.now _ c.in-Node.handle t c.in-Node.is agreed.fits agreed.reservation) c.reservation_of.ensures.ok

pub returns-in-Name-clause-ok : goal.returns-in-Name-clause-ok
returns-in-Name-clause-ok c =
    let seen = seen_of c.args.tree.now c.args.files.now c.args.counter in
    IfOk-weaker c.reservation_of-in-Name.result _ (λ t. IsWanted seen c.args.want.now t) (λ t agreed. named_wanted seen c.args.want.now _ _ t c.in-Name.is agreed.fits agreed.reservation) c.reservation_of-in-Name.ensures.ok

pub returns-in-Name-clause-err : goal.returns-in-Name-clause-err
returns-in-Name-clause-err c =
    let seen = seen_of c.args.tree.now c.args.files.now c.args.counter in
    let t = c.reservation_of-in-Name.ensures in
    IfErr-weaker c.reservation_of-in-Name.result _ (λ (r : FootprintRefusal). IsRefusedRequest seen c.args.want.now (refusal_errno r)) (λ r unsound. refused_as seen c.args.want.now _ (refusal_errno r) c.in-Name.is (entry_there seen.at _ _ t.tree t.census c.in-Name.parent c.in-Name.name) unsound) t.err

pub returns-in-Remove-clause-ok : goal.returns-in-Remove-clause-ok
returns-in-Remove-clause-ok c =
    let seen = seen_of c.args.tree.now c.args.files.now c.args.counter in
    IfOk-weaker c.going_reservation.result _ (λ t. IsWanted seen c.args.want.now t) (λ t are. removal_wanted seen c.args.want.now _ _ _ t c.in-Remove.is are.fits are.reservation) c.going_reservation.ensures.ok

pub returns-in-Remove-clause-err : goal.returns-in-Remove-clause-err
returns-in-Remove-clause-err c =
    let seen = seen_of c.args.tree.now c.args.files.now c.args.counter in
    IfErr-weaker c.going_reservation.result _ (λ (r : FootprintRefusal). IsRefusedRequest seen c.args.want.now (refusal_errno r)) (λ r bad. removal_refused seen c.args.want.now _ _ _ (refusal_errno r) bad.case c.in-Remove.is bad.fits bad.unsound) c.going_reservation.ensures.err

pub returns-in-Move-clause-ok : goal.returns-in-Move-clause-ok
returns-in-Move-clause-ok c =
    let seen = seen_of c.args.tree.now c.args.files.now c.args.counter in
    let apart = c.may_replace.ensures ∙ ap (λ (b : Bool). not c.in-Move.keep && not b) c.is.ensures in
    IfOk-weaker c.going_reservation-in-Move.result _ (λ t. IsWanted seen c.args.want.now t) (λ t are. move_wanted seen c.args.want.now _ _ _ _ _ _ c.in-Move.is apart t are.fits are.reservation) c.going_reservation-in-Move.ensures.ok

pub returns-in-Move-clause-err : goal.returns-in-Move-clause-err
returns-in-Move-clause-err c =
    let seen = seen_of c.args.tree.now c.args.files.now c.args.counter in
    let apart = c.may_replace.ensures ∙ ap (λ (b : Bool). not c.in-Move.keep && not b) c.is.ensures in
    IfErr-weaker c.going_reservation-in-Move.result _ (λ (r : FootprintRefusal). IsRefusedRequest seen c.args.want.now (refusal_errno r)) (λ r bad. move_refused seen c.args.want.now _ _ _ _ _ _ c.in-Move.is apart (refusal_errno r) bad.case bad.fits bad.unsound) c.going_reservation-in-Move.ensures.err

pub returns-in-Exchange-clause-ok : goal.returns-in-Exchange-clause-ok
returns-in-Exchange-clause-ok c =
    let seen = seen_of c.args.tree.now c.args.files.now c.args.counter in
    IfOk-weaker c.reservation_of-in-Exchange.result _ (λ t. IsWanted seen c.args.want.now t) (λ t agreed. exchange_wanted seen c.args.want.now _ _ _ _ c.in-Exchange.is t agreed.fits agreed.reservation) c.reservation_of-in-Exchange.ensures.ok

pub returns-in-Exchange-clause-err : goal.returns-in-Exchange-clause-err
returns-in-Exchange-clause-err c =
    let seen = seen_of c.args.tree.now c.args.files.now c.args.counter in
    IfErr-weaker c.reservation_of-in-Exchange.result _ (λ (r : FootprintRefusal). IsRefusedRequest seen c.args.want.now (refusal_errno r)) (λ r unsound. exchange_refused seen c.args.want.now _ _ _ _ c.in-Exchange.is (refusal_errno r) (unsound cases.Plain)) c.reservation_of-in-Exchange.ensures.err

pub returns-in-Open-clause-ok : goal.returns-in-Open-clause-ok
returns-in-Open-clause-ok c =
    let seen = seen_of c.args.tree.now c.args.files.now c.args.counter in
    IfOk-weaker c.reservation_with_file.result _ (λ t. IsWanted seen c.args.want.now t) (λ t o. node_opened seen c.args.want.now _ c.in-Open.access o.reservation t c.in-Open.is o.agreed.fits o.agreed.reservation o.more) c.reservation_with_file.ensures.ok

pub returns-in-Open-clause-err : goal.returns-in-Open-clause-err
returns-in-Open-clause-err c =
    let seen = seen_of c.args.tree.now c.args.files.now c.args.counter in
    let t = c.reservation_with_file.ensures in
    IfErr-weaker c.reservation_with_file.result _ (λ (r : FootprintRefusal). IsRefusedRequest seen c.args.want.now (refusal_errno r))
    (λ r unsound. refused_as seen c.args.want.now _ (refusal_errno r) c.in-Open.is (cases.Plain, refl) (λ k. unsound_opening seen.at (node_footprint c.in-Open.number) _ (refusal_errno r) (unsound k))) t.err

pub returns-in-Create-clause-ok : goal.returns-in-Create-clause-ok
returns-in-Create-clause-ok c =
    let seen = seen_of c.args.tree.now c.args.files.now c.args.counter in
    IfOk-weaker c.reservation_with_file-in-Create.result _ (λ t. IsWanted seen c.args.want.now t) (λ t o. name_opened seen c.args.want.now _ _ c.in-Create.access o.reservation t c.in-Create.is o.agreed.fits o.agreed.reservation o.more) c.reservation_with_file-in-Create.ensures.ok

pub returns-in-Create-clause-err : goal.returns-in-Create-clause-err
returns-in-Create-clause-err c =
    let seen = seen_of c.args.tree.now c.args.files.now c.args.counter in
    let t = c.reservation_with_file-in-Create.ensures in
    IfErr-weaker c.reservation_with_file-in-Create.result _ (λ (r : FootprintRefusal). IsRefusedRequest seen c.args.want.now (refusal_errno r))
    (λ r unsound. refused_as seen c.args.want.now _ (refusal_errno r) c.in-Create.is (entry_there seen.at _ _ t.tree t.census c.in-Create.parent c.in-Create.name) (λ k. unsound_opening seen.at (name_footprint c.in-Create.parent c.in-Create.name k) _ (refusal_errno r) (unsound k))) t.err

pub returns-in-Release-clause-ok : goal.returns-in-Release-clause-ok
returns-in-Release-clause-ok c =
    let seen = seen_of c.args.tree.now c.args.files.now c.args.counter in
    IfOk-weaker c.closing_reservation.result _ (λ t. IsWanted seen c.args.want.now t) (λ t closing. closing_wanted seen c.args.want.now _ _ t c.in-Release.is closing) c.closing_reservation.ensures.ok

pub returns-in-Release-clause-err : goal.returns-in-Release-clause-err
returns-in-Release-clause-err c =
    let seen = seen_of c.args.tree.now c.args.files.now c.args.counter in
    IfErr-weaker c.closing_reservation.result _ (λ (r : FootprintRefusal). IsRefusedRequest seen c.args.want.now (refusal_errno r)) (λ r starving. closing_refused seen c.closing_reservation.ensures.tree _ c.closing_reservation.ensures.files.many c.args.want.now _ _ r c.in-Release.is starving) c.closing_reservation.ensures.err

pub returns-in-Link-clause-ok : goal.returns-in-Link-clause-ok
returns-in-Link-clause-ok c =
    let seen = seen_of c.args.tree.now c.args.files.now c.args.counter in
    IfOk-weaker c.reservation_of-in-Link.result _ (λ t. IsWanted seen c.args.want.now t) (λ t agreed. link_wanted seen c.args.want.now _ _ _ t c.in-Link.is agreed.fits agreed.reservation) c.reservation_of-in-Link.ensures.ok

pub returns-in-Link-clause-err : goal.returns-in-Link-clause-err
returns-in-Link-clause-err c =
    let seen = seen_of c.args.tree.now c.args.files.now c.args.counter in
    let t = c.reservation_of-in-Link.ensures in
    IfErr-weaker c.reservation_of-in-Link.result _ (λ (r : FootprintRefusal). IsRefusedRequest seen c.args.want.now (refusal_errno r)) (λ r unsound. refused_as seen c.args.want.now _ (refusal_errno r) c.in-Link.is (entry_there seen.at _ _ t.tree t.census c.in-Link.parent c.in-Link.name) unsound) t.err
