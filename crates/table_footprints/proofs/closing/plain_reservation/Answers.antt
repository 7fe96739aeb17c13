use Rattle.std.proofs.lemmas.Result.{IfErr-weaker, IfOk-weaker}
use Rattle.std.proofs.Common.{false}
use Rattle.table_requests.specs.declared.data.Case.TheVariants as cases
use Rattle.tree.specs.Places.{at_in}
use Rattle.table_footprints.specs.Gatherings.{IsClosingPath, TellsPath}
use Rattle.table_footprints.proofs.Pathless.{closing_plain, no_short, short_of}
use Rattle.table_footprints.proofs.closing.plain_reservation.Goals as goal

pub returns-clause-ok : goal.returns-clause-ok
returns-clause-ok c =
    let at = at_in c.args.tree.now in
    IfOk-weaker c.reservation_of.result _ (IsClosingPath at c.args.number false) (λ t agreed. closing_plain at c.args.number t agreed.fits (short_of at c.args.number t agreed.reservation) agreed.reservation) c.reservation_of.ensures.ok

pub returns-clause-err : goal.returns-clause-err
returns-clause-err c =
    let at = at_in c.args.tree.now in
    IfErr-weaker c.reservation_of.result _ (TellsPath at c.args.number) (λ r unsound told. no_short at c.reservation_of.ensures.tree c.args.number r told (unsound cases.Plain)) c.reservation_of.ensures.err
