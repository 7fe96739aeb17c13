use Rattle.std.proofs.Common.{refl}
use Rattle.holds.specs.declared.numbers.HoldNumbers.{HoldNumbers}
use Rattle.holds.proofs.Numbering.{numbers_kept}
use Rattle.holds.proofs.numbers.HoldNumbers.reserve.Goals as goal

pub returns-in_err-make_places-clause-law : goal.returns-in_err-make_places-clause-law
returns-in_err-make_places-clause-law c =
    let new : HoldNumbers = record { by_path = c.make_places.new.map; paths = c.args.self.now.paths } in
    numbers_kept c.args.self.now new refl c.make_places.ensures.same c.requires.law

pub returns-clause-law : goal.returns-clause-law
returns-clause-law c =
    let new : HoldNumbers = record { by_path = c.make_places.new.map; paths = c.args.self.now.paths } in
    numbers_kept c.args.self.now new refl c.make_places.ensures.same c.requires.law
