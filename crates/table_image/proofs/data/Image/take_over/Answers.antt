use Rattle.table_image.proofs.TakenOver.{lawful_one, lawful_from_one}
use Rattle.table_image.proofs.data.Image.take_over.Goals as goal

pub returns-clause-lawful : goal.returns-clause-lawful
returns-clause-lawful c = rw (c.none_of-births.ensures, c.nothing.ensures) (lawful_one c.args.one, lawful_from_one c.args.one)
