use Rattle.std.proofs.Common.{rules, arith}
use Rattle.std.proofs.lemmas.List.{length-drop, take_all}
use Rattle.wire.specs.Requests.{body_in}
use Rattle.wire.proofs.Requests.{parts_read}
use Rattle.wire.proofs.decoding.parts_of.Goals as goal

pub returns : goal.returns
returns c =
    parts_read c.args.frame.now c.in-Some.header _ c.in-Some.ensures.some (take_all _ (body_in c.args.frame.now) (omega (arith, length-drop 40 c.args.frame.now)))
    (record { long = search rules; short = search rules; len = search rules })
