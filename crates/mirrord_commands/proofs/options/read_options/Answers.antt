use Rattle.std.proofs.Common.{◌≡◌, true, List, map, Option, refl, sym, ap, subst, ◌∙◌}
use Rattle.clap.specs.Words.{App, Row, Text, fault_of, is_simple, is_simple_and_free, subcommand_of, takes}
use Rattle.mirrord_commands.specs.CommandLine.{mirrord_app, IsAsked}
use Rattle.mirrord_commands.proofs.options.read_options.Goals as goal

-- no argument of the program has a rule about another
simple : is_simple_and_free mirrord_app ≡ true
simple = refl

plain : is_simple mirrord_app ≡ true
plain = refl

pub returns-in-Ok-clause-asked : goal.returns-in-Ok-clause-asked
returns-in-Ok-clause-asked g c =
    let app = c.in_ok-command.ensures in
    let words = map g.S.AsStr.text c.args.words.now in
    let met = c.in-Ok.ensures.matches (ap (λ (a : App). is_simple a) app ∙ plain) in
    subst (λ (asked : Option (Text × List Row)). IsAsked asked c.asked.result) (met.1 ∙ ap (λ (a : App). subcommand_of a words) app) c.asked.ensures

pub returns-in-Ok-clause-fails : goal.returns-in-Ok-clause-fails
returns-in-Ok-clause-fails g c =
    let app = c.in_ok-command.ensures in
    let words = map g.S.AsStr.text c.args.words.now in
    ap (λ (a : App). fault_of a words) (sym app) ∙ c.in-Ok.ensures.kinds (ap (λ (a : App). is_simple_and_free a) app ∙ simple)

pub returns-in-Err-clause-fails : goal.returns-in-Err-clause-fails
returns-in-Err-clause-fails g c =
    let app = c.in_ok-command.ensures in
    let words = map g.S.AsStr.text c.args.words.now in
    rw (ap (λ (a : App). fault_of a words) (sym app)) (c.in-Err.ensures.kinds (ap (λ (a : App). is_simple_and_free a) app ∙ simple))

pub returns-in-Err-clause-passes : goal.returns-in-Err-clause-passes
returns-in-Err-clause-passes g c =
    λ taken. c.in-Err.ensures.passes (ap (λ (a : App). takes a (map g.S.AsStr.text c.args.words.now)) c.in_ok-command.ensures ∙ taken)
