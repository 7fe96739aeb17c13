use Rattle.std.proofs.Common.{◌∙◌}
use Rattle.clap.proofs.WalkLemmas.{first_value-rows}
use Rattle.clap.specs.Words.{found_of}
use Rattle.mirrord_commands.proofs.Reading.{is_told}
use Rattle.mirrord_commands.proofs.values.is_given.Goals as goal

pub returns : goal.returns
returns c = c.is_some.ensures ∙ is_told c.get_str.result _ (c.get_str.ensures ∙ first_value-rows (found_of c.args.matches.now) c.args.name.now)
