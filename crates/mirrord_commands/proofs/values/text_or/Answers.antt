use Rattle.std.proofs.Common.{◌∙◌}
use Rattle.clap.proofs.WalkLemmas.{first_value-rows}
use Rattle.clap.specs.Words.{found_of}
use Rattle.mirrord_commands.proofs.Reading.{text_reads}
use Rattle.mirrord_commands.proofs.values.text_or.Goals as goal

pub returns : goal.returns
returns c = text_reads c.get_str.result _ c.unwrap_or.result _ (c.get_str.ensures ∙ first_value-rows (found_of c.args.matches.now) c.args.name.now) c.unwrap_or.ensures
