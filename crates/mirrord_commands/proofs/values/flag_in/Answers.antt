use Rattle.std.proofs.Common.{◌∙◌}
use Rattle.clap.proofs.WalkLemmas.{one_text-rows}
use Rattle.clap.specs.Words.{found_of}
use Rattle.mirrord_commands.proofs.Reading.{flag_reads}
use Rattle.mirrord_commands.proofs.values.flag_in.Goals as goal

pub returns : goal.returns
returns c =
    let read = one_text-rows (found_of c.args.matches.now) c.args.name.now in
    flag_reads _ c.get_flag.result (λ e. c.get_flag.ensures.none (read ∙ e)) (λ e. c.get_flag.ensures.value (read ∙ e)) (λ e. c.get_flag.ensures.other (read ∙ e))
