use Rattle.std.proofs.Common.{Option, ap, sym, ◌∙◌}
use Rattle.wire.specs.declared.reply.Entry.{Entry}
use Rattle.wire.specs.Dirents.{given_values}
use Rattle.wire.specs.Replies.{entry_layout}
use Rattle.wire.specs.Written.{written}
use Rattle.wire.proofs.Listed.{none_words}
use Rattle.wire.proofs.dirents.given_words.Goals as goal

pub returns-in-None-clause-words : goal.returns-in-None-clause-words
returns-in-None-clause-words c = none_words ∙ ap (λ (e : Option Entry). written entry_layout (given_values e)) (sym c.in-None.is)
