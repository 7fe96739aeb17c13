use Rattle.std.proofs.Common.{sym, ◌∙◌}
use Rattle.path_cache.proofs.Finding.{entry-first}
use Rattle.path_cache.proofs.entries.last_used.Goals as goal

pub returns-then-equivalent : goal.returns-then-equivalent
returns-then-equivalent g c =
    entry-first c.args.entries.now.entries c.args.parent c.args.name.now (c.in-Some.key.now, c.in-Some.entry.now) (sym c.in-Some.ensures) (sym c.equivalent.ensures ∙ c.if-equivalent.true)
