use Rattle.std.proofs.Common.{◌≡◌, ◌∙◌, ap}
use Rattle.std.proofs.lemmas.List.Elements.{All-same}
use Rattle.ledger.specs.Shares.{Part, nothing}
use Rattle.engine_threads.proofs.Lists.{none_posted}
use Rattle.engine_threads.proofs.serving.serve_table.Goals as goal

pub serve_opened-requires-clause-shares : goal.serve_opened-requires-clause-shares
serve_opened-requires-clause-shares g c κs within =
    All-same (λ (p : Part). p.totals ≡ nothing) _ _ (ap (λ v. v.items) c.new-2.ensures ∙ c.in-Ok-open.ensures.shares) (none_posted _)
