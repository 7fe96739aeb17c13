use Rattle.std.proofs.Common.{ap, ◌∙◌, length}
use Rattle.std.specs.Option.{option_map}
use Rattle.path_cache.specs.Entries.{kept_of, found}
use Rattle.path_cache.specs.Keys.{is_key}
use Rattle.path_cache.proofs.Counting.{length-promoted}
use Rattle.path_cache.proofs.Finding.{found-promoted}
use Rattle.path_cache.proofs.entries.number_of_used.Goals as goal

pub returns-in-Some-clause-number : goal.returns-in-Some-clause-number
unfolding found
returns-in-Some-clause-number g c = ap (λ o. option_map (λ k. k.number) (option_map kept_of o)) c.in-Some.ensures.value

pub returns-in-None-clause-number : goal.returns-in-None-clause-number
unfolding found
returns-in-None-clause-number g c = ap (λ o. option_map (λ k. k.number) (option_map kept_of o)) c.in-None.ensures.value

pub returns-in-Some-clause-same : goal.returns-in-Some-clause-same
returns-in-Some-clause-same g c = ap (λ e. found e.entries) c.get.follows.holds-at-none ∙ found-promoted c.args.entries.now.entries c.args.parent c.args.name.now

pub returns-in-None-clause-same : goal.returns-in-None-clause-same
returns-in-None-clause-same g c = ap (λ e. found e.entries) c.get.follows.holds-at-none ∙ found-promoted c.args.entries.now.entries c.args.parent c.args.name.now

pub returns-in-Some-clause-len : goal.returns-in-Some-clause-len
returns-in-Some-clause-len g c = ap (λ e. length e.entries) c.get.follows.holds-at-none ∙ length-promoted (is_key c.args.parent c.args.name.now) c.args.entries.now.entries

pub returns-in-None-clause-len : goal.returns-in-None-clause-len
returns-in-None-clause-len g c = ap (λ e. length e.entries) c.get.follows.holds-at-none ∙ length-promoted (is_key c.args.parent c.args.name.now) c.args.entries.now.entries
