use Rattle.std.proofs.Common.{refl, ap, ◌∙◌}
use Rattle.std.specs.Option.{option_map}
use Rattle.std.proofs.lemmas.Map.{length-set_value}
use Rattle.lru.specs.LruCache.{promoted}
use Rattle.path_cache.specs.Keys.{is_key}
use Rattle.path_cache.proofs.Counting.{length-promoted}
use Rattle.path_cache.proofs.Finding.{found-written, entry-written}
use Rattle.path_cache.proofs.entries.set_looked.Goals as goal

pub returns-in-Some-clause-same : goal.returns-in-Some-clause-same
returns-in-Some-clause-same g c =
    let old = c.in-Some.entry.now in
    found-written c.args.entries.now.entries c.args.parent c.args.name.now old (record old { looked = c.args.at }) c.in-Some.ensures.value refl

pub returns-in-Some-clause-looked : goal.returns-in-Some-clause-looked
returns-in-Some-clause-looked g c there =
    let old = c.in-Some.entry.now in
    ap (option_map (λ e. e.looked)) (entry-written c.args.entries.now.entries c.args.parent c.args.name.now old (record old { looked = c.args.at }) c.in-Some.ensures.value)

pub returns-in-Some-clause-len : goal.returns-in-Some-clause-len
returns-in-Some-clause-len g c =
    let es = c.args.entries.now.entries in
    let old = c.in-Some.entry.now in
    let test = is_key c.args.parent c.args.name.now in
    length-set_value test (promoted test es) (record old { looked = c.args.at }) ∙ length-promoted test es
