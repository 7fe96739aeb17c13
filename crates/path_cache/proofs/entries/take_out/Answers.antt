use Rattle.std.proofs.Common.{ap, ◌∙◌, length, arith}
use Rattle.path_cache.specs.Entries.{found}
use Rattle.path_cache.specs.Keys.{is_key}
use Rattle.path_cache.specs.Entries.{weight}
use Rattle.path_cache.proofs.Counting.{length-removed}
use Rattle.path_cache.proofs.Finding.{found-removed}
use Rattle.path_cache.proofs.entries.take_out.Goals as goal

pub returns-clause-found : goal.returns-clause-found
returns-clause-found g c = ap (λ e. found e.entries) c.pop.ensures.entries ∙ found-removed c.args.entries.now.entries c.args.parent c.args.name.now c.len-count.ensures.valid.0

pub returns-clause-len : goal.returns-clause-len
returns-clause-len g c =
    let es = c.args.entries.now.entries in
    let left = ap (λ e. length e.entries) c.pop.ensures.entries in
    let one = ap weight c.pop.ensures.value in
    omega (arith, left, one, length-removed (is_key c.args.parent c.args.name.now) es)
