use Rattle.std.proofs.Common.{◌≤◌, ◌-◌, length, sym, ap, ◌∙◌, arith}
use Rattle.paths.specs.Prefixes.{Name}
use Rattle.lru.specs.LruCache.{put_entries}
use Rattle.path_cache.specs.Keys.{same_key, key_of}
use Rattle.path_cache.specs.Walks.{with_found}
use Rattle.path_cache.specs.Entries.{kept_of, entry_in, found}
use Rattle.path_cache.proofs.Counting.{length-put}
use Rattle.path_cache.proofs.Finding.{found-put, entry-put}
use Rattle.path_cache.proofs.entries.put_in.Goals as goal

pub returns-in-Ok-put-clause-put : goal.returns-in-Ok-put-clause-put
returns-in-Ok-put-clause-put g c _ =
    let was = c.args.entries.now in
    let room : length was.entries ≤ was.cap - 1 = omega (arith, c.requires.wide, c.len-count.ensures.len, c.len-count.ensures.fits) in
    ap (λ e. found e.entries) c.in-Ok-put.ensures.entries
    ∙ (found-put was c.args.parent c.in-Ok.name c.args.entry c.len-count.ensures.valid.0 room
    ∙ ap (λ (name : Name). with_found (found was.entries) c.args.parent name (kept_of c.args.entry)) c.in-Ok.ensures)

pub returns-in-Ok-put-clause-there : goal.returns-in-Ok-put-clause-there
returns-in-Ok-put-clause-there g c _ =
    let was = c.args.entries.now in
    ap (λ e. entry_in e.entries c.args.parent c.args.name.now) c.in-Ok-put.ensures.entries
    ∙ (ap (λ (name : Name). entry_in (put_entries same_key was (key_of c.args.parent c.in-Ok.name) c.args.entry) c.args.parent name) (sym c.in-Ok.ensures)
    ∙ entry-put was c.args.parent c.in-Ok.name c.args.entry)

pub returns-in-Ok-put-clause-len : goal.returns-in-Ok-put-clause-len
returns-in-Ok-put-clause-len g c =
    let was = c.args.entries.now in
    omega (arith, ap (λ e. length e.entries) c.in-Ok-put.ensures.entries, length-put same_key was (key_of c.args.parent c.in-Ok.name) c.args.entry)
