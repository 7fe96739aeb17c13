use Rattle.std.proofs.Common.{◌≡◌, ◌<◌, length, arith, sym, ap, ◌∙◌, Some}
use Rattle.std.proofs.lemmas.Option.{slice_get-get_or}
use Rattle.backing.specs.declared.entries.TreeEntry.{TreeEntry}
use Rattle.backing.proofs.PathLemmas.{is_path-true}
use Rattle.backing.proofs.Looking.{look-drop_found}
use Rattle.backing.proofs.lookups.index_of.Goals as goal

pub returns-then-are_same-clause-found : goal.returns-then-are_same-clause-found
returns-then-are_same-clause-found c =
    let es = c.args.entries.now in
    let x = c.index-entries-i.result in
    let q = c.args.names.now in
    let within : c.loop-i.i < length es = omega arith in
    let path : x.path ≡ q = sym c.names.ensures ∙ is_path-true c.names.result.now q (sym c.are_same.ensures ∙ c.if-are_same.true) in
    let found = look-drop_found es q c.loop-i.i x within (ap (λ (e : TreeEntry). e.path) (sym c.index-entries-i.is) ∙ path) in
    record {
      within = within;
      entry = x;
      is = slice_get-get_or es c.loop-i.i x within ∙ ap (λ (e : TreeEntry). Some e) (sym c.index-entries-i.is);
      path = path;
      stands = c.loop-i.invariant ∙ (found ∙ ap (λ (e : TreeEntry). Some e.item) (sym c.index-entries-i.is));
    }
