use Rattle.std.proofs.Common.{◌≡◌, true, false, List, [], ◌∷◌, ◌++◌, sym, ap, ◌∙◌, inr}
use Rattle.std.proofs.lemmas.Bool.{true≢false}
use Rattle.paths.specs.Prefixes.{Name}
use Rattle.laws.specs.FileNames.{has}
use Rattle.laws.proofs.FileChanges.{all_but, moves_name}
use Rattle.laws.proofs.object_disk.one_file.OneFile.move_name.Goals as goal

pub returns-in-Ok-clause-renamed : goal.returns-in-Ok-clause-renamed
returns-in-Ok-clause-renamed c =
    let names = c.args.self.now.names.items in
    let there : has names c.args.from.now ≡ true = ap (λ (names : List Name). has names c.args.from.now) (sym c.deref.ensures.value) ∙ (sym c.has_name.ensures ∙ c.if-not-has_name.false) in
    let free : has names c.args.to.now ≡ false = ap (λ (names : List Name). has names c.args.to.now) (sym c.deref-2.ensures.value) ∙ (sym c.has_name-2.ensures ∙ c.if-has_name.false) in
    let is : c.drop_name.new.names.items ≡ all_but c.args.from.now (names ++ c.args.to.now ∷ []) = c.drop_name.ensures ∙ ap (λ (xs : List Name). all_but c.args.from.now xs) c.in-Ok.ensures.ok in
    inr (moves_name c.args.self.now.bytes names c.args.from.now there c.args.to.now c.drop_name.new.names.items free is)

pub returns-in-Ok-clause-same : goal.returns-in-Ok-clause-same
returns-in-Ok-clause-same c = λ e.
    let names = c.args.self.now.names.items in
    let there : has names c.args.from.now ≡ true = ap (λ (names : List Name). has names c.args.from.now) (sym c.deref.ensures.value) ∙ (sym c.has_name.ensures ∙ c.if-not-has_name.false) in
    let free : has names c.args.to.now ≡ false = ap (λ (names : List Name). has names c.args.to.now) (sym c.deref-2.ensures.value) ∙ (sym c.has_name-2.ensures ∙ c.if-has_name.false) in
    absurd (true≢false (sym there ∙ (ap (λ (name : Name). has names name) e ∙ free)))
