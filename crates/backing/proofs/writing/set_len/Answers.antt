use Rattle.std.proofs.Common.{refl, List, [], ◌∷◌, subst}
use Rattle.backing.specs.declared.entries.Item.{Item}
use Rattle.backing.specs.declared.entries.TreeEntry.{TreeEntry}
use Rattle.backing.specs.Files.{resized}
use Rattle.backing.specs.Items.{item_resized}
use Rattle.backing.specs.Calls.{PassesAll, Reached, Present, FileAt}
use Rattle.backing.specs.Entries.{tree_of, IsFoundAt}
use Rattle.backing.proofs.Putting.{some_file, file_changed}
use Rattle.backing.proofs.writing.set_len.Goals as goal

pub returns-clause-ends : goal.returns-clause-ends
returns-clause-ends c =
    let es = c.args.entries.now.items in
    let p = c.args.path.now in
    let i = c.in_ok-i.i in
    let passes = subst (λ (xs : List TreeEntry). PassesAll (tree_of xs) (Reached p ∷ Present p ∷ FileAt p ∷ [])) c.deref.ensures.value c.in_ok-i.ensures.ok in
    let found = subst (λ (xs : List TreeEntry). IsFoundAt xs p i) c.deref.ensures.value c.in_ok-i.ensures.found in
    let file = some_file (tree_of es p) passes.1.1.0 in
    let changed = file_changed es c.set_len_at.new.entries.items p i (λ (item : Item). item_resized item c.args.size) file.0 (resized c.args.size file.0) c.requires found file.1 refl c.in_ok-set_len_at.ensures.ok in
    ((passes.0, (passes.1.0, (passes.1.1.0, (c.in_ok-expect_fits.ensures.ok, tt)))), (refl, (file.0, file.1, changed.0)))

pub returns-clause-lawful : goal.returns-clause-lawful
returns-clause-lawful c =
    let es = c.args.entries.now.items in
    let p = c.args.path.now in
    let i = c.in_ok-i.i in
    let passes = subst (λ (xs : List TreeEntry). PassesAll (tree_of xs) (Reached p ∷ Present p ∷ FileAt p ∷ [])) c.deref.ensures.value c.in_ok-i.ensures.ok in
    let found = subst (λ (xs : List TreeEntry). IsFoundAt xs p i) c.deref.ensures.value c.in_ok-i.ensures.found in
    let file = some_file (tree_of es p) passes.1.1.0 in
    (file_changed es c.set_len_at.new.entries.items p i (λ (item : Item). item_resized item c.args.size) file.0 (resized c.args.size file.0) c.requires found file.1 refl c.in_ok-set_len_at.ensures.ok).1
