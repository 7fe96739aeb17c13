use Rattle.std.proofs.Common.{ℕ, ◌≡◌, ◌≤◌, length, refl, List, [], ◌∷◌, sym, ◌∙◌, subst}
use Rattle.std.proofs.lemmas.Bool.{eq-eqb, true≢false}
use Rattle.backing.specs.declared.call.TheConstants.{MAX_FILE_LEN}
use Rattle.backing.specs.declared.entries.Item.{Item}
use Rattle.backing.specs.declared.entries.TreeEntry.{TreeEntry}
use Rattle.backing.specs.Files.{written}
use Rattle.backing.specs.Items.{item_written}
use Rattle.backing.specs.Calls.{PassesAll, Reached, Present, FileAt}
use Rattle.backing.specs.Entries.{tree_of, IsFoundAt}
use Rattle.backing.proofs.Putting.{some_file, file_changed}
use Rattle.backing.proofs.WriteLemmas.{does_write, end_fits}
use Rattle.backing.proofs.writing.write.Goals as goal

pub returns-clause-ends : goal.returns-clause-ends
returns-clause-ends c =
    let es = c.args.entries.now.items in
    let p = c.args.path.now in
    let i = c.in_ok-i.i in
    let offset = c.args.offset in
    let piece = c.args.piece.now in
    let passes = subst (λ (xs : List TreeEntry). PassesAll (tree_of xs) (Reached p ∷ Present p ∷ FileAt p ∷ [])) c.deref.ensures.value c.in_ok-i.ensures.ok in
    let found = subst (λ (xs : List TreeEntry). IsFoundAt xs p i) c.deref.ensures.value c.in_ok-i.ensures.found in
    let file = some_file (tree_of es p) passes.1.1.0 in
    let changed = file_changed es c.write_at.new.entries.items p i (λ (item : Item). item_written item offset piece) file.0 (written file.0 offset piece) c.requires found file.1 refl c.in_ok-write_at.ensures.ok in
    let some : length piece ≡ 0 → ⊥ = λ e. true≢false (sym (c.is_empty.ensures ∙ eq-eqb (length piece) 0 e) ∙ c.if-is_empty.false) in
    let fits = end_fits offset piece (subst (λ (n : ℕ). n ≤ MAX_FILE_LEN) c.saturating_add.ensures c.in_ok-expect_fits.ensures.ok) in
    ((passes.0, (passes.1.0, (passes.1.1.0, (fits, tt)))), does_write (tree_of es) (tree_of c.write_at.new.entries.items) p offset piece file.0 some file.1 changed.0)

pub returns-clause-lawful : goal.returns-clause-lawful
returns-clause-lawful c =
    let es = c.args.entries.now.items in
    let p = c.args.path.now in
    let i = c.in_ok-i.i in
    let offset = c.args.offset in
    let piece = c.args.piece.now in
    let passes = subst (λ (xs : List TreeEntry). PassesAll (tree_of xs) (Reached p ∷ Present p ∷ FileAt p ∷ [])) c.deref.ensures.value c.in_ok-i.ensures.ok in
    let found = subst (λ (xs : List TreeEntry). IsFoundAt xs p i) c.deref.ensures.value c.in_ok-i.ensures.found in
    let file = some_file (tree_of es p) passes.1.1.0 in
    (file_changed es c.write_at.new.entries.items p i (λ (item : Item). item_written item offset piece) file.0 (written file.0 offset piece) c.requires found file.1 refl c.in_ok-write_at.ensures.ok).1
