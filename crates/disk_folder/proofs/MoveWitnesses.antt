-- Trees that refuse a rename with a given error.
use Rattle.std.proofs.Common.{ℕ, ℤ, ◌≡◌, ◌<◌, length, take, true, false, List, ◌++◌, ◌∷◌, [], Option, Some, IsSome, refl, sym, ap, ◌∙◌, subst, arith, inl, inr}
use Rattle.std.proofs.lemmas.Bool.{true≢false, cases_Bool}
use Rattle.paths.specs.Prefixes.{Name, Names, is_prefix}
use Rattle.paths.proofs.PrefixLemmas.{is_prefix-append, is_prefix-same, is_prefix-trans, is_prefix-both, is_prefix-whole}
use Rattle.backing.specs.declared.entries.Item.{Item}
use Rattle.backing.specs.declared.entries.Item.TheVariants.{Folder, File}
use Rattle.errno.specs.declared.TheConstants.{ENOENT, EBUSY, EEXIST, ENOTDIR, EISDIR, EINVAL, ENOTEMPTY}
use Rattle.backing.specs.Tree.{Tree, IsTree, Blocks, IsFolder, Resolves, Stops, with_item}
use Rattle.backing.specs.Calls.{Test, AskRename, AskRenameNew, BelowRoot, Reached, Present, PassesAll, Refuses}
use Rattle.disk_folder.specs.Explained.{Explained, Explains}
use Rattle.backing.proofs.PathLemmas.{is_path-yes, is_path-no}
use Rattle.backing.proofs.Looking.{with_same, with_other}
use Rattle.backing.proofs.Lawful.{some_item}
use Rattle.backing.specs.Checks.{source_tests, new_tests}
use Rattle.backing.proofs.Renaming.{renames_refused}
use Rattle.backing.proofs.Tests.{refuses_later}
use Rattle.disk_folder.proofs.Witnesses.{two, two_s, two_t, two_tree, two_bare_s, two_bare_t, with_leaf, leads, is_folder, is_other, no_folder_other, low, folder_leads, some_folder, lost_absent, lost_blocked, behind_root}

pub from_root : (s t : Names) (more : List Test) → length s ≡ 0 → Explained (source_tests s t ++ more) EBUSY
from_root [] t more none = record { at = two [] []; is_tree = two_tree [] []; refuses = inl (refl, refl) }
from_root (x ∷ s) t more none = absurd (omega arith)

pub to_root : (s t : Names) (more : List Test) → (length s ≡ 0 → ⊥) → length t ≡ 0 → Explained (source_tests s t ++ more) EBUSY
to_root [] t more other none = absurd (other refl)
to_root (x ∷ s) [] more other none = record { at = two [] []; is_tree = two_tree [] []; refuses = inr (low x s, inl (refl, refl)) }
to_root (x ∷ s) (y ∷ t) more other none = absurd (omega arith)

pub source_lost : (s t : Names) (more : List Test) → (length s ≡ 0 → ⊥) → 0 < length t → Explained (source_tests s t ++ more) ENOENT
source_lost [] t more other within = absurd (other refl)
source_lost (x ∷ s) t more other within =
    let p = x ∷ s in
    behind_root p (BelowRoot t ∷ Reached p ∷ Present p ∷ more) ENOENT (omega arith) (behind_root t (Reached p ∷ Present p ∷ more) ENOENT within (lost_absent p more (omega arith)))

-- a file stands above s
pub source_blocked : (s t : Names) (more : List Test) → 1 < length s → 0 < length t → Explained (source_tests s t ++ more) ENOTDIR
source_blocked s t more deep within =
    behind_root s (BelowRoot t ∷ Reached s ∷ Present s ∷ more) ENOTDIR (omega arith) (behind_root t (Reached s ∷ Present s ∷ more) ENOTDIR within (lost_blocked s (Present s ∷ more) deep))

-- the tests of the source, where both paths lead through folders
source_passes : (at : Tree) (s t : Names) → (s ≡ [] → ⊥) → (t ≡ [] → ⊥) → Resolves at s → IsSome (at s) → PassesAll at (source_tests s t)
source_passes at s t low_s low_t leads_s some = (low_s, (low_t, (leads_s, (some, tt))))

through_root : (s t : Names) → (s ≡ [] → ⊥) → is_prefix s t ≡ true → t ≡ [] → ⊥
through_root [] t below prefix e = below refl
through_root (x ∷ s) [] below prefix e = true≢false (sym prefix)
through_root (x ∷ s) (y ∷ t) below prefix e = cc

pub move_into : (s t : Names) → (s ≡ [] → ⊥) → (s ≡ t → ⊥) → is_prefix s t ≡ true → Explains (AskRename s t) EINVAL
move_into s t below other prefix = record {
  at = two s s;
  is_tree = two_tree s s;
  refuses = renames_refused (two s s) s t EINVAL other (source_passes (two s s) s t below (through_root s t below prefix) (folder_leads s) (some_folder s)) (inl (prefix, refl));
}

pub move_over : (s t : Names) → (t ≡ [] → ⊥) → (t ≡ s → ⊥) → is_prefix t s ≡ true → Explains (AskRename s t) ENOTEMPTY
move_over s t below other prefix =
    let apart : is_prefix s t ≡ false = elim (cases_Bool (is_prefix s t)) [
      | inl h ↦ absurd (other (is_prefix-both t s prefix h))
      | inr h ↦ h
    ] in
    record {
      at = two s s;
      is_tree = two_tree s s;
      refuses = renames_refused (two s s) s t ENOTEMPTY (λ e. other (sym e)) (source_passes (two s s) s t (through_root t s below prefix) below (folder_leads s) (some_folder s)) (inr (apart, inl (prefix, refl)));
    }

other_path : (s t : Names) → is_prefix s t ≡ false → s ≡ t → ⊥
other_path s t apart e = true≢false (sym (is_prefix-same s) ∙ (ap (λ (q : Names). is_prefix s q) e ∙ apart))

pub move_on_names : (s t : Names) → (s ≡ [] → ⊥) → (t ≡ [] → ⊥) → is_prefix s t ≡ false → is_prefix t s ≡ false → Explains (AskRename s t) ENOTEMPTY
move_on_names s t low_s low_t a b =
    let u = t ++ [] ∷ [] in
    let at : Tree = two s u in
    let folder_s : at s ≡ Some Folder = two_s s u s (is_prefix-same s) in
    let folder_t : at t ≡ Some Folder = two_t s u t (is_prefix-append t ([] ∷ [])) in
    let leads_s = leads at s (λ q prefix other. two_s s u q prefix) in
    let leads_t = leads at t (λ q prefix other. two_t s u q (is_prefix-trans q t u prefix (is_prefix-append t ([] ∷ [])))) in
    record {
      at = at;
      is_tree = two_tree s u;
      refuses = renames_refused at s t ENOTEMPTY (other_path s t a) (source_passes at s t low_s low_t leads_s (some_item (at s) Folder folder_s))
          (inr (
            a,
            inr (
              b,
              inr (
                leads_t,
                inr (
                  (λ other folder. no_folder_other (at s) folder_s other),
                  inr (
                    (λ folder other. no_folder_other (at t) folder_t other),
                    inl (record { name = []; stands = some_item (at u) Folder (two_t s u u (is_prefix-same u)) }, refl),
                  ),
                ),
              ),
            ),
          ));
    }

pub move_file_on_folder : (s t : Names) → (s ≡ [] → ⊥) → (t ≡ [] → ⊥) → is_prefix s t ≡ false → is_prefix t s ≡ false → Explains (AskRename s t) EISDIR
move_file_on_folder s t low_s low_t a b =
    let at : Tree = with_item (two s t) s (File []) in
    let file : at s ≡ Some (File []) = with_same (two s t) s (File []) in
    let folder : at t ≡ Some Folder = with_other (two s t) s (File []) t (other_path s t a) ∙ two_t s t t (is_prefix-same t) in
    let leads_s = leads at s (λ q prefix other. with_other (two s t) s (File []) q (λ e. other (sym e)) ∙ two_s s t q prefix) in
    let leads_t = leads at t (λ q prefix other. with_other (two s t) s (File []) q (λ e. true≢false (sym (subst (λ (r : Names). is_prefix r t ≡ true) (sym e) prefix) ∙ a)) ∙ two_t s t q prefix) in
    record {
      at = at;
      is_tree = with_leaf (two s t) s (File []) (two_tree s t) low_s (two_bare_s s t a) (some_item (two s t s) Folder (two_s s t s (is_prefix-same s)));
      refuses = renames_refused at s t EISDIR (other_path s t a) (source_passes at s t low_s low_t leads_s (some_item (at s) (File []) file))
          (inr (a, inr (b, inr (leads_t, inl (is_other (at s) file, is_folder (at t) folder, refl)))));
    }

pub move_folder_on_file : (s t : Names) → (s ≡ [] → ⊥) → (t ≡ [] → ⊥) → is_prefix s t ≡ false → is_prefix t s ≡ false → Explains (AskRename s t) ENOTDIR
move_folder_on_file s t low_s low_t a b =
    let at : Tree = with_item (two s t) t (File []) in
    let file : at t ≡ Some (File []) = with_same (two s t) t (File []) in
    let folder : at s ≡ Some Folder = with_other (two s t) t (File []) s (other_path t s b) ∙ two_s s t s (is_prefix-same s) in
    let leads_s = leads at s (λ q prefix other. with_other (two s t) t (File []) q (λ e. true≢false (sym (subst (λ (r : Names). is_prefix r s ≡ true) (sym e) prefix) ∙ b)) ∙ two_s s t q prefix) in
    let leads_t = leads at t (λ q prefix other. with_other (two s t) t (File []) q (λ e. other (sym e)) ∙ two_t s t q prefix) in
    record {
      at = at;
      is_tree = with_leaf (two s t) t (File []) (two_tree s t) low_t (two_bare_t s t b) (some_item (two s t t) Folder (two_t s t t (is_prefix-same t)));
      refuses = renames_refused at s t ENOTDIR (other_path s t a) (source_passes at s t low_s low_t leads_s (some_item (at s) Folder folder))
          (inr (a, inr (b, inr (leads_t, inr ((λ other_s folder_t. no_folder_other (at s) folder other_s), inl (is_folder (at s) folder, is_other (at t) file, refl))))));
    }

-- these tests refuse, behind those of the source
new_refused : (at : Tree) (s t : Names) (errno : ℤ) → IsTree at → PassesAll at (source_tests s t) → Refuses at (new_tests s t) errno → Explains (AskRenameNew s t) errno
new_refused at s t errno tree source refused = record { at = at; is_tree = tree; refuses = refuses_later at (source_tests s t) (new_tests s t) errno source refused }

pub new_on_itself : (s t : Names) → s ≡ t → 0 < length s → Explains (AskRenameNew s t) EEXIST
new_on_itself [] t same within = absurd (omega arith)
new_on_itself (x ∷ s) t same within =
    let p = x ∷ s in
    new_refused (two p p) p t EEXIST (two_tree p p) (source_passes (two p p) p t (low x s) (λ e. low x s (same ∙ e)) (folder_leads p) (some_folder p)) (inl (is_path-yes p t same, refl))

pub new_on_another : (s t : Names) → (s ≡ [] → ⊥) → (t ≡ [] → ⊥) → is_prefix s t ≡ false → is_prefix t s ≡ false → Explains (AskRenameNew s t) EEXIST
new_on_another s t low_s low_t a b =
    let at : Tree = two s t in
    let leads_s = leads at s (λ q prefix other. two_s s t q prefix) in
    let leads_t = leads at t (λ q prefix other. two_t s t q prefix) in
    let some_s = some_item (at s) Folder (two_s s t s (is_prefix-same s)) in
    let some_t = some_item (at t) Folder (two_t s t t (is_prefix-same t)) in
    new_refused at s t EEXIST (two_tree s t) (source_passes at s t low_s low_t leads_s some_s) (inr (is_path-no s t (other_path s t a), inr (a, inr (b, inr (leads_t, inl (some_t, refl))))))

pub new_into : (s t : Names) → (s ≡ [] → ⊥) → (s ≡ t → ⊥) → is_prefix s t ≡ true → Explains (AskRenameNew s t) EINVAL
new_into s t below other prefix =
    new_refused (two s s) s t EINVAL (two_tree s s) (source_passes (two s s) s t below (through_root s t below prefix) (folder_leads s) (some_folder s)) (inr (is_path-no s t other, inl (prefix, refl)))

pub new_over : (s t : Names) → (t ≡ [] → ⊥) → (t ≡ s → ⊥) → is_prefix t s ≡ true → Explains (AskRenameNew s t) ENOTEMPTY
new_over s t below other prefix =
    let apart : is_prefix s t ≡ false = elim (cases_Bool (is_prefix s t)) [
      | inl h ↦ absurd (other (is_prefix-both t s prefix h))
      | inr h ↦ h
    ] in
    new_refused (two s s) s t ENOTEMPTY (two_tree s s) (source_passes (two s s) s t (through_root t s below prefix) below (folder_leads s) (some_folder s)) (inr (is_path-no s t (λ e. other (sym e)), inr (apart, inl (prefix, refl))))

-- a file stands above t, in the root
new_blocked_at : (z x y : Name) (q : Names) → is_prefix (z ∷ []) (x ∷ []) ≡ false → is_prefix (x ∷ y ∷ q) (z ∷ []) ≡ false → Explains (AskRenameNew (z ∷ []) (x ∷ y ∷ q)) ENOTDIR
new_blocked_at z x y q a b =
    let s : Names = z ∷ [] in
    let t : Names = x ∷ y ∷ q in
    let u : Names = x ∷ [] in
    let at : Tree = with_item (two s u) u (File []) in
    let beside : is_prefix u s ≡ false = elim (cases_Bool (is_prefix u s)) [
      | inl h ↦ absurd (other_path s u a (sym (is_prefix-whole u s h (omega arith))))
      | inr h ↦ h
    ] in
    let folder : at s ≡ Some Folder = with_other (two s u) u (File []) s (other_path u s beside) ∙ two_s s u s (is_prefix-same s) in
    let leads_s = leads at s (λ q prefix other. with_other (two s u) u (File []) q (λ e. true≢false (sym (subst (λ (r : Names). is_prefix r s ≡ true) (sym e) prefix) ∙ beside)) ∙ two_s s u q prefix) in
    let stops : Stops at t ENOTDIR = record {
      depth = 1;
      above_path = omega arith;
      down = λ k within. let first : 0 ≡ k = omega arith in subst (λ (n : ℕ). IsFolder (at (take n t))) first tt;
      why = subst (λ (o : Option Item). Blocks o ENOTDIR) (sym (with_same (two s u) u (File []))) refl;
    } in
    let tree = with_leaf (two s u) u (File []) (two_tree s u) (low x []) (two_bare_t s u beside) (some_item (two s u u) Folder (two_t s u u (is_prefix-same u))) in
    new_refused at s t ENOTDIR tree (source_passes at s t (low z []) (low x (y ∷ q)) leads_s (some_item (at s) Folder folder)) (inr (is_path-no s t (other_path s t a), inr (a, inr (b, inl stops))))

pub new_blocked : (s t : Names) → length s ≡ 1 → 1 < length t → is_prefix s t ≡ false → is_prefix t s ≡ false → Explains (AskRenameNew s t) ENOTDIR
new_blocked [] t one deep a b = absurd (omega arith)
new_blocked (z ∷ z' ∷ s) t one deep a b = absurd (omega arith)
new_blocked (z ∷ []) [] one deep a b = absurd (omega arith)
new_blocked (z ∷ []) (x ∷ []) one deep a b = absurd (omega arith)
new_blocked (z ∷ []) (x ∷ (y ∷ q)) one deep a b = new_blocked_at z x y q a b
