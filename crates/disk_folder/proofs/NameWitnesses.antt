-- Trees that refuse a further name with a given error.
use Rattle.std.proofs.Common.{ℕ, ℤ, ◌≡◌, ◌<◌, length, take, true, false, List, ◌∷◌, [], Option, Some, refl, sym, ◌∙◌, subst, arith, inl, inr}
use Rattle.std.proofs.lemmas.Bool.{true≢false, cases_Bool}
use Rattle.paths.specs.Prefixes.{Name, Names, is_prefix}
use Rattle.paths.proofs.PrefixLemmas.{is_prefix-same, is_prefix-whole}
use Rattle.backing.specs.declared.entries.Item.{Item}
use Rattle.backing.specs.declared.entries.Item.TheVariants.{Folder, File}
use Rattle.errno.specs.declared.TheConstants.{EEXIST, ENOTDIR}
use Rattle.backing.specs.Tree.{Tree, IsTree, Blocks, IsFolder, Stops, with_item}
use Rattle.backing.specs.Calls.{Test, AskLink, Reached, Free, OneName, PassesAll, Refuses}
use Rattle.backing.specs.Checks.{source_tests}
use Rattle.backing.proofs.Looking.{with_same, with_other}
use Rattle.backing.proofs.Lawful.{some_item}
use Rattle.backing.proofs.Tests.{refuses_later}
use Rattle.disk_folder.specs.Explained.{Explains}
use Rattle.disk_folder.proofs.KeptCases.{other_path}
use Rattle.disk_folder.proofs.MoveWitnesses.{source_blocked}
use Rattle.disk_folder.proofs.Witnesses.{two, two_s, two_t, two_tree, two_bare_t, with_leaf, leads, low}

-- the tests behind those of the source
abbrev pub rest_of : Names → List Test
rest_of t = Reached t ∷ Free t ∷ OneName ∷ []

refused : (at : Tree) (s t : Names) (errno : ℤ) → IsTree at → PassesAll at (source_tests s t) → Refuses at (rest_of t) errno → Explains (AskLink s t) errno
refused at s t errno tree source refuses = record { at = at; is_tree = tree; refuses = refuses_later at (source_tests s t) (rest_of t) errno source refuses }

-- folders stand at both paths
pub name_taken : (s t : Names) → (s ≡ [] → ⊥) → (t ≡ [] → ⊥) → Explains (AskLink s t) EEXIST
name_taken s t low_s low_t =
    let at : Tree = two s t in
    let leads_s = leads at s (λ q prefix other. two_s s t q prefix) in
    let leads_t = leads at t (λ q prefix other. two_t s t q prefix) in
    let some_s = some_item (at s) Folder (two_s s t s (is_prefix-same s)) in
    let some_t = some_item (at t) Folder (two_t s t t (is_prefix-same t)) in
    refused at s t EEXIST (two_tree s t) (low_s, (low_t, (leads_s, (some_s, tt)))) (inr (leads_t, inl (some_t, refl)))

-- a file in the root stops the way
file_stops : (at : Tree) (x y : Name) (q : Names) → at [] ≡ Some Folder → Stops (with_item at (x ∷ []) (File [])) (x ∷ y ∷ q) ENOTDIR
file_stops at x y q root = record {
  depth = 1;
  above_path = omega arith;
  down = λ k within. let first : 0 ≡ k = omega arith in subst (λ (n : ℕ). IsFolder (with_item at (x ∷ []) (File []) (take n (x ∷ y ∷ q)))) first (subst (λ (o : Option Item). IsFolder o) (sym root) tt);
  why = subst (λ (o : Option Item). Blocks o ENOTDIR) (sym (with_same at (x ∷ []) (File []))) refl;
}

-- that file is another one than what stands at s
blocked_beside : (z x y : Name) (q : Names) → is_prefix (x ∷ []) (z ∷ []) ≡ false → Explains (AskLink (z ∷ []) (x ∷ y ∷ q)) ENOTDIR
blocked_beside z x y q beside =
    let s : Names = z ∷ [] in
    let u : Names = x ∷ [] in
    let at : Tree = with_item (two s u) u (File []) in
    let folder : at s ≡ Some Folder = with_other (two s u) u (File []) s (other_path u s beside) ∙ two_s s u s (is_prefix-same s) in
    let leads_s = leads at s (λ q prefix other. with_other (two s u) u (File []) q (λ e. true≢false (sym (subst (λ (r : Names). is_prefix r s ≡ true) (sym e) prefix) ∙ beside)) ∙ two_s s u q prefix) in
    let tree = with_leaf (two s u) u (File []) (two_tree s u) (low x []) (two_bare_t s u beside) (some_item (two s u u) Folder (two_t s u u (is_prefix-same u))) in
    refused at s (x ∷ y ∷ q) ENOTDIR tree (low z [], (low x (y ∷ q), (leads_s, (some_item (at s) Folder folder, tt)))) (inl (file_stops (two s u) x y q refl))

-- it is the source itself
blocked_by_source : (x y : Name) (q : Names) → Explains (AskLink (x ∷ []) (x ∷ y ∷ q)) ENOTDIR
blocked_by_source x y q =
    let u : Names = x ∷ [] in
    let at : Tree = with_item (two [] u) u (File []) in
    let leads_u = leads at u (λ q prefix other. with_other (two [] u) u (File []) q (λ e. other (sym e)) ∙ two_t [] u q prefix) in
    let tree = with_leaf (two [] u) u (File []) (two_tree [] u) (low x []) (two_bare_t [] u refl) (some_item (two [] u u) Folder (two_t [] u u (is_prefix-same u))) in
    refused at u (x ∷ y ∷ q) ENOTDIR tree (low x [], (low x (y ∷ q), (leads_u, (some_item (at u) (File []) (with_same (two [] u) u (File [])), tt)))) (inl (file_stops (two [] u) x y q refl))

-- a file stands above t
pub name_blocked : (s t : Names) → (s ≡ [] → ⊥) → 1 < length t → Explains (AskLink s t) ENOTDIR
name_blocked [] t low_s deep = absurd (low_s refl)
name_blocked (z ∷ z' ∷ s) t low_s deep = source_blocked (z ∷ z' ∷ s) t (rest_of t) (omega arith) (omega arith)
name_blocked (z ∷ []) [] low_s deep = absurd (omega arith)
name_blocked (z ∷ []) (x ∷ []) low_s deep = absurd (omega arith)
name_blocked (z ∷ []) (x ∷ (y ∷ q)) low_s deep = elim (cases_Bool (is_prefix (x ∷ []) (z ∷ []))) [
  | inl same ↦ subst (λ (s : Names). Explains (AskLink s (x ∷ y ∷ q)) ENOTDIR) (is_prefix-whole (x ∷ []) (z ∷ []) same (omega arith)) (blocked_by_source x y q)
  | inr beside ↦ blocked_beside z x y q beside
]
