-- Ways down a tree.
use Rattle.std.proofs.Common.{ℕ, get_or, true, ◌≡◌, ◌<◌, ◌≤◌, ◌+◌, List, [], ◌∷◌, ◌++◌, Option, Some, None, IsSome, length, take, drop, refl, sym, ap, ◌∙◌, subst, arith, inl, inr, length-append, append_assoc}
use Rattle.std.proofs.lemmas.List.{take-append-le, take-append-drop, length-take-le, take_more}
use Rattle.std.proofs.lemmas.Bool.{cases_eq}
use Rattle.errno.specs.declared.TheConstants.{ENOENT}
use Rattle.std.specs.Option.{option_map}
use Rattle.paths.specs.Prefixes.{Name, Names, is_prefix}
use Rattle.paths.proofs.PrefixLemmas.{is_prefix-more}
use Rattle.backing.specs.declared.entries.Item.{Item}
use Rattle.backing.specs.declared.entries.Item.TheVariants.{Folder, File, Link, Special}
use Rattle.payload.specs.declared.attributes.Kind.TheVariants as kinds
use Rattle.backing.specs.Tree.{Tree, IsTree, IsFile, IsFolder, IsOther, Blocks, Resolves, Stops, kind_of}
use Rattle.backing.proofs.Lawful.{some_item, stands_above}
use Rattle.disk_folder.specs.declared.trouble.Trouble.{Trouble}
use Rattle.disk_folder.specs.declared.trouble.Trouble.TheVariants.{Refused, Failed}
use Rattle.disk_folder.specs.Troubles.{IsBarred, IsBlocked, reason_errno}

pub file_is : (o : Option Item) → IsFile o → (bytes : List ℕ) × (o ≡ Some (File bytes))
file_is None h = absurd h
file_is (Some Folder) h = absurd h
file_is (Some (File bytes)) h = (bytes, refl)
file_is (Some (Link text)) h = absurd h
file_is (Some (Special special)) h = absurd h

pub kind_file : (o : Option Item) → option_map kind_of o ≡ Some kinds.File → (bytes : List ℕ) × (o ≡ Some (File bytes))
kind_file None h = cc
kind_file (Some Folder) h = cc
kind_file (Some (File bytes)) h = (bytes, refl)
kind_file (Some (Link text)) h = cc
kind_file (Some (Special special)) h = cc

pub folder_yes : (o : Option Item) → o ≡ Some Folder → IsFolder o
folder_yes o e = subst (λ (x : Option Item). IsFolder x) (sym e) tt

pub take_whole : (q : Names) → take (length q) q ≡ q
take_whole [] = refl
take_whole (x ∷ q) = ap (λ (r : Names). x ∷ r) (take_whole q)

pub take_before : (path up : Names) (name : Name) (n : ℕ) → path ≡ up ++ name ∷ [] → n ≡ length up → take n path ≡ up
take_before path up name n whole e = ap (λ (q : Names). take n q) whole ∙ (ap (λ (m : ℕ). take m (up ++ name ∷ [])) e ∙ (take-append-le (length up) up (name ∷ []) (omega arith) ∙ take_whole up))

-- a place above what stands is a folder
above_cons : (at : Tree) → IsTree at → (up : Names) (name : Name) (more : Names) → IsSome (at (up ++ name ∷ more)) → at up ≡ Some Folder
above_cons at t up name more some =
    t.parents up name (stands_above at t (up ++ name ∷ []) more (subst (λ (q : Names). IsSome (at q)) (sym (append_assoc up (name ∷ []) more)) some))

above_split : (at : Tree) → IsTree at → (up rest : Names) → 0 < length rest → IsSome (at (up ++ rest)) → at up ≡ Some Folder
above_split at t up [] some h = absurd (omega (arith, some))
above_split at t up (name ∷ more) some h = above_cons at t up name more h

take_le_drop : (k : ℕ) (p : Names) → k < length p → 0 < length (drop k p)
take_le_drop k p h = let e : length (take k p ++ drop k p) ≡ length p = ap (λ (q : Names). length q) (take-append-drop k p) in omega (arith, e, length-append (take k p) (drop k p), length-take-le k p (omega arith))

pub leads : (at : Tree) (p : Names) → IsTree at → IsSome (at p) → Resolves at p
leads at p t some = record {
  down = λ k within. folder_yes (at (take k p)) (above_split at t (take k p) (drop k p) (take_le_drop k p within) (subst (λ (q : Names). IsSome (at q)) (sym (take-append-drop k p)) some));
}

-- folders lead down into a folder
pub down_into : (at : Tree) (up rest : Names) → IsTree at → at up ≡ Some Folder → (k : ℕ) → k ≤ length up → IsFolder (at (take k (up ++ rest)))
down_into at up rest t folder k within = elim (cases_eq k (length up)) [
  | inl e ↦ subst (λ (q : Names). IsFolder (at q)) (sym (take-append-le k up rest within ∙ (ap (λ (n : ℕ). take n up) e ∙ take_whole up))) (folder_yes (at up) folder)
  | inr ne ↦ subst (λ (q : Names). IsFolder (at q)) (sym (take-append-le k up rest within)) ((leads at up t (some_item (at up) Folder folder)).down k (omega arith))
]

pub leads_below : (at : Tree) (up : Names) (name : Name) → IsTree at → at up ≡ Some Folder → Resolves at (up ++ name ∷ [])
leads_below at up name t folder = record { down = λ k within. down_into at up (name ∷ []) t folder k (omega (arith, length-append up (name ∷ []))) }

-- what is no folder stops the way
pub stops_at : (at : Tree) (up : Names) (name : Name) (more : Names) (errno : _) → IsTree at → at up ≡ Some Folder → 0 < length more → Blocks (at (up ++ name ∷ [])) errno → Stops at ((up ++ name ∷ []) ++ more) errno
stops_at at up name more errno t folder some why = record {
  depth = length up + 1;
  above_path = omega (arith, length-append (up ++ name ∷ []) more, length-append up (name ∷ []));
  down = λ k within. subst (λ (q : Names). IsFolder (at q)) (ap (λ (q : Names). take k q) (sym (append_assoc up (name ∷ []) more))) (down_into at up ((name ∷ []) ++ more) t folder k (omega arith));
  why = subst (λ (q : Names). Blocks (at q) errno) (sym (take-append-le (length up + 1) (up ++ name ∷ []) more (omega (arith, length-append up (name ∷ []))) ∙ taken)) why;
}
  where
    taken : take (length up + 1) (up ++ name ∷ []) ≡ up ++ name ∷ []
    taken = ap (λ (n : ℕ). take n (up ++ name ∷ [])) (omega (arith, length-append up (name ∷ []))) ∙ take_whole (up ++ name ∷ [])

-- what blocks a place on the way bars the rest
pub barred_at : (at : Tree) (path : Names) (k : ℕ) (trouble : Trouble) → IsTree at → at (take k path) ≡ Some Folder → k < length path → IsBlocked at (take (k + 1) path) trouble → IsBarred at path trouble
barred_at at path k (Failed errno) t folder within blocked = tt
barred_at at path k (Refused reason) t folder within blocked = λ name.
    let here = take_more path k [] within in
    let rest = drop (k + 1) path ++ name ∷ [] in
    let whole : ((take k path ++ get_or path k [] ∷ []) ++ rest) ≡ path ++ name ∷ [] = sym (append_assoc (take k path ++ get_or path k [] ∷ []) (drop (k + 1) path) (name ∷ [])) ∙ ap (λ (q : Names). q ++ name ∷ []) (ap (λ (q : Names). q ++ drop (k + 1) path) (sym here) ∙ take-append-drop (k + 1) path) in
    subst (λ (q : Names). Stops at q (reason_errno reason)) whole (stops_at at (take k path) (get_or path k []) rest (reason_errno reason) t folder (omega (arith, length-append (drop (k + 1) path) (name ∷ []))) (subst (λ (q : Names). Blocks (at q) (reason_errno reason)) here blocked))

-- where nothing stands no folder does
pub none_blocks : (at : Tree) (q : Names) → at q ≡ None → Blocks (at q) ENOENT
none_blocks at q none = subst (λ (o : Option Item). Blocks o ENOENT) (sym none) refl

-- a path of one name more than its prefix is that and then its last name
pub parent_is : (up path above : Names) (name : Name) → path ≡ above ++ name ∷ [] → length above ≡ length up → is_prefix up path ≡ true → up ++ name ∷ [] ≡ path
parent_is up path above name whole long prefix =
    let it = is_prefix-more up path prefix in
    let one : take (length up) path ≡ above = take_before path above name (length up) whole (sym long) in
    let two : take (length up) path ≡ up = ap (λ (q : Names). take (length up) q) it.1 ∙ (take-append-le (length up) up it.0 (omega arith) ∙ take_whole up) in
    ap (λ (q : Names). q ++ name ∷ []) (sym two ∙ one) ∙ sym whole

-- what stands before the last name
pub same_above : (above up : Names) (x last : Name) → above ++ x ∷ [] ≡ up ++ last ∷ [] → above ≡ up
same_above [] [] x last e = refl
same_above [] (b ∷ []) x last e = absurd (cc e)
same_above [] (b ∷ c ∷ up) x last e = absurd (cc e)
same_above (a ∷ []) [] x last e = absurd (cc e)
same_above (a ∷ c ∷ above) [] x last e = absurd (cc e)
same_above (a ∷ above) (b ∷ up) x last e =
    let heads : a ≡ b = cc e in
    let tails : above ++ x ∷ [] ≡ up ++ last ∷ [] = cc e in
    ap (λ (q : Names). a ∷ q) (same_above above up x last tails) ∙ ap (λ (n : Name). n ∷ up) heads

pub other_no_folder : (o : Option Item) → IsOther o → IsFolder o → ⊥
other_no_folder None f g = f
other_no_folder (Some Folder) f g = f
other_no_folder (Some (File bytes)) f g = g
other_no_folder (Some (Link text)) f g = g
other_no_folder (Some (Special special)) f g = g

pub some_from : (o : Option Item) → IsFolder o → IsSome o
some_from None h = absurd h
some_from (Some item) h = some_item (Some item) item refl

-- each folder on the way down
pub on_the_way : (at : Tree) (names : Names) (name one : Name) (k : ℕ) → Resolves at (names ++ name ∷ []) → k < length names → take k names ++ one ∷ [] ≡ take (k + 1) names → IsFolder (at (take k names ++ one ∷ []))
on_the_way at names name one k down within same =
    subst (λ (q : Names). IsFolder (at q)) (take-append-le (k + 1) names (name ∷ []) (omega arith) ∙ sym same) (down.down (k + 1) (omega (arith, length-append names (name ∷ []))))
