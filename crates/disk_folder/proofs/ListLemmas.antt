-- The names in a folder, one after another, with what stands there.
use Rattle.std.proofs.Common.{ℕ, ℤ, Result, Ok, Err, IfOk, IfErr, ◌≡◌, ◌<◌, ◌+◌, length-append, if◌then◌else◌, ◌||◌, suc, zero, Bool, true, false, List, [], ◌∷◌, ◌++◌, Option, Some, None, is_some, length, map, take, get_or, refl, sym, ap, ◌∙◌, subst, arith, inl, inr}
use Rattle.std.specs.Option.{option_map}
use Rattle.std.specs.List.{All, AllByRecursion}
use Rattle.std.proofs.lemmas.Bool.{true≢false, cases_eq}
use Rattle.std.proofs.lemmas.List.Elements.{All-from_recursion}
use Rattle.std.proofs.lemmas.List.{take-append-le}
use Rattle.std.proofs.lemmas.List.{take_more, map-append}
use Rattle.errno.specs.declared.TheConstants.{ENOTDIR}
use Rattle.paths.specs.Prefixes.{Name, Names, is_name}
use Rattle.paths.proofs.PrefixLemmas.{is_name-same, is_name-true}
use Rattle.backing.specs.declared.entries.Item.{Item}
use Rattle.backing.specs.declared.call.Answer.{Answer}
use Rattle.backing.specs.declared.call.Answer.TheVariants.{Names as NamesAre}
use Rattle.backing.specs.declared.entries.Item.TheVariants.{Folder, File, Link, Special}
use Rattle.backing.specs.Tree.{Tree, IsTree, IsFolder, IsOther, Blocks, Resolves, Stops, kind_of}
use Rattle.backing.specs.Checks.{folder_tests}
use Rattle.backing.proofs.Lawful.{some_item}
use Rattle.backing.specs.Calls.{AskList, Refuses, Lists, EachOnce, kind_in}
use Rattle.disk.specs.Answers.{ListsNames, is_among, EachOnce as EachNameOnce}
use Rattle.disk_folder.specs.declared.look.Seen.{Seen}
use Rattle.disk_folder.specs.declared.listing.SeenName.{SeenName}
use Rattle.disk_folder.specs.declared.trouble.Trouble.{Trouble}
use Rattle.disk_folder.specs.declared.trouble.Trouble.TheVariants.{Refused, Failed}
use Rattle.disk_folder.specs.Ends.{Ends, Before, IsRefused}
use Rattle.disk_folder.specs.Troubles.{IsBarred, IsFailure, reason_errno}
use Rattle.disk_folder.specs.Seen.{IsSeen}
use Rattle.disk_folder.proofs.WayLemmas.{folder_yes, leads, take_whole}
use Rattle.disk_folder.specs.Listed.{AreSeen, EachSeen, IsListing, IsNamed, children_of, with_one}

abbrev name_of : SeenName → Name
name_of one = one.name

-- each of the names is among them
among_at : (names : List Name) (k : ℕ) (d : Name) → k < length names → is_among names (get_or names k d) ≡ true
among_at [] k d within = absurd (omega arith)
among_at (name ∷ names) zero d within = ap (λ (b : Bool). b || is_among names name) (is_name-same name)
among_at (name ∷ names) (suc k) d within = or_right (is_name name (get_or names k d)) (is_among names (get_or names k d)) (among_at names k d (omega arith))
  where
    or_right : (a b : Bool) → b ≡ true → a || b ≡ true
    or_right true b e = refl
    or_right false b e = e

-- what the folder lists stands there
pub listed_stands : (at : Tree) (p : Names) (names : List Name) (k : ℕ) (name : Name) → ListsNames at p names → k < length names → name ≡ get_or names k name → at (p ++ name ∷ []) ≡ None → ⊥
listed_stands at p names k name lists within is none =
    let among : is_among names name ≡ true = ap (λ (n : Name). is_among names n) is ∙ among_at names k name within in
    let gone : is_some (at (p ++ name ∷ [])) ≡ false = ap (λ (o : Option Item). is_some o) none in
    true≢false (sym among ∙ (lists.stands name ∙ gone))

each_push : (at : Tree) (p : Names) (seen : List SeenName) (one : SeenName) → EachSeen at p seen → IsSeen at (p ++ one.name ∷ []) one.seen → EachSeen at p (seen ++ one ∷ [])
each_push at p [] one each it = (it, tt)
each_push at p (other ∷ seen) one each it = (each.0, each_push at p seen one each.1 it)

-- one more is seen
pub seen_more : (at : Tree) (p : Names) (names : List Name) (k : ℕ) (seen : List SeenName) (one : SeenName) → AreSeen at p (take k names) seen → k < length names → one.name ≡ get_or names k one.name → IsSeen at (p ++ one.name ∷ []) one.seen → AreSeen at p (take (k + 1) names) (seen ++ one ∷ [])
seen_more at p names k seen one are within is it = record {
  same = map-append name_of seen (one ∷ []) ∙ (ap (λ (ns : List Name). ns ++ one.name ∷ []) are.same ∙ (ap (λ (n : Name). take k names ++ n ∷ []) is ∙ sym (take_more names k one.name within)));
  each = each_push at p seen one are.each it;
}

-- one more is seen, where the folder lists it
pub named_more : (at : Tree) (p : Names) (names : List Name) (k : ℕ) (seen : List SeenName) (name : Name) (found : Option Seen) → ListsNames at p names → AreSeen at p (take k names) seen → k < length names → name ≡ get_or names k name → IsNamed at (p ++ name ∷ []) found → AreSeen at p (take (k + 1) names) (with_one seen name found)
named_more at p names k seen name None lists are within is none = absurd (listed_stands at p names k name lists within is none)
named_more at p names k seen name (Some one) lists are within is it = seen_more at p names k seen (record { name = name; seen = one }) are within is it

kind_none : (seen : List SeenName) (name : Name) → is_among (map name_of seen) name ≡ false → kind_in (children_of seen) name ≡ None
kind_none [] name far = refl
kind_none (one ∷ seen) name far = by_test (is_name one.name name) (kind_none seen name) far
  where
    by_test : (b : Bool) → (is_among (map name_of seen) name ≡ false → kind_in (children_of seen) name ≡ None) → b || is_among (map name_of seen) name ≡ false → (if b then Some one.seen.kind else kind_in (children_of seen) name) ≡ None
    by_test true rest far = absurd (true≢false far)
    by_test false rest far = rest far

-- the kind under each name is that of what stands there
kind_seen : (at : Tree) (p : Names) (seen : List SeenName) (name : Name) → EachSeen at p seen → is_among (map name_of seen) name ≡ is_some (at (p ++ name ∷ [])) → kind_in (children_of seen) name ≡ option_map kind_of (at (p ++ name ∷ []))
kind_seen at p [] name each among = gone (at (p ++ name ∷ [])) (sym among)
  where
    gone : (o : Option Item) → is_some o ≡ false → None ≡ option_map kind_of o
    gone None e = refl
    gone (Some item) e = absurd (true≢false e)
kind_seen at p (one ∷ seen) name each among = by_test (is_name one.name name) refl (kind_seen at p seen name each.1) among
  where
    by_test : (b : Bool) → is_name one.name name ≡ b → (is_among (map name_of seen) name ≡ is_some (at (p ++ name ∷ [])) → kind_in (children_of seen) name ≡ option_map kind_of (at (p ++ name ∷ []))) → b || is_among (map name_of seen) name ≡ is_some (at (p ++ name ∷ [])) → (if b then Some one.seen.kind else kind_in (children_of seen) name) ≡ option_map kind_of (at (p ++ name ∷ []))
    by_test true is rest among =
        let here : at (p ++ name ∷ []) ≡ Some each.0.item = ap (λ (n : Name). at (p ++ n ∷ [])) (sym (is_name-true one.name name is)) ∙ each.0.stands in
        ap Some each.0.kind ∙ sym (ap (λ (o : Option Item). option_map kind_of o) here)
    by_test false is rest among = rest among

once_seen : (seen : List SeenName) → EachNameOnce (map name_of seen) → EachOnce (children_of seen)
once_seen [] once = tt
once_seen (one ∷ seen) once = (kind_none seen one.name once.0, once_seen seen once.1)

-- what is seen under all names is what the folder lists
pub lists_seen : (at : Tree) (p : Names) (names : List Name) (seen : List SeenName) → ListsNames at p names → AreSeen at p names seen → Lists at p (children_of seen)
lists_seen at p names seen lists are = record {
  stands = λ name. kind_seen at p seen name are.each (ap (λ (ns : List Name). is_among ns name) are.same ∙ lists.stands name);
  once = once_seen seen (subst (λ (ns : List Name). EachNameOnce ns) (sym are.same) lists.once);
}

recursion : (at : Tree) (p : Names) (seen : List SeenName) → EachSeen at p seen → AllByRecursion (λ (one : SeenName). IsSeen at (p ++ one.name ∷ []) one.seen) seen
recursion at p [] each = tt
recursion at p (one ∷ seen) each = (each.0, recursion at p seen each.1)

-- what was seen at each name stands there
pub all_seen : (at : Tree) (p : Names) (seen : List SeenName) → EachSeen at p seen → All (λ (one : SeenName). IsSeen at (p ++ one.name ∷ []) one.seen) seen
all_seen at p seen each = All-from_recursion (λ (one : SeenName). IsSeen at (p ++ one.name ∷ []) one.seen) seen (recursion at p seen each)

-- the names in a folder are told
pub list_ends : (at : Tree) (path : Names) (seen : List SeenName) (result : Result Answer Trouble) → IsTree at → IsListing at path seen → IfOk result (λ answer. answer ≡ NamesAre (children_of seen)) → IfErr result IsFailure → Ends at (AskList path) result at
list_ends at path seen (Err (Refused reason)) t it ok err = absurd err
list_ends at path seen (Err (Failed errno)) t it ok err = Before refl
list_ends at path seen (Ok answer) t it ok err =
    let some = some_item (at path) Folder it.folder in
    ((leads at path t some, (some, (folder_yes (at path) it.folder, tt))), ((children_of seen, lists_seen at path it.names seen it.lists it.are, ok), refl))

pub listing_of : {A : Type 0} (at : Tree) (path : Names) (result : Result A Trouble) (items : A → List SeenName) → at path ≡ Some Folder → IfOk result (λ seen. (names : List Name) × ListsNames at path names × AreSeen at path names (items seen)) → IfOk result (λ seen. IsListing at path (items seen))
listing_of at path (Ok seen) items folder it = record { folder = folder; names = it.0; lists = it.1; are = it.2 }
listing_of at path (Err trouble) items folder it = tt

-- what bars the way into a folder refuses it
barred : (at : Tree) (path : Names) (errno : ℤ) → Stops at (path ++ [] ∷ []) errno → Refuses at (folder_tests path) errno
barred at path errno stops = elim (cases_eq stops.depth (length path)) [
  | inl e ↦
      let here : take stops.depth (path ++ [] ∷ []) ≡ path = ap (λ (n : ℕ). take n (path ++ [] ∷ [])) e ∙ (take-append-le (length path) path ([] ∷ []) (omega arith) ∙ take_whole path) in
      let down : Resolves at path = record { down = λ k within. subst (λ (q : Names). IsFolder (at q)) (take-append-le k path ([] ∷ []) (omega arith)) (stops.down k (omega (arith, e))) } in
      blocked at path (at path) errno refl down (subst (λ (q : Names). Blocks (at q) errno) here stops.why)
  | inr ne ↦
      let long : length (path ++ [] ∷ []) ≡ length path + 1 = length-append path ([] ∷ []) in
      let above = stops.above_path in
      let short : stops.depth < length path = omega (arith, long) in
      inl (record {
        depth = stops.depth;
        above_path = short;
        down = λ k within. subst (λ (q : Names). IsFolder (at q)) (take-append-le k path ([] ∷ []) (omega arith)) (stops.down k within);
        why = subst (λ (q : Names). Blocks (at q) errno) (take-append-le stops.depth path ([] ∷ []) (omega arith)) stops.why;
      })
]
  where
    no_way : (at : Tree) (path : Names) (item : Item) (errno : ℤ) → at path ≡ Some item → IsOther (Some item) → Resolves at path → errno ≡ ENOTDIR → Refuses at (folder_tests path) errno
    no_way at path item errno is other down why = inr (down, inr (some_item (at path) item is, inl (subst (λ (o : Option Item). IsOther o) (sym is) other, why)))

    blocked : (at : Tree) (path : Names) (o : Option Item) (errno : ℤ) → at path ≡ o → Resolves at path → Blocks o errno → Refuses at (folder_tests path) errno
    blocked at path None errno is down why = inr (down, inl (is, why))
    blocked at path (Some Folder) errno is down why = absurd why
    blocked at path (Some (File bytes)) errno is down why = no_way at path (File bytes) errno is tt down why
    blocked at path (Some (Link text)) errno is down why = no_way at path (Link text) errno is tt down why
    blocked at path (Some (Special special)) errno is down why = no_way at path (Special special) errno is tt down why

pub barred_refused : (at : Tree) (path : Names) (trouble : Trouble) → IsBarred at path trouble → IsRefused at (folder_tests path) trouble
barred_refused at path (Failed errno) bars = tt
barred_refused at path (Refused reason) bars = barred at path (reason_errno reason) (bars [])

pub named_pushed : (at : Tree) (p : Names) (names : List Name) (k : ℕ) (seen new : List SeenName) (name : Name) (found : Option Seen) → new ≡ with_one seen name found → ListsNames at p names → AreSeen at p (take k names) seen → k < length names → name ≡ get_or names k name → IsNamed at (p ++ name ∷ []) found → AreSeen at p (take (k + 1) names) new
named_pushed at p names k seen new name found e lists are within is it = subst (λ (xs : List SeenName). AreSeen at p (take (k + 1) names) xs) (sym e) (named_more at p names k seen name found lists are within is it)
