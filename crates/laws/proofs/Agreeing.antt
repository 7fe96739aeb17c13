-- On trees that agree where it matters a call answers the same and does the same.
use Rattle.std.proofs.Common.{ℕ, ℤ, ◌≡◌, ◌⊎◌, ◌||◌, Bool, true, false, cond, List, [], ◌∷◌, ◌++◌, Option, Some, None, IsSome, length, take, drop, refl, sym, ap, ◌∙◌, subst, inl, inr}
use Rattle.std.specs.Option.{option_map}
use Rattle.std.proofs.lemmas.Bool.{cond-false, false≢true, cases_Bool, or_parts}
use Rattle.std.proofs.lemmas.List.{take-append-drop}
use Rattle.paths.specs.Prefixes.{Names, is_prefix}
use Rattle.paths.proofs.PrefixLemmas.{is_prefix-append}
use Rattle.backing.specs.declared.call.Answer.{Answer}
use Rattle.backing.specs.declared.entries.Item.{Item}
use Rattle.backing.specs.declared.entries.Item.TheVariants.{Folder, File, Link}
use Rattle.backing.specs.Files.{resized, written}
use Rattle.backing.specs.Device.{Device, Sound, Before, Within, After, DoesPart, Performs}
use Rattle.backing.specs.Tree.{Tree, IsFile, IsFolder, IsLink, IsNeither, IsNoLink, IsOther, Blocks, is_path, kind_of, with_item, without, moved, exchanged}
use Rattle.backing.proofs.PathLemmas.{is_path-same}
use Rattle.backing.specs.Calls.{Asked, AskStat, AskList, AskMake, AskMakeDir, AskMakeLink, AskRemove, AskRemoveDir, AskRename, AskRenameNew, AskExchange, AskLink, AskRead, AskReadLink, AskWrite, AskSetLen, AskSync, AskSetPermissions, AskSetOwner, AskSetTimes, Test, BelowRoot, Reached, Present, Free, FileAt, LinkAt, FolderAt, NoFolder, Bare, Differs, NotInto, NotOver, NoOtherOnFolder, NoFolderOnOther, Fits, OneName, Passes, Fails, PassesAll, Refuses, Does, Works, tests_of}
use Rattle.laws.specs.Exchanging.{alters, needs, needs_any, works_on, minds}

pub or-left : (x y : Bool) → x ≡ true → (x || y) ≡ true
or-left true y h = refl
or-left false y h = absurd (false≢true h)

pub or-right : (x y : Bool) → y ≡ true → (x || y) ≡ true
or-right true y h = refl
or-right false y h = h

pub or-cases : (x y : Bool) → (x || y) ≡ true → (x ≡ true) ⊎ (y ≡ true)
or-cases true y h = inl refl
or-cases false y h = inr h

-- what stands at the paths of these is the same in both
abbrev pub AgreeAt : (Names → Bool) → Tree → Tree → Type 0
AgreeAt matters t u = (q : Names) → matters q ≡ true → t q ≡ u q

prefix-take : (k : ℕ) (p : Names) → is_prefix (take k p) p ≡ true
prefix-take k p = subst (λ (r : Names). is_prefix (take k p) r ≡ true) (take-append-drop k p) (is_prefix-append (take k p) (drop k p))

passes : (t u : Tree) (test : Test) → AgreeAt (needs test) t u → Passes t test → Passes u test
passes t u (BelowRoot p) same h = h
passes t u (Reached p) same h = record { down = λ k less. subst IsFolder (same (take k p) (prefix-take k p)) (h.down k less) }
passes t u (Present p) same h = subst IsSome (same p (is_path-same p)) h
passes t u (Free p) same h = sym (same p (is_path-same p)) ∙ h
passes t u (FileAt p) same h = subst IsFile (same p (is_path-same p)) h
passes t u (LinkAt p) same h = subst IsLink (same p (is_path-same p)) h
passes t u (FolderAt p) same h = subst IsFolder (same p (is_path-same p)) h
passes t u (NoFolder p) same h = subst IsOther (same p (is_path-same p)) h
passes t u (Bare p) same h = record { none = λ name. sym (same (p ++ name ∷ []) (is_prefix-append p (name ∷ []))) ∙ h.none name }
passes t u (Differs s r) same h = h
passes t u (NotInto s r) same h = h
passes t u (NotOver s r) same h = h
passes t u (NoOtherOnFolder s r) same h = λ other folder.
    h (subst IsOther (sym (same s (or-left (is_path s s) (is_path r s) (is_path-same s)))) other) (subst IsFolder (sym (same r (or-right (is_path s r) (is_path r r) (is_path-same r)))) folder)
passes t u (NoFolderOnOther s r) same h = λ folder other.
    h (subst IsFolder (sym (same s (or-left (is_path s s) (is_path r s) (is_path-same s)))) folder) (subst IsOther (sym (same r (or-right (is_path s r) (is_path r r) (is_path-same r)))) other)
passes t u (Fits limit end) same h = h
passes t u OneName same h = h

fails : (t u : Tree) (test : Test) (errno : ℤ) → AgreeAt (needs test) t u → Fails t test errno → Fails u test errno
fails t u (BelowRoot p) errno same h = h
fails t u (Reached p) errno same h = record {
  depth = h.depth;
  above_path = h.above_path;
  down = λ k less. subst IsFolder (same (take k p) (prefix-take k p)) (h.down k less);
  why = subst (λ (o : Option Item). Blocks o errno) (same (take h.depth p) (prefix-take h.depth p)) h.why;
}
fails t u (Present p) errno same h = (sym (same p (is_path-same p)) ∙ h.0, h.1)
fails t u (Free p) errno same h = (subst IsSome (same p (is_path-same p)) h.0, h.1)
fails t u (FileAt p) errno same (inl folder) = inl (subst IsFolder (same p (is_path-same p)) folder.0, folder.1)
fails t u (FileAt p) errno same (inr neither) = inr (subst IsNeither (same p (is_path-same p)) neither.0, neither.1)
fails t u (LinkAt p) errno same h = (subst IsNoLink (same p (is_path-same p)) h.0, h.1)
fails t u (FolderAt p) errno same h = (subst IsOther (same p (is_path-same p)) h.0, h.1)
fails t u (NoFolder p) errno same h = (subst IsFolder (same p (is_path-same p)) h.0, h.1)
fails t u (Bare p) errno same h = (record { name = h.0.name; stands = subst IsSome (same (p ++ h.0.name ∷ []) (is_prefix-append p (h.0.name ∷ []))) h.0.stands }, h.1)
fails t u (Differs s r) errno same h = h
fails t u (NotInto s r) errno same h = h
fails t u (NotOver s r) errno same h = h
fails t u (NoOtherOnFolder s r) errno same h =
    (subst IsOther (same s (or-left (is_path s s) (is_path r s) (is_path-same s))) h.0, subst IsFolder (same r (or-right (is_path s r) (is_path r r) (is_path-same r))) h.1, h.2)
fails t u (NoFolderOnOther s r) errno same h =
    (subst IsFolder (same s (or-left (is_path s s) (is_path r s) (is_path-same s))) h.0, subst IsOther (same r (or-right (is_path s r) (is_path r r) (is_path-same r))) h.1, h.2)
fails t u (Fits limit end) errno same h = h
fails t u OneName errno same h = h

of_first : (t u : Tree) (test : Test) (tests : List Test) → AgreeAt (needs_any (test ∷ tests)) t u → AgreeAt (needs test) t u
of_first t u test tests same = λ q h. same q (or-left (needs test q) (needs_any tests q) h)

of_rest : (t u : Tree) (test : Test) (tests : List Test) → AgreeAt (needs_any (test ∷ tests)) t u → AgreeAt (needs_any tests) t u
of_rest t u test tests same = λ q h. same q (or-right (needs test q) (needs_any tests q) h)

passes_all : (t u : Tree) (tests : List Test) → AgreeAt (needs_any tests) t u → PassesAll t tests → PassesAll u tests
passes_all t u [] same h = tt
passes_all t u (test ∷ tests) same h = (passes t u test (of_first t u test tests same) h.0, passes_all t u tests (of_rest t u test tests same) h.1)

refuses : (t u : Tree) (tests : List Test) (errno : ℤ) → AgreeAt (needs_any tests) t u → Refuses t tests errno → Refuses u tests errno
refuses t u [] errno same h = h
refuses t u (test ∷ tests) errno same (inl first) = inl (fails t u test errno (of_first t u test tests same) first)
refuses t u (test ∷ tests) errno same (inr rest) = inr (passes t u test (of_first t u test tests same) rest.0, refuses t u tests errno (of_rest t u test tests same) rest.1)

-- ---- the work of a call

pick : {A : Type 0} (b : Bool) {x x' y y' : A} → x ≡ x' → y ≡ y' → cond b x y ≡ cond b x' y'
pick true e f = e
pick false e f = f

pick_at : (b : Bool) (f g f' g' : Tree) (q : Names) → f q ≡ f' q → g q ≡ g' q → cond b f g q ≡ cond b f' g' q
pick_at true f g f' g' q e h = e
pick_at false f g f' g' q e h = h

moved_far : (t : Tree) (s r q : Names) → (is_prefix s q || is_prefix r q) ≡ false → moved t s r q ≡ t q
moved_far t s r q far =
    let parts = or_parts (is_prefix s q) (is_prefix r q) far in
    cond-false (is_prefix r q) (t (s ++ drop (length r) q)) (cond (is_prefix s q) None (t q)) parts.1 ∙ cond-false (is_prefix s q) None (t q) parts.0

exchanged_far : (t : Tree) (s r q : Names) → (is_prefix s q || is_prefix r q) ≡ false → exchanged t s r q ≡ t q
exchanged_far t s r q far =
    let parts = or_parts (is_prefix s q) (is_prefix r q) far in
    cond-false (is_prefix s q) (t (r ++ drop (length s) q)) (cond (is_prefix r q) (t (s ++ drop (length r) q)) (t q)) parts.0 ∙ cond-false (is_prefix r q) (t (s ++ drop (length r) q)) (t q) parts.1

-- outside of what a call may change nothing does
outside : (t u : Tree) (call : Asked) (answer : Answer) (q : Names) → alters call q ≡ false → Does t call answer u → u q ≡ t q
outside t u (AskStat p) answer q far d = ap (λ (f : Tree). f q) d.1
outside t u (AskList p) answer q far d = ap (λ (f : Tree). f q) d.1
outside t u (AskMake p permissions) answer q far d = ap (λ (f : Tree). f q) d.1 ∙ cond-false (is_path p q) (Some (File [])) (t q) far
outside t u (AskMakeDir p permissions) answer q far d = ap (λ (f : Tree). f q) d.1 ∙ cond-false (is_path p q) (Some Folder) (t q) far
outside t u (AskMakeLink p text) answer q far d = ap (λ (f : Tree). f q) d.1 ∙ cond-false (is_path p q) (Some (Link text)) (t q) far
outside t u (AskRemove p) answer q far d = ap (λ (f : Tree). f q) d.1 ∙ cond-false (is_path p q) None (t q) far
outside t u (AskRemoveDir p) answer q far d = ap (λ (f : Tree). f q) d.1 ∙ cond-false (is_path p q) None (t q) far
outside t u (AskRename s r) answer q far d = ap (λ (f : Tree). f q) d.1 ∙ (pick_at (is_path s r) t (moved t s r) t t q refl (moved_far t s r q far) ∙ pick_at (is_path s r) t t t t q refl refl ∙ same_at (is_path s r) t q)
  where
    same_at : (b : Bool) (f : Tree) (q : Names) → cond b f f q ≡ f q
    same_at true f q = refl
    same_at false f q = refl
outside t u (AskRenameNew s r) answer q far d = ap (λ (f : Tree). f q) d.1 ∙ moved_far t s r q far
outside t u (AskExchange s r) answer q far d = ap (λ (f : Tree). f q) d.1 ∙ (pick_at (is_path s r) t (exchanged t s r) t t q refl (exchanged_far t s r q far) ∙ same_in (is_path s r) t q)
  where
    same_in : (b : Bool) (f : Tree) (q : Names) → cond b f f q ≡ f q
    same_in true f q = refl
    same_in false f q = refl
outside t u (AskLink s r) answer q far d = absurd d
outside t u (AskRead p offset size) answer q far d = ap (λ (f : Tree). f q) d.1
outside t u (AskReadLink p) answer q far d = ap (λ (f : Tree). f q) d.1
outside t u (AskWrite p offset []) answer q far d = ap (λ (f : Tree). f q) d.1
outside t u (AskWrite p offset (byte ∷ piece)) answer q far d = ap (λ (f : Tree). f q) d.1.2 ∙ cond-false (is_path p q) (Some (File (written d.1.0 offset (byte ∷ piece)))) (t q) far
outside t u (AskSetLen p size) answer q far d = ap (λ (f : Tree). f q) d.1.2 ∙ cond-false (is_path p q) (Some (File (resized size d.1.0))) (t q) far
outside t u (AskSync p) answer q far d = ap (λ (f : Tree). f q) d.1
outside t u (AskSetPermissions p permissions) answer q far d = ap (λ (f : Tree). f q) d.1
outside t u (AskSetOwner p uid gid) answer q far d = ap (λ (f : Tree). f q) d.1
outside t u (AskSetTimes p accessed modified) answer q far d = ap (λ (f : Tree). f q) d.1

-- what a call may change matters to its work
alters_works : (call : Asked) (q : Names) → alters call q ≡ true → works_on call q ≡ true
alters_works (AskStat p) q h = absurd (false≢true h)
alters_works (AskList p) q h = absurd (false≢true h)
alters_works (AskMake p permissions) q h = h
alters_works (AskMakeDir p permissions) q h = h
alters_works (AskMakeLink p text) q h = h
alters_works (AskRemove p) q h = h
alters_works (AskRemoveDir p) q h = h
alters_works (AskRename s r) q h = h
alters_works (AskRenameNew s r) q h = h
alters_works (AskExchange s r) q h = h
alters_works (AskLink s r) q h = absurd (false≢true h)
alters_works (AskRead p offset size) q h = absurd (false≢true h)
alters_works (AskReadLink p) q h = absurd (false≢true h)
alters_works (AskWrite p offset piece) q h = h
alters_works (AskSetLen p size) q h = h
alters_works (AskSync p) q h = absurd (false≢true h)
alters_works (AskSetPermissions p permissions) q h = absurd (false≢true h)
alters_works (AskSetOwner p uid gid) q h = absurd (false≢true h)
alters_works (AskSetTimes p accessed modified) q h = absurd (false≢true h)

pub alters_minds : (call : Asked) (q : Names) → alters call q ≡ true → minds call q ≡ true
alters_minds call q h = or-right (needs_any (tests_of None call) q) (works_on call q) (alters_works call q h)

moved_near : (t u : Tree) (s r q : Names) → AgreeAt (λ q. is_prefix s q || is_prefix r q) t u → (is_prefix s q || is_prefix r q) ≡ true → moved t s r q ≡ moved u s r q
moved_near t u s r q same near =
    let from = s ++ drop (length r) q in
    pick (is_prefix r q) (same from (or-left (is_prefix s from) (is_prefix r from) (is_prefix-append s (drop (length r) q)))) (pick (is_prefix s q) refl (same q near))

exchanged_near : (t u : Tree) (s r q : Names) → AgreeAt (λ q. is_prefix s q || is_prefix r q) t u → (is_prefix s q || is_prefix r q) ≡ true → exchanged t s r q ≡ exchanged u s r q
exchanged_near t u s r q same near =
    let from_s = s ++ drop (length r) q in
    let from_r = r ++ drop (length s) q in
    pick (is_prefix s q) (same from_r (or-right (is_prefix s from_r) (is_prefix r from_r) (is_prefix-append r (drop (length s) q)))) (pick (is_prefix r q) (same from_s (or-left (is_prefix s from_s) (is_prefix r from_s) (is_prefix-append s (drop (length r) q)))) (same q near))

-- the same work on another tree, and what it leaves where it may change something
abbrev pub Alike : Tree → Asked → Answer → Tree → Type 0
Alike u call answer t' = (u' : Tree) × Does u call answer u' × AgreeAt (alters call) t' u'

put : (t u t' : Tree) (p : Names) (x : Option Item) → AgreeAt (is_path p) t u → t' ≡ (λ q. cond (is_path p q) x (t q)) → AgreeAt (is_path p) t' (λ q. cond (is_path p q) x (u q))
put t u t' p x same e q near = ap (λ (f : Tree). f q) e ∙ pick (is_path p q) refl (same q near)

unchanged : (t u t' : Tree) (p : Names) → AgreeAt (is_path p) t u → t' ≡ t → AgreeAt (is_path p) t' u
unchanged t u t' p same e q near = ap (λ (f : Tree). f q) e ∙ same q near

nowhere : (t' u : Tree) → AgreeAt (λ q. false) t' u
nowhere t' u q near = absurd (false≢true near)

does : (t u t' : Tree) (call : Asked) (answer : Answer) → AgreeAt (works_on call) t u → Does t call answer t' → Alike u call answer t'
does t u t' (AskStat p) answer same d = (u, ((d.0.0, sym (same p (is_path-same p)) ∙ d.0.1, d.0.2), refl), nowhere t' u)
does t u t' (AskList p) answer same d =
    (u, ((d.0.0, record { stands = λ name. d.0.1.stands name ∙ ap (λ (o : Option Item). option_map kind_of o) (same (p ++ name ∷ []) (is_prefix-append p (name ∷ []))); once = d.0.1.once }, d.0.2), refl), nowhere t' u)
does t u t' (AskMake p permissions) answer same d = (with_item u p (File []), (d.0, refl), put t u t' p (Some (File [])) same d.1)
does t u t' (AskMakeDir p permissions) answer same d = (with_item u p Folder, (d.0, refl), put t u t' p (Some Folder) same d.1)
does t u t' (AskMakeLink p text) answer same d = (with_item u p (Link text), (d.0, refl), put t u t' p (Some (Link text)) same d.1)
does t u t' (AskRemove p) answer same d = (without u p, (d.0, refl), put t u t' p None same d.1)
does t u t' (AskRemoveDir p) answer same d = (without u p, (d.0, refl), put t u t' p None same d.1)
does t u t' (AskRename s r) answer same d =
    (cond (is_path s r) u (moved u s r), (d.0, refl), λ q near. ap (λ (f : Tree). f q) d.1 ∙ pick_at (is_path s r) t (moved t s r) u (moved u s r) q (same q near) (moved_near t u s r q same near))
does t u t' (AskRenameNew s r) answer same d = (moved u s r, (d.0, refl), λ q near. ap (λ (f : Tree). f q) d.1 ∙ moved_near t u s r q same near)
does t u t' (AskExchange s r) answer same d =
    (cond (is_path s r) u (exchanged u s r), (d.0, refl), λ q near. ap (λ (f : Tree). f q) d.1 ∙ pick_at (is_path s r) t (exchanged t s r) u (exchanged u s r) q (same q near) (exchanged_near t u s r q same near))
does t u t' (AskLink s r) answer same d = absurd d
does t u t' (AskRead p offset size) answer same d = (u, ((d.0.0, sym (same p (is_path-same p)) ∙ d.0.1, d.0.2), refl), nowhere t' u)
does t u t' (AskReadLink p) answer same d = (u, ((d.0.0, sym (same p (is_path-same p)) ∙ d.0.1, d.0.2), refl), nowhere t' u)
does t u t' (AskWrite p offset []) answer same d = (u, (d.0, refl), unchanged t u t' p same d.1)
does t u t' (AskWrite p offset (byte ∷ piece)) answer same d =
    let item = File (written d.1.0 offset (byte ∷ piece)) in
    (with_item u p item, (d.0, (d.1.0, sym (same p (is_path-same p)) ∙ d.1.1, refl)), put t u t' p (Some item) same d.1.2)
does t u t' (AskSetLen p size) answer same d =
    let item = File (resized size d.1.0) in
    (with_item u p item, (d.0, (d.1.0, sym (same p (is_path-same p)) ∙ d.1.1, refl)), put t u t' p (Some item) same d.1.2)
does t u t' (AskSync p) answer same d = (u, (d.0, refl), nowhere t' u)
does t u t' (AskSetPermissions p permissions) answer same d = (u, (d.0, refl), nowhere t' u)
does t u t' (AskSetOwner p uid gid) answer same d = (u, (d.0, refl), nowhere t' u)
does t u t' (AskSetTimes p accessed modified) answer same d = (u, (d.0, refl), nowhere t' u)

-- ---- a call

-- how long a file may be makes no tests matter more
same_needs : (limit : Option ℕ) (call : Asked) (q : Names) → needs_any (tests_of limit call) q ≡ true → needs_any (tests_of None call) q ≡ true
same_needs limit (AskStat p) q h = h
same_needs limit (AskList p) q h = h
same_needs limit (AskMake p permissions) q h = h
same_needs limit (AskMakeDir p permissions) q h = h
same_needs limit (AskMakeLink p text) q h = h
same_needs limit (AskRemove p) q h = h
same_needs limit (AskRemoveDir p) q h = h
same_needs limit (AskRename s r) q h = h
same_needs limit (AskRenameNew s r) q h = h
same_needs limit (AskExchange s r) q h = h
same_needs limit (AskLink s r) q h = h
same_needs limit (AskRead p offset size) q h = h
same_needs limit (AskReadLink p) q h = h
same_needs limit (AskWrite p offset piece) q h = h
same_needs limit (AskSetLen p size) q h = h
same_needs limit (AskSync p) q h = h
same_needs limit (AskSetPermissions p permissions) q h = h
same_needs limit (AskSetOwner p uid gid) q h = h
same_needs limit (AskSetTimes p accessed modified) q h = h

works_outside : (limit : Option ℕ) (t u : Tree) (call : Asked) (answer : Answer) (q : Names) → alters call q ≡ false → Works limit t call answer u → u q ≡ t q
works_outside limit t u call answer q far (inl done) = outside t u call answer q far done.1
works_outside limit t u call answer q far (inr refused) = ap (λ (f : Tree). f q) refused.3

tested : (limit : Option ℕ) (t u : Tree) (call : Asked) → AgreeAt (minds call) t u → AgreeAt (needs_any (tests_of limit call)) t u
tested limit t u call same = λ q h. same q (or-left (needs_any (tests_of None call) q) (works_on call q) (same_needs limit call q h))

-- outside of what a call may change, the same stands in both trees after it
beside : (t u t' u' : Tree) (call : Asked) → AgreeAt (minds call) t u → AgreeAt (alters call) t' u' → ((q : Names) → alters call q ≡ false → t' q ≡ t q) → ((q : Names) → alters call q ≡ false → u' q ≡ u q) → AgreeAt (minds call) t' u'
beside t u t' u' call same near far_t far_u = λ q h. elim (cases_Bool (alters call q)) [
  | inl at ↦ near q at
  | inr far ↦ far_t q far ∙ (same q h ∙ sym (far_u q far))
]

works : (limit : Option ℕ) (t u t' : Tree) (call : Asked) (answer : Answer) → AgreeAt (minds call) t u → Works limit t call answer t' → (u' : Tree) × Works limit u call answer u' × AgreeAt (minds call) t' u'
works limit t u t' call answer same (inl done) =
    let it = does t u t' call answer (λ q h. same q (or-right (needs_any (tests_of None call) q) (works_on call q) h)) done.1 in (
      it.0,
      inl (passes_all t u (tests_of limit call) (tested limit t u call same) done.0, it.1),
      beside t u t' it.0 call same it.2 (λ q far. outside t t' call answer q far done.1) (λ q far. outside u it.0 call answer q far it.1),
    )
works limit t u t' call answer same (inr refused) =
    (u, inr (refused.0, refuses t u (tests_of limit call) refused.0 (tested limit t u call same) refused.1, refused.2, refl), λ q h. ap (λ (f : Tree). f q) refused.3 ∙ same q h)

-- ---- a write of which a part is done

part_outside : (t u : Tree) (call : Asked) (q : Names) → alters call q ≡ false → DoesPart t call u → u q ≡ t q
part_outside t u (AskStat p) q far d = absurd d
part_outside t u (AskList p) q far d = absurd d
part_outside t u (AskMake p permissions) q far d = absurd d
part_outside t u (AskMakeDir p permissions) q far d = absurd d
part_outside t u (AskMakeLink p text) q far d = absurd d
part_outside t u (AskRemove p) q far d = absurd d
part_outside t u (AskRemoveDir p) q far d = absurd d
part_outside t u (AskRename s r) q far d = absurd d
part_outside t u (AskRenameNew s r) q far d = absurd d
part_outside t u (AskExchange s r) q far d = absurd d
part_outside t u (AskLink s r) q far d = absurd d
part_outside t u (AskRead p offset size) q far d = absurd d
part_outside t u (AskReadLink p) q far d = absurd d
part_outside t u (AskSetLen p size) q far d = absurd d
part_outside t u (AskSync p) q far d = absurd d
part_outside t u (AskSetPermissions p permissions) q far d = absurd d
part_outside t u (AskSetOwner p uid gid) q far d = absurd d
part_outside t u (AskSetTimes p accessed modified) q far d = absurd d
part_outside t u (AskWrite p offset piece) q far (n, some, less, (bytes, stands, is)) = ap (λ (f : Tree). f q) is ∙ cond-false (is_path p q) (Some (File (written bytes offset (take n piece)))) (t q) far

part : (t u t' : Tree) (call : Asked) → AgreeAt (works_on call) t u → DoesPart t call t' → (u' : Tree) × DoesPart u call u' × AgreeAt (alters call) t' u'
part t u t' (AskStat p) same d = absurd d
part t u t' (AskList p) same d = absurd d
part t u t' (AskMake p permissions) same d = absurd d
part t u t' (AskMakeDir p permissions) same d = absurd d
part t u t' (AskMakeLink p text) same d = absurd d
part t u t' (AskRemove p) same d = absurd d
part t u t' (AskRemoveDir p) same d = absurd d
part t u t' (AskRename s r) same d = absurd d
part t u t' (AskRenameNew s r) same d = absurd d
part t u t' (AskExchange s r) same d = absurd d
part t u t' (AskLink s r) same d = absurd d
part t u t' (AskRead p offset size) same d = absurd d
part t u t' (AskReadLink p) same d = absurd d
part t u t' (AskSetLen p size) same d = absurd d
part t u t' (AskSync p) same d = absurd d
part t u t' (AskSetPermissions p permissions) same d = absurd d
part t u t' (AskSetOwner p uid gid) same d = absurd d
part t u t' (AskSetTimes p accessed modified) same d = absurd d
part t u t' (AskWrite p offset piece) same (n, some, less, (bytes, stands, is)) =
    let item = File (written bytes offset (take n piece)) in
    (with_item u p item, (n, some, less, (bytes, sym (same p (is_path-same p)) ∙ stands, refl)), put t u t' p (Some item) same is)

-- ---- a call of a device that may fail

pub performs_outside : (limit : Option ℕ) (t u : Tree) (device : Device) (call : Asked) (answer : Answer) (q : Names) → alters call q ≡ false → Performs limit t device call answer u → u q ≡ t q
performs_outside limit t u Sound call answer q far done = works_outside limit t u call answer q far done
performs_outside limit t u (Before errno) call answer q far done = ap (λ (f : Tree). f q) done.1
performs_outside limit t u (Within errno) call answer q far done = part_outside t u call q far done.2
performs_outside limit t u (After errno) call answer q far done = works_outside limit t u call done.1.0 q far done.1.1

pub performs : (limit : Option ℕ) (t u t' : Tree) (device : Device) (call : Asked) (answer : Answer) → AgreeAt (minds call) t u → Performs limit t device call answer t' → (u' : Tree) × Performs limit u device call answer u' × AgreeAt (minds call) t' u'
performs limit t u t' Sound call answer same done = works limit t u t' call answer same done
performs limit t u t' (Before errno) call answer same done = (u, (done.0, refl), λ q h. ap (λ (f : Tree). f q) done.1 ∙ same q h)
performs limit t u t' (Within errno) call answer same done =
    let it = part t u t' call (λ q h. same q (or-right (needs_any (tests_of None call) q) (works_on call q) h)) done.2 in (
      it.0,
      (done.0, passes_all t u (tests_of limit call) (tested limit t u call same) done.1, it.1),
      beside t u t' it.0 call same it.2 (λ q far. part_outside t t' call q far done.2) (λ q far. part_outside u it.0 call q far it.1),
    )
performs limit t u t' (After errno) call answer same done =
    let it = works limit t u t' call done.1.0 same done.1.1 in
    (it.0, (done.0, (done.1.0, it.1)), it.2)
