-- Calls of two requests whose holds do not clash.
use Rattle.std.proofs.Common.{◌≡◌, ◌⊎◌, ◌||◌, ◌&&◌, Bool, true, false, List, [], ◌∷◌, None, refl, sym, ◌∙◌, subst, inl, inr}
use Rattle.std.proofs.lemmas.Bool.{false≢true, and_parts}
use Rattle.paths.specs.Prefixes.{Names, is_name, is_prefix}
use Rattle.paths.proofs.PrefixLemmas.{is_name-true, is_name-yes, is_prefix-same, is_prefix-trans}
use Rattle.holds.specs.declared.held.Held.{Held}
use Rattle.holds.specs.Conflicts.{Conflict}
use Rattle.backing.specs.Tree.{is_path}
use Rattle.backing.proofs.PathLemmas.{is_path-true}
use Rattle.backing.specs.Calls.{Asked, AskStat, AskList, AskMake, AskMakeDir, AskMakeLink, AskRemove, AskRemoveDir, AskRename, AskRenameNew, AskExchange, AskLink, AskRead, AskReadLink, AskWrite, AskSetLen, AskSync, AskSetPermissions, AskSetOwner, AskSetTimes, Test, BelowRoot, Reached, Present, Free, FileAt, LinkAt, FolderAt, NoFolder, Bare, Differs, NotInto, NotOver, NoOtherOnFolder, NoFolderOnOther, Fits, OneName, tests_of, unless}
use Rattle.laws.specs.Exchanging.{alters, needs, needs_any, works_on, minds, AreFree}
use Rattle.laws.specs.Owning.{Each, Some, Keeps, Owns, IsAtPath, IsLook, StandsApart, paths_of}
use Rattle.laws.proofs.Agreeing.{or-cases}

both_true : (a b : Bool) → a ≡ true → b ≡ true → (a && b) ≡ true
both_true true b h k = k
both_true false b h k = absurd (false≢true h)

-- of two prefixes of one path one begins the other
comparable : (x p q : Names) → is_prefix x q ≡ true → is_prefix p q ≡ true → (is_prefix x p ≡ true) ⊎ (is_prefix p x ≡ true)
comparable [] p q a b = inl refl
comparable (x ∷ xs) [] q a b = inr refl
comparable (x ∷ xs) (p ∷ ps) [] a b = absurd (false≢true a)
comparable (x ∷ xs) (p ∷ ps) (q ∷ qs) a b =
    let one = and_parts (is_name x q) (is_prefix xs qs) a in
    let two = and_parts (is_name p q) (is_prefix ps qs) b in
    let same : x ≡ p = is_name-true x q one.0 ∙ sym (is_name-true p q two.0) in
    elim (comparable xs ps qs one.1 two.1) [
      | inl h ↦ inl (both_true (is_name x p) (is_prefix xs ps) (is_name-yes x p same) h)
      | inr h ↦ inr (both_true (is_name p x) (is_prefix ps xs) (is_name-yes p x (sym same)) h)
    ]

path_begins : (p q : Names) → is_path p q ≡ true → is_prefix p q ≡ true
path_begins p q h = subst (λ (r : Names). is_prefix p r ≡ true) (is_path-true p q h) (is_prefix-same p)

path_ends : (p q : Names) → is_path p q ≡ true → is_prefix q p ≡ true
path_ends p q h = subst (λ (r : Names). is_prefix r p ≡ true) (is_path-true p q h) (is_prefix-same p)

-- ---- where a call may change something, one of its paths leads

abbrev Leads : Names → List Names → Type 0
Leads q = Some (λ (x : Names). is_prefix x q ≡ true)

two_lead : (s t q : Names) → (is_prefix s q || is_prefix t q) ≡ true → Leads q (s ∷ t ∷ [])
two_lead s t q h = elim (or-cases (is_prefix s q) (is_prefix t q) h) [
  | inl a ↦ inl a
  | inr b ↦ inr (inl b)
]

alters_below : (call : Asked) (q : Names) → alters call q ≡ true → Leads q (paths_of call)
alters_below (AskStat p) q h = absurd (false≢true h)
alters_below (AskList p) q h = absurd (false≢true h)
alters_below (AskMake p permissions) q h = inl (path_begins p q h)
alters_below (AskMakeDir p permissions) q h = inl (path_begins p q h)
alters_below (AskMakeLink p text) q h = inl (path_begins p q h)
alters_below (AskRemove p) q h = inl (path_begins p q h)
alters_below (AskRemoveDir p) q h = inl (path_begins p q h)
alters_below (AskRename s t) q h = two_lead s t q h
alters_below (AskRenameNew s t) q h = two_lead s t q h
alters_below (AskExchange s t) q h = two_lead s t q h
alters_below (AskLink s t) q h = absurd (false≢true h)
alters_below (AskRead p offset size) q h = absurd (false≢true h)
alters_below (AskReadLink p) q h = absurd (false≢true h)
alters_below (AskWrite p offset piece) q h = inl (path_begins p q h)
alters_below (AskSetLen p size) q h = inl (path_begins p q h)
alters_below (AskSync p) q h = absurd (false≢true h)
alters_below (AskSetPermissions p permissions) q h = absurd (false≢true h)
alters_below (AskSetOwner p uid gid) q h = absurd (false≢true h)
alters_below (AskSetTimes p accessed modified) q h = absurd (false≢true h)

-- ---- what matters to a call stands above one of its paths or below it

abbrev Near : Names → Names → Type 0
Near q p = (is_prefix q p ≡ true) ⊎ (is_prefix p q ≡ true)

abbrev In : List Names → Names → Type 0
In ps p = Some (λ (x : Names). x ≡ p) ps

near_in : (ps : List Names) (p q : Names) → In ps p → Near q p → Some (Near q) ps
near_in [] p q i near = i
near_in (x ∷ ps) p q (inl e) near = inl (subst (Near q) (sym e) near)
near_in (x ∷ ps) p q (inr i) near = inr (near_in ps p q i near)

-- the test is of these paths
abbrev IsAbout : List Names → Test → Type 0
IsAbout ps (BelowRoot p) = Unit {0}
IsAbout ps (Reached p) = In ps p
IsAbout ps (Present p) = In ps p
IsAbout ps (Free p) = In ps p
IsAbout ps (FileAt p) = In ps p
IsAbout ps (LinkAt p) = In ps p
IsAbout ps (FolderAt p) = In ps p
IsAbout ps (NoFolder p) = In ps p
IsAbout ps (Bare p) = In ps p
IsAbout ps (Differs s t) = Unit {0}
IsAbout ps (NotInto s t) = Unit {0}
IsAbout ps (NotOver s t) = Unit {0}
IsAbout ps (NoOtherOnFolder s t) = In ps s × In ps t
IsAbout ps (NoFolderOnOther s t) = In ps s × In ps t
IsAbout ps (Fits limit end) = Unit {0}
IsAbout ps OneName = Unit {0}

near_two : (ps : List Names) (s t q : Names) → In ps s → In ps t → (is_path s q || is_path t q) ≡ true → Some (Near q) ps
near_two ps s t q i j h = elim (or-cases (is_path s q) (is_path t q) h) [
  | inl a ↦ near_in ps s q i (inl (path_ends s q a))
  | inr b ↦ near_in ps t q j (inl (path_ends t q b))
]

near_test : (ps : List Names) (test : Test) (q : Names) → IsAbout ps test → needs test q ≡ true → Some (Near q) ps
near_test ps (BelowRoot p) q about h = absurd (false≢true h)
near_test ps (Reached p) q about h = near_in ps p q about (inl h)
near_test ps (Present p) q about h = near_in ps p q about (inl (path_ends p q h))
near_test ps (Free p) q about h = near_in ps p q about (inl (path_ends p q h))
near_test ps (FileAt p) q about h = near_in ps p q about (inl (path_ends p q h))
near_test ps (LinkAt p) q about h = near_in ps p q about (inl (path_ends p q h))
near_test ps (FolderAt p) q about h = near_in ps p q about (inl (path_ends p q h))
near_test ps (NoFolder p) q about h = near_in ps p q about (inl (path_ends p q h))
near_test ps (Bare p) q about h = near_in ps p q about (inr h)
near_test ps (Differs s t) q about h = absurd (false≢true h)
near_test ps (NotInto s t) q about h = absurd (false≢true h)
near_test ps (NotOver s t) q about h = absurd (false≢true h)
near_test ps (NoOtherOnFolder s t) q about h = near_two ps s t q about.0 about.1 h
near_test ps (NoFolderOnOther s t) q about h = near_two ps s t q about.0 about.1 h
near_test ps (Fits limit end) q about h = absurd (false≢true h)
near_test ps OneName q about h = absurd (false≢true h)

near_tests : (ps : List Names) (tests : List Test) (q : Names) → Each (IsAbout ps) tests → needs_any tests q ≡ true → Some (Near q) ps
near_tests ps [] q about h = absurd (false≢true h)
near_tests ps (test ∷ tests) q about h = elim (or-cases (needs test q) (needs_any tests q) h) [
  | inl a ↦ near_test ps test q about.0 a
  | inr b ↦ near_tests ps tests q about.1 b
]

or_none : (ps : List Names) (b : Bool) (tests : List Test) → Each (IsAbout ps) tests → Each (IsAbout ps) (unless b tests)
or_none ps true tests about = tt
or_none ps false tests about = about

tests_about : (call : Asked) → Each (IsAbout (paths_of call)) (tests_of None call)
tests_about (AskStat p) = (inl refl, (inl refl, tt))
tests_about (AskList p) = (inl refl, (inl refl, (inl refl, tt)))
tests_about (AskMake p permissions) = (inl refl, (inl refl, tt))
tests_about (AskMakeDir p permissions) = (inl refl, (inl refl, tt))
tests_about (AskMakeLink p text) = (inl refl, (inl refl, tt))
tests_about (AskRemove p) = (inl refl, (inl refl, (inl refl, tt)))
tests_about (AskRemoveDir p) = (tt, (inl refl, (inl refl, (inl refl, (inl refl, tt)))))
tests_about (AskRename s t) =
    (tt, (tt, (inl refl, (inl refl, or_none (s ∷ t ∷ []) (is_path s t) (NotInto s t ∷ NotOver s t ∷ Reached t ∷ NoOtherOnFolder s t ∷ NoFolderOnOther s t ∷ Bare t ∷ []) (tt, (tt, (inr (inl refl), ((inl refl, inr (inl refl)), ((inl refl, inr (inl refl)), (inr (inl refl), tt))))))))))
tests_about (AskRenameNew s t) = (tt, (tt, (inl refl, (inl refl, (tt, (tt, (tt, (inr (inl refl), (inr (inl refl), tt)))))))))
tests_about (AskExchange s t) =
    (tt, (tt, (inl refl, (inl refl, or_none (s ∷ t ∷ []) (is_path s t) (NotInto s t ∷ NotInto t s ∷ Reached t ∷ Present t ∷ []) (tt, (tt, (inr (inl refl), (inr (inl refl), tt))))))))
tests_about (AskLink s t) = (tt, (tt, (inl refl, (inl refl, (inr (inl refl), (inr (inl refl), (tt, tt)))))))
tests_about (AskRead p offset size) = (inl refl, (inl refl, (inl refl, tt)))
tests_about (AskReadLink p) = (inl refl, (inl refl, (inl refl, tt)))
tests_about (AskWrite p offset piece) = (inl refl, (inl refl, (inl refl, (tt, tt))))
tests_about (AskSetLen p size) = (inl refl, (inl refl, (inl refl, (tt, tt))))
tests_about (AskSync p) = (inl refl, (inl refl, tt))
tests_about (AskSetPermissions p permissions) = (inl refl, (inl refl, tt))
tests_about (AskSetOwner p uid gid) = (inl refl, (inl refl, tt))
tests_about (AskSetTimes p accessed modified) = (inl refl, (inl refl, tt))

two_near : (s t q : Names) → (is_prefix s q || is_prefix t q) ≡ true → Some (Near q) (s ∷ t ∷ [])
two_near s t q h = elim (or-cases (is_prefix s q) (is_prefix t q) h) [
  | inl a ↦ inl (inr a)
  | inr b ↦ inr (inl (inr b))
]

work_near : (call : Asked) (q : Names) → works_on call q ≡ true → Some (Near q) (paths_of call)
work_near (AskStat p) q h = inl (inl (path_ends p q h))
work_near (AskList p) q h = inl (inr h)
work_near (AskMake p permissions) q h = inl (inl (path_ends p q h))
work_near (AskMakeDir p permissions) q h = inl (inl (path_ends p q h))
work_near (AskMakeLink p text) q h = inl (inl (path_ends p q h))
work_near (AskRemove p) q h = inl (inl (path_ends p q h))
work_near (AskRemoveDir p) q h = inl (inl (path_ends p q h))
work_near (AskRename s t) q h = two_near s t q h
work_near (AskRenameNew s t) q h = two_near s t q h
work_near (AskExchange s t) q h = two_near s t q h
work_near (AskLink s t) q h = absurd (false≢true h)
work_near (AskRead p offset size) q h = inl (inl (path_ends p q h))
work_near (AskReadLink p) q h = inl (inl (path_ends p q h))
work_near (AskWrite p offset piece) q h = inl (inl (path_ends p q h))
work_near (AskSetLen p size) q h = inl (inl (path_ends p q h))
work_near (AskSync p) q h = inl (inl (path_ends p q h))
work_near (AskSetPermissions p permissions) q h = inl (inl (path_ends p q h))
work_near (AskSetOwner p uid gid) q h = inl (inl (path_ends p q h))
work_near (AskSetTimes p accessed modified) q h = inl (inl (path_ends p q h))

minds_near : (call : Asked) (q : Names) → minds call q ≡ true → Some (Near q) (paths_of call)
minds_near call q h = elim (or-cases (needs_any (tests_of None call) q) (works_on call q) h) [
  | inl a ↦ near_tests (paths_of call) (tests_of None call) q (tests_about call) a
  | inr b ↦ work_near call q b
]

-- ---- what matters to a call at one path stands there or above it

abbrev IsOnWay : Names → Test → Type 0
IsOnWay p (BelowRoot r) = Unit {0}
IsOnWay p (Reached r) = r ≡ p
IsOnWay p (Present r) = r ≡ p
IsOnWay p (Free r) = r ≡ p
IsOnWay p (FileAt r) = r ≡ p
IsOnWay p (LinkAt r) = r ≡ p
IsOnWay p (NoFolder r) = r ≡ p
IsOnWay p (Fits limit end) = Unit {0}
IsOnWay p OneName = Unit {0}
IsOnWay p test = ⊥

way_test : (p : Names) (test : Test) (q : Names) → IsOnWay p test → needs test q ≡ true → is_prefix q p ≡ true
way_test p (Reached r) q way h = subst (λ (x : Names). is_prefix q x ≡ true) way h
way_test p (Present r) q way h = subst (λ (x : Names). is_prefix q x ≡ true) way (path_ends r q h)
way_test p (Free r) q way h = subst (λ (x : Names). is_prefix q x ≡ true) way (path_ends r q h)
way_test p (FileAt r) q way h = subst (λ (x : Names). is_prefix q x ≡ true) way (path_ends r q h)
way_test p (LinkAt r) q way h = subst (λ (x : Names). is_prefix q x ≡ true) way (path_ends r q h)
way_test p (NoFolder r) q way h = subst (λ (x : Names). is_prefix q x ≡ true) way (path_ends r q h)
way_test p (Fits limit end) q way h = absurd (false≢true h)
way_test p (BelowRoot r) q way h = absurd (false≢true h)
way_test p OneName q way h = absurd (false≢true h)
way_test p (FolderAt r) q way h = absurd way
way_test p (Bare r) q way h = absurd way
way_test p (Differs s t) q way h = absurd way
way_test p (NotInto s t) q way h = absurd way
way_test p (NotOver s t) q way h = absurd way
way_test p (NoOtherOnFolder s t) q way h = absurd way
way_test p (NoFolderOnOther s t) q way h = absurd way

above : (p : Names) (tests : List Test) (q : Names) → Each (IsOnWay p) tests → needs_any tests q ≡ true → is_prefix q p ≡ true
above p [] q ways h = absurd (false≢true h)
above p (test ∷ tests) q ways h = elim (or-cases (needs test q) (needs_any tests q) h) [
  | inl a ↦ way_test p test q ways.0 a
  | inr b ↦ above p tests q ways.1 b
]

above_all : (p : Names) (tests : List Test) (q : Names) → Each (IsOnWay p) tests → (needs_any tests q || is_path p q) ≡ true → is_prefix q p ≡ true
above_all p tests q ways h = elim (or-cases (needs_any tests q) (is_path p q) h) [
  | inl a ↦ above p tests q ways a
  | inr b ↦ path_ends p q b
]

abbrev Above : Names → List Names → Type 0
Above q = Some (λ (p : Names). is_prefix q p ≡ true)

above_two : (s t : Names) (tests : List Test) (q : Names) → Each (λ (test : Test). IsOnWay s test ⊎ IsOnWay t test) tests → needs_any tests q ≡ true → Above q (s ∷ t ∷ [])
above_two s t [] q ways h = absurd (false≢true h)
above_two s t (test ∷ tests) q ways h = elim (or-cases (needs test q) (needs_any tests q) h) [
  | inl a ↦ elim ways.0 [
    | inl way ↦ inl (way_test s test q way a)
    | inr way ↦ inr (inl (way_test t test q way a))
  ]
  | inr b ↦ above_two s t tests q ways.1 b
]

link_above : (s t q : Names) → minds (AskLink s t) q ≡ true → Above q (s ∷ t ∷ [])
link_above s t q h = elim (or-cases (needs_any (tests_of None (AskLink s t)) q) (works_on (AskLink s t) q) h) [
  | inl a ↦ above_two s t (tests_of None (AskLink s t)) q (inl tt, (inl tt, (inl refl, (inl refl, (inr refl, (inr refl, (inl tt, tt))))))) a
  | inr b ↦ absurd (false≢true b)
]

minds_above : (call : Asked) (q : Names) → IsAtPath call → minds call q ≡ true → Above q (paths_of call)
minds_above (AskStat p) q at h = inl (above_all p (tests_of None (AskStat p)) q (refl, (refl, tt)) h)
minds_above (AskList p) q at h = absurd at
minds_above (AskMake p permissions) q at h = inl (above_all p (tests_of None (AskMake p permissions)) q (refl, (refl, tt)) h)
minds_above (AskMakeDir p permissions) q at h = inl (above_all p (tests_of None (AskMakeDir p permissions)) q (refl, (refl, tt)) h)
minds_above (AskMakeLink p text) q at h = inl (above_all p (tests_of None (AskMakeLink p text)) q (refl, (refl, tt)) h)
minds_above (AskRemove p) q at h = inl (above_all p (tests_of None (AskRemove p)) q (refl, (refl, (refl, tt))) h)
minds_above (AskRemoveDir p) q at h = absurd at
minds_above (AskRename s t) q at h = absurd at
minds_above (AskRenameNew s t) q at h = absurd at
minds_above (AskExchange s t) q at h = absurd at
minds_above (AskLink s t) q at h = link_above s t q h
minds_above (AskRead p offset size) q at h = inl (above_all p (tests_of None (AskRead p offset size)) q (refl, (refl, (refl, tt))) h)
minds_above (AskReadLink p) q at h = inl (above_all p (tests_of None (AskReadLink p)) q (refl, (refl, (refl, tt))) h)
minds_above (AskWrite p offset piece) q at h = inl (above_all p (tests_of None (AskWrite p offset piece)) q (refl, (refl, (refl, (tt, tt)))) h)
minds_above (AskSetLen p size) q at h = inl (above_all p (tests_of None (AskSetLen p size)) q (refl, (refl, (refl, (tt, tt)))) h)
minds_above (AskSync p) q at h = inl (above_all p (tests_of None (AskSync p)) q (refl, (refl, tt)) h)
minds_above (AskSetPermissions p permissions) q at h = inl (above_all p (tests_of None (AskSetPermissions p permissions)) q (refl, (refl, tt)) h)
minds_above (AskSetOwner p uid gid) q at h = inl (above_all p (tests_of None (AskSetOwner p uid gid)) q (refl, (refl, tt)) h)
minds_above (AskSetTimes p accessed modified) q at h = inl (above_all p (tests_of None (AskSetTimes p accessed modified)) q (refl, (refl, tt)) h)

look_at : (call : Asked) → IsLook call → IsAtPath call
look_at (AskStat p) look = tt
look_at (AskList p) look = look
look_at (AskMake p permissions) look = tt
look_at (AskMakeDir p permissions) look = tt
look_at (AskMakeLink p text) look = tt
look_at (AskRemove p) look = tt
look_at (AskRemoveDir p) look = look
look_at (AskRename s t) look = look
look_at (AskRenameNew s t) look = look
look_at (AskExchange s t) look = look
look_at (AskLink s t) look = tt
look_at (AskRead p offset size) look = tt
look_at (AskReadLink p) look = tt
look_at (AskWrite p offset piece) look = tt
look_at (AskSetLen p size) look = tt
look_at (AskSync p) look = tt
look_at (AskSetPermissions p permissions) look = tt
look_at (AskSetOwner p uid gid) look = tt
look_at (AskSetTimes p accessed modified) look = tt

look_alters : (call : Asked) (q : Names) → IsLook call → alters call q ≡ false
look_alters (AskStat p) q look = refl
look_alters (AskList p) q look = refl
look_alters (AskMake p permissions) q look = absurd look
look_alters (AskMakeDir p permissions) q look = absurd look
look_alters (AskMakeLink p text) q look = absurd look
look_alters (AskRemove p) q look = absurd look
look_alters (AskRemoveDir p) q look = absurd look
look_alters (AskRename s t) q look = absurd look
look_alters (AskRenameNew s t) q look = absurd look
look_alters (AskExchange s t) q look = absurd look
look_alters (AskLink s t) q look = refl
look_alters (AskRead p offset size) q look = refl
look_alters (AskReadLink p) q look = refl
look_alters (AskWrite p offset piece) q look = absurd look
look_alters (AskSetLen p size) q look = absurd look
look_alters (AskSync p) q look = refl
look_alters (AskSetPermissions p permissions) q look = refl
look_alters (AskSetOwner p uid gid) q look = refl
look_alters (AskSetTimes p accessed modified) q look = refl

-- ---- holds

one_of : {P Q : Names → Type 0} (xs : List Names) → Each P xs → Some Q xs → (x : Names) × P x × Q x
one_of [] each some = absurd some
one_of (x ∷ xs) each (inl q) = (x, each.0, q)
one_of {P} {Q} (x ∷ xs) each (inr some) = one_of {P = P} {Q = Q} xs each.1 some

both_of : (P Q : Names → Type 0) (xs : List Names) → Each P xs → Each Q xs → Each (λ x. P x × Q x) xs
both_of P Q [] p q = tt
both_of P Q (x ∷ xs) p q = ((p.0, q.0), both_of P Q xs p.1 q.1)

clash : (h k : Held) (x p : Names) → Owns h x → Keeps k p → is_prefix x p ≡ true → Conflict h k
clash h k x p own keeps begins = elim (keeps x (record { some = own.not_root; begins = begins })) [
  | inl shared ↦ inl (inr (own.exclusive.0, x, own.exclusive.1, own.exclusive.2, shared))
  | inr alone ↦ inl (inl (own.exclusive.0, x, own.exclusive.1, own.exclusive.2, alone))
]

swap : (h k : Held) → Conflict k h → Conflict h k
swap h k (inl c) = inr c
swap h k (inr c) = inl c

rules_out : (b : Bool) → (b ≡ true → ⊥) → b ≡ false
rules_out true none = absurd (none refl)
rules_out false none = refl

apart : (h k : Held) (c d : Asked) → (Conflict h k → ⊥) → Each (Owns h) (paths_of c) → Each (Owns k) (paths_of d) → (q : Names) → alters c q ≡ true → minds d q ≡ false
apart h k c d clear mine others q altered = rules_out (minds d q) (λ minded.
    let at = one_of (paths_of c) mine (alters_below c q altered) in
    let by = one_of (paths_of d) others (minds_near d q minded) in
    elim by.2 [
      | inl up ↦ clear (clash h k at.0 by.0 at.1 by.1.keeps (is_prefix-trans at.0 q by.0 at.2 up))
      | inr down ↦ elim (comparable at.0 by.0 q at.2 down) [
        | inl a ↦ clear (clash h k at.0 by.0 at.1 by.1.keeps a)
        | inr b ↦ clear (swap h k (clash k h by.0 at.0 by.1 at.1.keeps b))
      ]
    ])

-- calls at paths that two requests hold exclusively
pub owners_are_free : (h k : Held) (c d : Asked) → (Conflict h k → ⊥) → Each (Owns h) (paths_of c) → Each (Owns k) (paths_of d) → AreFree c d
owners_are_free h k c d clear mine others = record {
  left = λ q altered. apart h k c d clear mine others q altered;
  right = λ q altered. apart k h d c (λ conflict. clear (swap h k conflict)) others mine q altered;
}

spares : (h k : Held) (c d : Asked) → (Conflict h k → ⊥) → IsAtPath d → Each (Owns h) (paths_of c) → Each (Keeps k) (paths_of d) → (q : Names) → alters c q ≡ true → minds d q ≡ false
spares h k c d clear one mine others q altered = rules_out (minds d q) (λ minded.
    let at = one_of (paths_of c) mine (alters_below c q altered) in
    let by = one_of (paths_of d) others (minds_above d q one minded) in
    clear (clash h k at.0 by.0 at.1 by.1 (is_prefix-trans at.0 q by.0 at.2 by.2)))

-- a call at paths that a request holds exclusively, and a look at one that another holds in any way
pub looks_are_free : (h k : Held) (c d : Asked) → (Conflict h k → ⊥) → IsLook d → Each (Owns h) (paths_of c) → Each (Keeps k) (paths_of d) → AreFree c d
looks_are_free h k c d clear look mine others = record {
  left = λ q altered. spares h k c d clear (look_at d look) mine others q altered;
  right = λ q altered. absurd (false≢true (sym (look_alters d q look) ∙ altered));
}

-- A call at paths that a request holds exclusively, and one at a path that another holds in any way, where this path stands above none of those.
pub changes_are_free : (h k : Held) (c d : Asked) → (Conflict h k → ⊥) → IsAtPath d → Each (Owns h) (paths_of c) → Each (Keeps k) (paths_of d) → Each (StandsApart (paths_of d)) (paths_of c) → AreFree c d
changes_are_free h k c d clear one mine others distant = record {
  left = λ q altered. spares h k c d clear one mine others q altered;
  right = λ q altered. rules_out (minds c q) (λ minded.
      let at = one_of (paths_of c) (both_of (Owns h) (StandsApart (paths_of d)) (paths_of c) mine distant) (minds_near c q minded) in
      let by = one_of (paths_of d) (both_of (Keeps k) (λ (p : Names). is_prefix p at.0 ≡ false) (paths_of d) others at.1.1) (alters_below d q altered) in
      elim at.2 [
        | inl up ↦ false≢true (sym by.1.1 ∙ is_prefix-trans by.0 q at.0 by.2 up)
        | inr down ↦ elim (comparable at.0 by.0 q down by.2) [
          | inl a ↦ clear (clash h k at.0 by.0 at.1.0 by.1.0 a)
          | inr b ↦ false≢true (sym by.1.1 ∙ b)
        ]
      ]);
}
