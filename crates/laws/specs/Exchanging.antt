-- What a call may change in a tree, and what may matter to it.
use Rattle.std.specs.Prelude.{◌≡◌, ◌||◌, Bool, true, false, List, [], ◌∷◌, None}
use Rattle.paths.specs.Prefixes.{Names, is_prefix}
use Rattle.backing.specs.Tree.{is_path}
use Rattle.backing.specs.Calls.{Asked, AskStat, AskList, AskMake, AskMakeDir, AskMakeLink, AskRemove, AskRemoveDir, AskRename, AskRenameNew, AskExchange, AskLink, AskRead, AskReadLink, AskWrite, AskSetLen, AskSync, AskSetPermissions, AskSetOwner, AskSetTimes, Test, BelowRoot, Reached, Present, Free, FileAt, LinkAt, FolderAt, NoFolder, Bare, Differs, NotInto, NotOver, NoOtherOnFolder, NoFolderOnOther, Fits, OneName, tests_of}

-- the paths at which a call may change what stands
abbrev pub alters : Asked → Names → Bool
alters (AskStat p) q = false
alters (AskList p) q = false
alters (AskMake p permissions) q = is_path p q
alters (AskMakeDir p permissions) q = is_path p q
alters (AskMakeLink p text) q = is_path p q
alters (AskRemove p) q = is_path p q
alters (AskRemoveDir p) q = is_path p q
alters (AskRename s t) q = is_prefix s q || is_prefix t q
alters (AskRenameNew s t) q = is_prefix s q || is_prefix t q
alters (AskExchange s t) q = is_prefix s q || is_prefix t q
alters (AskLink s t) q = false
alters (AskRead p offset size) q = false
alters (AskReadLink p) q = false
alters (AskWrite p offset piece) q = is_path p q
alters (AskSetLen p size) q = is_path p q
alters (AskSync p) q = false
alters (AskSetPermissions p permissions) q = false
alters (AskSetOwner p uid gid) q = false
alters (AskSetTimes p accessed modified) q = false

-- the paths at which what stands may matter to a test
abbrev pub needs : Test → Names → Bool
needs (BelowRoot p) q = false
needs (Reached p) q = is_prefix q p
needs (Present p) q = is_path p q
needs (Free p) q = is_path p q
needs (FileAt p) q = is_path p q
needs (LinkAt p) q = is_path p q
needs (FolderAt p) q = is_path p q
needs (NoFolder p) q = is_path p q
needs (Bare p) q = is_prefix p q
needs (Differs s t) q = false
needs (NotInto s t) q = false
needs (NotOver s t) q = false
needs (NoOtherOnFolder s t) q = is_path s q || is_path t q
needs (NoFolderOnOther s t) q = is_path s q || is_path t q
needs (Fits limit end) q = false
needs OneName q = false

abbrev pub needs_any : List Test → Names → Bool
needs_any [] q = false
needs_any (test ∷ tests) q = needs test q || needs_any tests q

-- the paths at which what stands may matter to its work
abbrev pub works_on : Asked → Names → Bool
works_on (AskStat p) q = is_path p q
works_on (AskList p) q = is_prefix p q
works_on (AskMake p permissions) q = is_path p q
works_on (AskMakeDir p permissions) q = is_path p q
works_on (AskMakeLink p text) q = is_path p q
works_on (AskRemove p) q = is_path p q
works_on (AskRemoveDir p) q = is_path p q
works_on (AskRename s t) q = is_prefix s q || is_prefix t q
works_on (AskRenameNew s t) q = is_prefix s q || is_prefix t q
works_on (AskExchange s t) q = is_prefix s q || is_prefix t q
works_on (AskLink s t) q = false
works_on (AskRead p offset size) q = is_path p q
works_on (AskReadLink p) q = is_path p q
works_on (AskWrite p offset piece) q = is_path p q
works_on (AskSetLen p size) q = is_path p q
works_on (AskSync p) q = is_path p q
works_on (AskSetPermissions p permissions) q = is_path p q
works_on (AskSetOwner p uid gid) q = is_path p q
works_on (AskSetTimes p accessed modified) q = is_path p q

-- the paths at which what stands may matter to a call, however long a file may be
abbrev pub minds : Asked → Names → Bool
minds call q = needs_any (tests_of None call) q || works_on call q

-- what the one may change does not matter to the other, nor the other way round
pub record AreFree (c d : Asked) : Type 0 where
  pub left : (q : Names) → alters c q ≡ true → minds d q ≡ false
  pub right : (q : Names) → alters d q ≡ true → minds c q ≡ false
