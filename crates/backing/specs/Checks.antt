-- The tests that several calls share, in order.
use Rattle.std.specs.Prelude.{List, [], ◌∷◌}
use Rattle.paths.specs.Prefixes.{Names}
use Rattle.backing.specs.Calls.{Test, BelowRoot, Reached, Present, Free, FileAt, LinkAt, FolderAt, NoFolder, Differs, NotInto, NotOver, NoOtherOnFolder, NoFolderOnOther, Bare}

-- something is at p
abbrev pub present_tests : Names → List Test
present_tests p = Reached p ∷ Present p ∷ []

-- something may be made at p
abbrev pub free_tests : Names → List Test
free_tests p = Reached p ∷ Free p ∷ []

-- a file is at p
abbrev pub file_tests : Names → List Test
file_tests p = Reached p ∷ Present p ∷ FileAt p ∷ []

-- a link is at p
abbrev pub link_tests : Names → List Test
link_tests p = Reached p ∷ Present p ∷ LinkAt p ∷ []

-- something else than a folder is at p
abbrev pub other_tests : Names → List Test
other_tests p = Reached p ∷ Present p ∷ NoFolder p ∷ []

-- a folder is at p
abbrev pub folder_tests : Names → List Test
folder_tests p = Reached p ∷ Present p ∷ FolderAt p ∷ []

-- something is at s, and it may be renamed
abbrev pub source_tests : Names → Names → List Test
source_tests s t = BelowRoot s ∷ BelowRoot t ∷ Reached s ∷ Present s ∷ []

-- it is of a kind that may replace what is at t
abbrev pub kind_tests : Names → Names → List Test
kind_tests s t = NoOtherOnFolder s t ∷ NoFolderOnOther s t ∷ []

-- it may be moved to t
abbrev pub room_tests : Names → Names → List Test
room_tests s t = NotInto s t ∷ NotOver s t ∷ Reached t ∷ NoOtherOnFolder s t ∷ NoFolderOnOther s t ∷ Bare t ∷ []

-- it may be moved to t, with nothing at t
abbrev pub new_tests : Names → Names → List Test
new_tests s t = Differs s t ∷ NotInto s t ∷ NotOver s t ∷ Reached t ∷ Free t ∷ []

-- it may be exchanged with what is at t
abbrev pub exchange_tests : Names → Names → List Test
exchange_tests s t = NotInto s t ∷ NotInto t s ∷ Reached t ∷ Present t ∷ []
