-- Listings that are lent.
use Rattle.std.specs.Prelude.{[], Option, Some, None}
use Rattle.handles.specs.Listings.{OpenFolder}

-- the listing in a slot of the store; for an empty slot, which is never lent, a folder that does not exist
abbrev pub shown : {A : Type 0} → Option (Option A) → (A → OpenFolder) → OpenFolder
shown None listing = record { number = 0; fh = 0; entries = [] }
shown (Some None) listing = record { number = 0; fh = 0; entries = [] }
shown (Some (Some stored)) listing = listing stored
