-- The traffic of a link.
use Rattle.std.specs.Prelude.{ℕ, List, [], ◌∷◌, ◌++◌}
use Rattle.engine.specs.Links.{Event, In, Out}
use Rattle.engine.specs.declared.links.Sent.TheVariants as sent

-- the replies that were taken, one after another
abbrev pub taken_in : List Event → List ℕ
taken_in [] = []
taken_in (In heard ∷ events) = taken_in events
taken_in (Out frame sent.Taken ∷ events) = frame ++ taken_in events
taken_in (Out frame sent.Untaken ∷ events) = taken_in events
taken_in (Out frame sent.Broken ∷ events) = taken_in events

-- the reply that broke the link, or nothing if none did
abbrev pub broken_in : List Event → List ℕ
broken_in [] = []
broken_in (In heard ∷ events) = broken_in events
broken_in (Out frame sent.Taken ∷ events) = broken_in events
broken_in (Out frame sent.Untaken ∷ events) = broken_in events
broken_in (Out frame sent.Broken ∷ events) = frame
