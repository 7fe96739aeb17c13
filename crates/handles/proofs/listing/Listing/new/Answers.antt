use Rattle.std.proofs.Common.{◌≡◌, ◌∷◌, ◌∙◌, List, ap, codes, refl}
use Rattle.std.specs.List.{filter}
use Rattle.backing.specs.declared.call.Child.{Child}
use Rattle.handles.specs.Listings.{folder_at, Shows}
use Rattle.handles.proofs.Sorting.{listed, shown}
use Rattle.handles.proofs.listing.Listing.new.Goals as goal

below_dots : (c : goal.In-Ok) → c.in-Ok.entries.items ≡ folder_at (codes ".") ∷ folder_at (codes "..") ∷ filter shown c.in-Some.names.items
below_dots c = c.in-Ok.ensures ∙ ap (λ (names : List Child). folder_at (codes ".") ∷ folder_at (codes "..") ∷ names) c.drop_reserved.ensures

shows : (c : goal.In-Ok) → Shows c.args.children c.in-Ok.entries.items
shows c = listed c.args.children c.in-Some.names.items c.in-Ok.entries.items c.in-Some.ensures (below_dots c)

pub invariant_of-result : goal.invariant_of-result
invariant_of-result c = (shows c).listing

pub returns : goal.returns
returns c = (c.in-Some.ensures.lawful, refl, refl, shows c)
