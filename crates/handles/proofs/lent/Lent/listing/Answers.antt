use Rattle.std.proofs.Common.{◌≡◌, ◌∙◌}
use Rattle.handles.proofs.Showing.{shown_by}
use Rattle.handles.proofs.lent.Lent.listing.Goals as goal

pub returns : goal.returns
returns c =
    let entry = c.self.inside.entry in
    shown_by entry.hand.value (λ it. it.value) (λ stored. stored.listing) (λ it. it.key ≡ entry.spot.key) c.value.result.now entry.filled c.value.ensures.same ∙ c.self.view_is
