use Rattle.std.proofs.Common.{◌≡◌, ℕ, List, get_or, None, Option, Some, Bor, refl, sym, ap, ◌∙◌}
use Rattle.std.specs.Option.{option_map}
use Rattle.handles.specs.Listings.{OpenFolder}
use Rattle.test_support.specs.Plain.{at, shown}
use Rattle.test_support.proofs.Plains.{at_shown}
use Rattle.test_support.proofs.plain_folders.PlainFoldersFolders.lend.Goals as goal

pub returns : goal.returns
returns c =
    let kept = c.self.inside.kept.items in
    let entry = c.in_ok-get.field-0.now in
    let is : entry ≡ get_or kept c.args.fh None = c.in_ok-get.ensures.lookup.3.1 None ∙ ap (λ (es : List (Option (Bor OpenFolder))). get_or es c.args.fh None) c.deref.ensures.value in
    let there : entry ≡ Some c.in_ok-listing.listing = c.in_ok-listing.was in
    let stands : at (shown kept) c.args.fh ≡ Some c.in_ok-listing.listing.now = at_shown kept (shown kept) c.args.fh entry refl is ∙ ap (option_map (λ folder. folder.now)) there in (
      refl,
      sym (ap (λ (fs : List (Option OpenFolder)). at fs c.args.fh) (sym c.self.view_is) ∙ stands),
      record { bears = c.self.invariant c.args.fh c.in_ok-listing.listing.now stands; listing = c.attest.ensures },
    )
