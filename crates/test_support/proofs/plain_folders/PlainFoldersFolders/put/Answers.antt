use Rattle.std.proofs.Common.{◌≡◌, ℕ, List, length, Option, Some, Bor, refl, sym, ap, ◌∙◌, subst}
use denote.MutBor.{as_bor}
use Rattle.handles.specs.Listings.{OpenFolder}
use Rattle.test_support.specs.Plain.{shown, BearTheirs}
use Rattle.test_support.proofs.Plains.{shown_put, when_ok}
use Rattle.test_support.proofs.plain_folders.PlainFoldersFolders.put.Goals as goal

pub invariant_of-self : goal.invariant_of-self
invariant_of-self c = subst (λ (es : List (Option (Bor OpenFolder))). BearTheirs (shown es)) (sym c.reserve.ensures.items) c.self.invariant

pub invariant_of-self-2 : goal.invariant_of-self-2
invariant_of-self-2 c =
    let kept = c.reserve.new.self.items in
    let folder : Bor OpenFolder = as_bor c.leak-listing.result in
    let boxed : c.in_ok-boxed.boxed.value ≡ c.under.result = when_ok c.new.result c.in_ok-boxed.boxed (λ b. b.value ≡ c.under.result) c.in_ok-boxed.ensures.value c.new.ensures.ok in
    let bears : folder.now.fh ≡ length kept = ap (λ (f : OpenFolder). f.fh) (c.leak-listing.ensures.value ∙ (boxed ∙ c.under.ensures)) ∙ ap length (c.as_slice.ensures.value ∙ sym c.reserve.ensures.items) in
    subst (λ (es : List (Option (Bor OpenFolder))). BearTheirs (shown es)) (sym c.push_reserved.ensures.items)
    (shown_put kept folder (subst (λ (es : List (Option (Bor OpenFolder))). BearTheirs (shown es)) (sym c.reserve.ensures.items) c.self.invariant) bears)
