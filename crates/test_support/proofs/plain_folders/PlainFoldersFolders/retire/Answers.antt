use Rattle.std.proofs.Common.{◌≡◌, ◌<◌, ℕ, List, length, get_or, None, Option, Bor, refl, sym, ap, ◌∙◌, subst}
use Rattle.std.specs.Prelude.{is_some, slice_set}
use Rattle.std.specs.Option.{option_map}
use Rattle.std.proofs.lemmas.List.{map-set}
use Rattle.handles.specs.Listings.{OpenFolder}
use Rattle.test_support.specs.Plain.{at, shown}
use Rattle.test_support.proofs.Plains.{at_shown, shown_less, some_shown}
use Rattle.test_support.proofs.plain_folders.PlainFoldersFolders.retire.Goals as goal

pub invariant_of-self : goal.invariant_of-self
invariant_of-self c =
    let within : c.args.fh < length c.self.inside.kept.items = subst (λ (es : List (Option (Bor OpenFolder))). c.args.fh < length es) c.deref.ensures.value c.in-Some.ensures.lookup.3.0 in
    shown_less c.self.inside.kept.items c.args.fh within c.self.invariant

pub returns : goal.returns
returns c =
    let kept = c.self.inside.kept.items in
    let is : c.in-Some.folder.now ≡ get_or kept c.args.fh None = c.in-Some.ensures.lookup.3.1 None ∙ ap (λ (es : List (Option (Bor OpenFolder))). get_or es c.args.fh None) c.deref.ensures.value in (
      c.is_some-gone.ensures ∙ sym (ap is_some (at_shown kept c.args.self.now c.args.fh c.in-Some.folder.now c.self.view_is is) ∙ some_shown c.in-Some.folder.now),
      map-set (option_map (λ folder. folder.now)) kept c.args.fh None ∙ ap (λ (fs : List (Option OpenFolder)). slice_set fs c.args.fh None) c.self.view_is,
    )
