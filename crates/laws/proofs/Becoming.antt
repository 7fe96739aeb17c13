-- What a call made of the objects, as the tree by paths shows it.
use Rattle.std.proofs.Common.{ℕ, ◌≡◌, Bool, Option, Some, None, IsSome, refl, sym, ap, ◌∙◌, subst}
use mathlib.Core.Path.{fun_ext}
use Rattle.std.proofs.lemmas.Bool.{false≢true}
use Rattle.paths.specs.Prefixes.{Names}
use Rattle.backing.specs.declared.entries.Item.{Item}
use Rattle.disk.specs.Answers as by_paths
use Rattle.laws.specs.Objects.{Objects, Named, HasOneName, AllAreItems, LeadsTo, what_is, tree_by_paths, stands_unlinked}
use Rattle.laws.specs.ObjectAnswers.{Becomes, Stays}
use Rattle.laws.proofs.Naming.{tree_of}

what_equal : (items items' : ℕ → Option Item) (found : Option ℕ) → ((object : ℕ) → found ≡ Some object → items' object ≡ items object) → what_is items' found ≡ what_is items found
what_equal items items' None same = refl
what_equal items items' (Some object) same = same object refl

-- at a path where nothing stands the tree has nothing, and at one where something stands it has something
pub nothing_at : (objects : Objects) (p : Names) → objects.at p ≡ None → tree_by_paths objects p ≡ None
nothing_at objects p e = ap (λ (o : Option ℕ). what_is objects.item o) e

pub item_at : (objects : Objects) (p : Names) (object : ℕ) (found : Option Item) → objects.at p ≡ Some object → objects.item object ≡ found → tree_by_paths objects p ≡ found
item_at objects p object found stands is = ap (λ (o : Option ℕ). what_is objects.item o) stands ∙ is

some_of : (objects : Objects) (p : Names) (found : Option ℕ) → AllAreItems objects → objects.at p ≡ found → IsSome found → IsSome (what_is objects.item found)
some_of objects p None are e some = absurd (false≢true some)
some_of objects p (Some object) are e some = are object (record { path = p; stands = e })

pub something_at : (objects : Objects) (p : Names) → AllAreItems objects → IsSome (objects.at p) → IsSome (tree_by_paths objects p)
something_at objects p are some = some_of objects p (objects.at p) are refl some

module _ {H : Type 0} (names : Named) (items : ℕ → Option Item) (old : H → Option ℕ) (objects : Objects) (new : H → Option ℕ) (became : Becomes names items old objects new) where
  pub becomes_tree : tree_by_paths objects ≡ tree_of names items
  becomes_tree = fun_ext (λ q.
      ap (λ (at : Named). what_is objects.item (at q)) became.at
      ∙ what_equal items objects.item (names q) (λ object e. became.are object (record { path = q; stands = e })))

  pub becomes_leads : (handle : H) (object : ℕ) (p : Names) → old handle ≡ Some object → names p ≡ Some object → LeadsTo objects (new handle) p
  becomes_leads handle object p opened stands = record {
    object = object;
    stands = ap (λ (at : Named). at p) became.at ∙ stands;
    holds = became.lead handle object opened (record { path = p; stands = stands });
  }

  pub becomes_once : HasOneName names → HasOneName objects.at
  becomes_once one = subst (λ (at : Named). HasOneName at) (sym became.at) one

module _ {H : Type 0} (linked : Bool) (objects objects' : Objects) (old new : H → Option ℕ) where
  -- where each object stands where it stood, so does what is open
  pub all_stay : (items : ℕ → Option Item) → Becomes objects.at items old objects' new → by_paths.AllStay (stands_unlinked linked objects old) (stands_unlinked linked objects' new)
  all_stay items became handle p (free, led) = (free, becomes_leads objects.at items old objects' new became handle led.object p led.holds led.stands)

  pub stays : Stays objects old objects' new → by_paths.Stays (tree_by_paths objects) (stands_unlinked linked objects old) (tree_by_paths objects') (stands_unlinked linked objects' new)
  stays became = record { tree = becomes_tree objects.at objects.item old objects' new became; stay = all_stay objects.item became }

pub stays_once : {H : Type 0} (objects objects' : Objects) (old new : H → Option ℕ) → HasOneName objects.at → Stays objects old objects' new → HasOneName objects'.at
stays_once objects objects' old new one became = becomes_once objects.at objects.item old objects' new became one
