-- What the kind of an item says about it.
use Rattle.std.proofs.Common.{◌≡◌, Option, Some, None, refl, sym}
use Rattle.std.proofs.lemmas.Option.{same_Some}
use Rattle.std.specs.Option.{option_map}
use Rattle.errno.specs.declared.TheConstants.{ENOTDIR}
use Rattle.payload.specs.declared.attributes.Kind.{Kind}
use Rattle.payload.specs.declared.attributes.Kind.TheVariants as kinds
use Rattle.backing.specs.declared.entries.Item.{Item}
use Rattle.backing.specs.declared.entries.Item.TheVariants.{Folder, File, Link, Special}
use Rattle.backing.specs.Tree.{kind_of, Blocks}

pub kind_none : (o : Option Item) → option_map kind_of o ≡ None → o ≡ None
kind_none None h = refl
kind_none (Some item) h = cc

pub kind_folder : (o : Option Item) → option_map kind_of o ≡ Some kinds.Folder → o ≡ Some Folder
kind_folder None h = cc
kind_folder (Some Folder) h = refl
kind_folder (Some (File bytes)) h = cc
kind_folder (Some (Link text)) h = cc
kind_folder (Some (Special special)) h = cc

-- nothing is below what is no folder
pub kind_blocks : (o : Option Item) (kind : Kind) → option_map kind_of o ≡ Some kind → (kind ≡ kinds.Folder → ⊥) → Blocks o ENOTDIR
kind_blocks None kind h other = cc
kind_blocks (Some Folder) kind h other = absurd (other (sym (same_Some kinds.Folder kind h)))
kind_blocks (Some (File bytes)) kind h other = refl
kind_blocks (Some (Link text)) kind h other = refl
kind_blocks (Some (Special special)) kind h other = refl
