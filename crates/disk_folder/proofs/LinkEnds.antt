-- How a link is read.
use Rattle.std.proofs.Common.{ℕ, Result, Ok, Err, IfOk, IfErr, ◌≡◌, ◌<◌, List, [], ◌∷◌, ◌++◌, Option, Some, None, IsSome, length, refl, sym, subst, inl, inr}
use Rattle.paths.specs.Prefixes.{Name, Names}
use Rattle.backing.specs.declared.call.Answer.{Answer}
use Rattle.backing.specs.declared.call.Answer.TheVariants.{Bytes}
use Rattle.backing.specs.declared.entries.Item.{Item}
use Rattle.backing.specs.declared.entries.Item.TheVariants.{Folder, Link}
use Rattle.backing.specs.Tree.{Tree, IsTree, IsLink, IsNoLink, Resolves}
use Rattle.backing.specs.Calls.{AskReadLink}
use Rattle.backing.proofs.Lawful.{some_item}
use Rattle.disk_folder.specs.declared.trouble.Trouble.{Trouble}
use Rattle.disk_folder.specs.declared.trouble.Trouble.TheVariants.{Refused, Failed}
use Rattle.disk_folder.specs.declared.trouble.Reason.TheVariants.{Root, Nothing, Taken, NoFolder, NoFile, NoLink, Folder as IsOne, Below, Names as HasNames}
use Rattle.disk_folder.specs.Ends.{Ends, Before}
use Rattle.disk_folder.specs.Seen.{IsUnread}
use Rattle.disk_folder.proofs.WayLemmas.{leads_below}

-- what is told is the text of the link
pub text_told : (at : Tree) (q : Names) (text : List ℕ) (result : Result Answer Trouble) → at q ≡ Some (Link text) → IfOk result (λ answer. (answer ≡ Bytes text) × (length text < 4096)) → IfOk result (λ answer. (own : List ℕ) × (at q ≡ Some (Link own)) × (answer ≡ Bytes own))
text_told at q text (Ok answer) link is = (text, link, is.0)
text_told at q text (Err trouble) link is = tt

link_yes : (o : Option Item) (text : List ℕ) → o ≡ Some (Link text) → IsLink o
link_yes o text e = subst (λ (x : Option Item). IsLink x) (sym e) tt

some_no_link : (o : Option Item) → IsNoLink o → IsSome o
some_no_link None h = absurd h
some_no_link (Some item) h = some_item (Some item) item refl

-- a link is read where folders lead
read_there : (at : Tree) (q : Names) (result : Result Answer Trouble) → Resolves at q → IfOk result (λ answer. (own : List ℕ) × (at q ≡ Some (Link own)) × (answer ≡ Bytes own)) → IfErr result (IsUnread at q) → Ends at (AskReadLink q) result at
read_there at q (Ok answer) down is err = ((down, (some_item (at q) (Link is.0) is.1, (link_yes (at q) is.0 is.1, tt))), ((is.0, is.1, is.2), refl))
read_there at q (Err (Failed errno)) down is err = Before refl
read_there at q (Err (Refused Nothing)) down is err = (inr (down, inl (err, refl)), refl)
read_there at q (Err (Refused NoLink)) down is err = (inr (down, inr (some_no_link (at q) err, inl (err, refl))), refl)
read_there at q (Err (Refused Root)) down is err = absurd err
read_there at q (Err (Refused Taken)) down is err = absurd err
read_there at q (Err (Refused NoFolder)) down is err = absurd err
read_there at q (Err (Refused NoFile)) down is err = absurd err
read_there at q (Err (Refused IsOne)) down is err = absurd err
read_there at q (Err (Refused Below)) down is err = absurd err
read_there at q (Err (Refused HasNames)) down is err = absurd err

-- in an open folder
pub read_link_ends : (at : Tree) (path up : Names) (name : Name) (result : Result Answer Trouble) → IsTree at → path ≡ up ++ name ∷ [] → at up ≡ Some Folder → IfOk result (λ answer. (own : List ℕ) × (at (up ++ name ∷ []) ≡ Some (Link own)) × (answer ≡ Bytes own)) → IfErr result (IsUnread at (up ++ name ∷ [])) → Ends at (AskReadLink path) result at
read_link_ends at path up name result t whole folder is err =
    subst (λ (q : Names). Ends at (AskReadLink q) result at) (sym whole) (read_there at (up ++ name ∷ []) result (leads_below at up name t folder) is err)
