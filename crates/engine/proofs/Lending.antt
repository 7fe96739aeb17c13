-- What requests do with open folders.
use Rattle.std.proofs.Common.{ℕ, ◌≡◌, ◌≢◌, Bool, true, List, [], ◌∷◌, Option, Some, None, Result, Ok, Err, inl, inr, refl, sym, ap, subst, if◌then◌else◌}
use Rattle.std.specs.Prelude.{IfOk, OnErr}
use Rattle.std.proofs.lemmas.Bool.{eq-eqb, ne_eqb}
use Rattle.errno.specs.declared.TheConstants.{EBADF}
use Rattle.handles.specs.Listings.{IsLent, OpenFolder}
use Rattle.ops.specs.declared.intents.FolderUse.{FolderUse}
use Rattle.wire.specs.declared.reply.ReplyBody.{ReplyBody}
use Rattle.wire.specs.declared.reply.ReplyBody.TheVariants.{Failed}
use Rattle.ops.specs.Folders.{IsPaged}
use Rattle.ops.specs.Pages.{Paged}
use Rattle.ops.specs.declared.intents.FolderUse.TheVariants.{ReadEntries}
use Rattle.engine.specs.declared.folders.FolderAnswer.{FolderAnswer}
use Rattle.engine.specs.declared.folders.FolderAnswer.TheVariants as answers
use Rattle.handles.specs.Calls.{FolderCall, Lend}
use Rattle.engine.specs.Chain.{Chain}
use Rattle.engine.specs.Folders.{ByCalls, IsAnsweredBy, IsUsed, LacksAnswer, LendsPage, PagesOf, Uses, on_node}
use Rattle.engine.specs.Replies.{TakesMemory}

on : (node : ℕ) (folder : OpenFolder) → folder.number ≡ node → on_node node (Some folder) ≡ Some folder
on node folder e = ap (λ (b : Bool). if b then Some folder else None) (eq-eqb folder.number node e)

off : (node : ℕ) (folder : OpenFolder) → folder.number ≢ node → on_node node (Some folder) ≡ None
off node folder e = ap (λ (b : Bool). if b then Some folder else None) (ne_eqb folder.number node e)

module _ {D : Type 0} (keeps : D → FolderCall → D → Type 0) (node fh : ℕ) where
  -- nothing is lent
  pub unlent : (usage : FolderUse) (old new : D) → keeps old (Lend fh None) new → ByCalls keeps old new (λ folders. IsUsed node fh usage folders (Failed EBADF))
  unlent usage old new step = record {
    folders = Lend fh None ∷ [];
    chain = (new, step, refl);
    so = record { lent = None; is_lent = tt; more = []; folders_are = refl; uses = (refl, refl) };
  }

  -- the folder of another node is lent
  pub elsewhere : (usage : FolderUse) (folder : OpenFolder) (old new : D) → keeps old (Lend fh (Some folder)) new → IsLent fh folder → folder.number ≢ node → ByCalls keeps old new (λ folders. IsUsed node fh usage folders (Failed EBADF))
  elsewhere usage folder old new step lent other = record {
    folders = Lend fh (Some folder) ∷ [];
    chain = (new, step, refl);
    so = record {
      lent = Some folder;
      is_lent = lent;
      more = [];
      folders_are = refl;
      uses = subst (λ (f : Option OpenFolder). Uses f usage [] (Failed EBADF)) (sym (off node folder other)) (refl, refl);
    };
  }

  -- the folder of the node is lent
  pub here : (usage : FolderUse) (folder : OpenFolder) (more : List FolderCall) (meant : ReplyBody) (old mid new : D) → keeps old (Lend fh (Some folder)) mid → Chain keeps mid more new → IsLent fh folder → folder.number ≡ node → Uses (Some folder) usage more meant
      → ByCalls keeps old new (λ folders. IsUsed node fh usage folders meant)
  here usage folder more meant old mid new step then' lent same uses = record {
    folders = Lend fh (Some folder) ∷ more;
    chain = (mid, step, then');
    so = record {
      lent = Some folder;
      is_lent = lent;
      more = more;
      folders_are = refl;
      uses = subst (λ (f : Option OpenFolder). Uses f usage more meant) (sym (on node folder same)) uses;
    };
  }

  -- ---- a page of the folder of the node

  pub page_lent : (offset size : ℕ) (folder : OpenFolder) (page : Paged) (old new : D) → keeps old (Lend fh (Some folder)) new → IsLent fh folder → folder.number ≡ node → IsPaged true folder.entries offset size (Some page.entries) → page.from ≡ offset
      → ByCalls keeps old new (λ folders. LendsPage node fh offset size folders page)
  page_lent offset size folder page old new step lent same paged from = record {
    folders = Lend fh (Some folder) ∷ [];
    chain = (new, step, refl);
    so = record { folder = folder; is_lent = lent; on_node = same; paged = paged; from = from; folders_are = refl };
  }

  pub pages_lent : (offset size : ℕ) (folder : OpenFolder) (what : FolderAnswer) (old new : D) → keeps old (Lend fh (Some folder)) new → IsLent fh folder → folder.number ≡ node → PagesOf folder.entries offset size what
      → ByCalls keeps old new (λ folders. IsAnsweredBy node fh (ReadEntries offset size) folders what)
  pages_lent offset size folder (answers.Page page) old new step lent same (paged, from) = page_lent offset size folder page old new step lent same paged from
  pages_lent offset size folder (answers.Reply meant) old new step lent same (small, is) = here (ReadEntries offset size) folder [] meant old new new step refl lent same (refl, small, is)

  -- memory for an answer is refused
  pub lacks_reply : (usage : FolderUse) (meant : ReplyBody) (old new : D) → TakesMemory meant → ByCalls keeps old new (λ folders. IsUsed node fh usage folders meant) → ByCalls keeps old new (λ folders. LacksAnswer node fh usage folders)
  lacks_reply usage meant old new takes used = record { folders = used.folders; chain = used.chain; so = inr (meant, used.so, takes) }

  pub lacks_page : (offset size : ℕ) (page : Paged) (old new : D) → ByCalls keeps old new (λ folders. LendsPage node fh offset size folders page) → ByCalls keeps old new (λ folders. LacksAnswer node fh (ReadEntries offset size) folders)
  lacks_page offset size page old new lends = record { folders = lends.folders; chain = lends.chain; so = inl (page, lends.so) }

-- ---- results

pub ok_map : {A E : Type 0} (r : Result A E) (P Q : A → Type 0) → ((a : A) → P a → Q a) → IfOk r P → IfOk r Q
ok_map (Ok a) P Q f h = f a h
ok_map (Err e) P Q f h = tt

pub err_map : {A E : Type 0} (r : Result A E) (P Q : Type 0) → (P → Q) → OnErr r P → OnErr r Q
err_map (Ok a) P Q f h = tt
err_map (Err e) P Q f h = f h

pub on_err : {A E : Type 0} (r : Result A E) (P : Type 0) → P → OnErr r P
on_err (Ok a) P h = tt
on_err (Err e) P h = h
